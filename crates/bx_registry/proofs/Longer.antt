-- A list, followed by the elements of a plan: its live sessions and its entries.
use Rattle.std.proofs.Common.{◌≡◌, ℕ, ◌≤◌, List, ◌++◌, length, sym, ap, ◌∙◌, subst}
use Rattle.std.specs.Prelude.{fold}
use Rattle.std.proofs.lemmas.{List.map-append, List.Sums.fold-append}
use Rattle.bx_advice.specs.declared.config.Config.{Config}
use Rattle.bx_advice.specs.Limits.{greatest_length}
use Rattle.bx_entry.specs.declared.entry.Entry.{Entry}
use Rattle.bx_entry.specs.Words.{Listed, Judged, Registry, empty_registry, judge, registry, entries}
use Rattle.bx_theory.proofs.Lists.{judged_length}
use Rattle.bx_registry.specs.Words.{Amendment, CanCommit, Continues, GoesOn, LeadsTo, Roll, Standing, after, changed, entries_in, found, roll_at, roll_of}
use Rattle.bx_registry.specs.declared.plan.Plan.{Plan}
use Rattle.bx_registry.proofs.Steps.{roll_judges_list_as_registry}

-- ---- The length of the list

-- ---- The longer list

pub roll_on : (config : Config) (list added : List Listed) → after (roll_at config list) added ≡ roll_at config (list ++ added)
roll_on config list added =
    let go : GoesOn config (registry config list) (fold (judge config) (registry config list) added) added = roll_judges_list_as_registry config (registry config list) added in
    go.roll ∙ ap (roll_of config) (sym (fold-append (judge config) empty_registry list added))

pub judged_on : (config : Config) (list added : List Listed) → (registry config (list ++ added)).judged ≡ (registry config list).judged ++ found (roll_at config list) added
judged_on config list added =
    let r : Registry = registry config list in
    let go : GoesOn config r (fold (judge config) r added) added = roll_judges_list_as_registry config r added in
    ap (λ (s : Registry). s.judged) (fold-append (judge config) empty_registry list added) ∙ go.judged

pub entries_on : (config : Config) (list added : List Listed) → entries config (list ++ added) ≡ entries config list ++ entries_in (found (roll_at config list) added)
entries_on config list added =
    ap entries_in (judged_on config list added)
    ∙ map-append (λ (j : Judged). j.entry) (registry config list).judged (found (roll_at config list) added)

leads_to : (s : Standing) (change : Amendment) (added : List Listed) →
    CanCommit (roll_at s.config s.list) s.ready change → changed (roll_at s.config s.list) change ≡ after (roll_at s.config s.list) added → LeadsTo s change added
leads_to s change added planned made =
    let there : changed (roll_at s.config s.list) change ≡ roll_at s.config (s.list ++ added) = made ∙ roll_on s.config s.list added in
    let long : change.length ≡ length (s.list ++ added) = ap (λ (r : Roll). r.length) there ∙ judged_length s.config (s.list ++ added) in
    record { planned = planned; registered = there; long = long; bounded = subst (λ (n : ℕ). n ≤ greatest_length) long planned.planned.length }

pub continues : (s : Standing) (roll : Roll) (added : List Listed) (p : Plan) → roll ≡ roll_at s.config s.list → p.elements ≡ added → p.batch.first ≡ length s.list →
    p.batch.entries ≡ entries_in (found roll added) → CanCommit roll s.ready p.change → changed roll p.change ≡ after roll added → Continues s p
continues s roll added p at elements first entered planned made =
    subst (λ (es : List Listed). (let q : Plan = record p { elements = es } in Continues s q)) (sym elements)
    (record {
      first = first;
      entries = entries_on s.config s.list added ∙ ap (λ (r : Roll). entries s.config s.list ++ entries_in (found r added)) (sym at) ∙ ap (λ (es : List Entry). entries s.config s.list ++ es) (sym entered);
      change = leads_to s p.change added (subst (λ (r : Roll). CanCommit r s.ready p.change) at planned) (subst (λ (r : Roll). changed r p.change ≡ after r added) at made);
    })
