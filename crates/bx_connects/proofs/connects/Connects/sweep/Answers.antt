use Rattle.std.proofs.Common.{rules, arith, ◌≡◌, ap, refl, ◌∙◌, length, not, nat_lt, ℕ, Option, Bool, false}
use Rattle.bx_connects.specs.declared.{connects.FiledAnswer.FiledAnswer, held.HeldConnect.HeldConnect}
use Rattle.std.proofs.lemmas.{List.Filters.length-filter_both, Map.Entries.lookup-filter-values, Map.Entries.option_filter}
use Rattle.std.specs.Cmp.{nat_eq_equiv}
use Rattle.indexmap.proofs.CallerLemmas.{filter-RetainsPairs}
use Rattle.bx_connects.specs.Connects.{count_filed_below, filing_at, is_both, kept_from, state_by, unswept}
use Rattle.bx_connects.proofs.connects.Connects.sweep.Goals as goal
use Rattle.std.proofs.lemmas.Grind.{common_steps}

abbrev stays : ℕ → FiledAnswer → Bool
stays before f = not (nat_lt f.place before)

kept : (c : goal.After-len) → c.retain.new.self.entries ≡ kept_from c.args.before c.self.inside.filed.entries
kept c = filter-RetainsPairs _ _ _ (λ k v b w g call. search rules) _ _ c.retain.ensures.filtered

kept_at : (c : goal.After-len) (p : ℕ) → filing_at c.retain.new.self.entries p ≡ option_filter (stays c.args.before) (filing_at c.self.inside.filed.entries p)
kept_at c p =
    ap (λ es. filing_at es p) (kept c) ∙ lookup-filter-values nat_eq_equiv (stays c.args.before) p c.self.inside.filed.entries c.len-len.ensures.unique

apart_still : (before : ℕ) (h : Option HeldConnect) (f : Option FiledAnswer) → is_both h f ≡ false → is_both h (option_filter (stays before) f) ≡ false
apart_still before h f h1 = grind (arith, common_steps)

pub invariant_of-self : goal.invariant_of-self
invariant_of-self c = grind (arith, common_steps, kept_at, apart_still)

pub returns-clause-swept : goal.returns-clause-swept
returns-clause-swept c = grind (arith, common_steps, kept)

pub returns-clause-count : goal.returns-clause-count
returns-clause-count c =
    let both = length-filter_both (λ (e : ℕ × FiledAnswer). nat_lt e.1.place c.args.before) _ (λ e. refl) c.self.inside.filed.entries in
    let count = ap (count_filed_below c.args.before) c.self.view_is in
    omega (arith, ap length (kept c), both, count, c.len-len.ensures.len, c.len.ensures.len)

state_kept : (before : ℕ) (h : Option HeldConnect) (f : Option FiledAnswer) → state_by h (option_filter (stays before) f) ≡ unswept before (state_by h f)
state_kept before h f = grind (arith, common_steps)

pub returns-clause-kept : goal.returns-clause-kept
returns-clause-kept c = grind (arith, common_steps, kept_at, state_kept)
