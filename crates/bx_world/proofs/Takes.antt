-- Each taken answer is the one that the list gives.
use Rattle.std.proofs.Common.{arith, Bool, cond, ◌≡◌, ℕ, ◌<◌, ⊎_elim, Option, Some, None, List, [], ◌∷◌, ◌++◌, length, take, drop, find, option_map, slice_index, nat_lt, ◌==◌, refl, sym, ap, ◌∙◌, append-nil, append_assoc, take-append-drop, true≢false}
use Rattle.bx_message.specs.declared.reply.Answer.{Answer}
use Rattle.bx_entry.specs.Words.{Listed, Filed, PlacedAnswer, answer_of, answer}
use Rattle.bx_shard.specs.Words.{Setup, shard_at, given_of}
use Rattle.bx_world.specs.Words.{WorldState, IsOutput, Runs, after, filed_under, added_in, admitted_in, ListIsAdmitted, TookBy, Took, EachTook, TakesAreAnswers}
use Rattle.bx_world.specs.declared.step.{Step.Step, StepOut.StepOut}
use Rattle.bx_world.specs.declared.step.Step.TheVariants.{Take}
use Rattle.bx_world.specs.declared.step.StepOut.TheVariants.{Taken}
use Rattle.bx_entry.specs.declared.entry.Ticket.{Ticket}
use Rattle.bx_theory.proofs.Lists.{answer_more}
use Rattle.bx_shard.proofs.Given.{found_answer}

-- ---- a filed answer is the list's

found_over : (setup : Setup) (list : List Listed) (taken : List ℕ) (k n place : ℕ) (f : Filed) → 0 < setup.config.limits.batch →
    find (λ (f : Filed). f.connect == place) (shard_at setup list taken k n).filed ≡ Some f → answer setup.config list place ≡ Some (answer_of f)
found_over setup list taken k n place f room e =
    sym (ap (λ (ys : List Listed). answer setup.config ys place) (take-append-drop n list)) ∙ answer_more setup.config (take n list) (drop n list) place (answer_of f) room (found_answer setup list taken k n place f e)

filed_answer : (setup : Setup) (w : WorldState) (t : Ticket) (a : PlacedAnswer) → 0 < setup.config.limits.batch → filed_under setup w t ≡ Some a → answer setup.config w.list t.place ≡ Some a
filed_answer setup w t a room e =
    under (nat_lt t.shard (length w.applied)) (find (λ (f : Filed). f.connect == t.place) (shard_at setup w.list w.taken t.shard (slice_index w.applied t.shard)).filed) (answer setup.config w.list t.place) a
    (λ f h. found_over setup w.list w.taken t.shard (slice_index w.applied t.shard) t.place f room h) e
  where
    under : (b : Bool) (o : Option Filed) (given : Option PlacedAnswer) (a : PlacedAnswer) → ((f : Filed) → o ≡ Some f → given ≡ Some (answer_of f)) → cond b (option_map answer_of o) None ≡ Some a → given ≡ Some a
    under b o given a found is = grind (arith, found)

-- ---- schedules

pub record Longer (v w : WorldState) : Type 0 where
  pub more : List Listed
  pub list : w.list ≡ v.list ++ more

after_list : (w : WorldState) (step : Step) (out : StepOut) → (after w step out).list ≡ w.list ++ added_in step out
after_list w step out = grind (arith, append-nil w.list)

pub after_longer : (w : WorldState) (step : Step) (out : StepOut) → Longer w (after w step out)
after_longer w step out = record { more = added_in step out; list = after_list w step out }

pub list_grows_as_admitted : ListIsAdmitted
list_grows_as_admitted setup w [] [] last r = ap (λ (v : WorldState). v.list) r ∙ sym (append-nil w.list)
list_grows_as_admitted setup w (step ∷ steps) (out ∷ outs) last r =
    list_grows_as_admitted setup (after w step out) steps outs last r.1
    ∙ ap (λ (xs : List Listed). xs ++ admitted_in steps outs) (after_list w step out)
    ∙ append_assoc w.list (added_in step out) (admitted_in steps outs)
list_grows_as_admitted setup w [] (out ∷ outs) last r = absurd r
list_grows_as_admitted setup w (step ∷ steps) [] last r = absurd r

pub longer_after : (u v w : WorldState) → Longer u v → Longer v w → Longer u w
longer_after u v w l m = record { more = l.more ++ m.more; list = m.list ∙ ap (λ (xs : List Listed). xs ++ m.more) l.list ∙ append_assoc u.list l.more m.more }

pub run_longer : (setup : Setup) (w : WorldState) (steps : List Step) (outs : List StepOut) (last : WorldState) → Runs setup w steps outs last → Longer w last
run_longer setup w steps outs last r = record { more = admitted_in steps outs; list = list_grows_as_admitted setup w steps outs last r }

given_answer : (setup : Setup) (w : WorldState) (t : Ticket) (a : Answer) (last : WorldState) → 0 < setup.config.limits.batch → (o : Option PlacedAnswer) → filed_under setup w t ≡ o → option_map given_of o ≡ Some a →
    Longer w last → option_map given_of (answer setup.config last.list t.place) ≡ Some a
given_answer setup w t a last room None e g l = cc
given_answer setup w t a last room (Some p) e g l =
    ap (option_map given_of) (ap (λ (xs : List Listed). answer setup.config xs t.place) l.list ∙ answer_more setup.config w.list l.more t.place p room (filed_answer setup w t p room e)) ∙ g

took_by : (setup : Setup) (w : WorldState) (t : Ticket) (out : StepOut) (last : WorldState) → 0 < setup.config.limits.batch → out ≡ Taken (option_map given_of (filed_under setup w t)) → Longer w last → TookBy setup.config last.list t out
took_by setup w t (Taken (Some a)) last room e l = let g : option_map given_of (filed_under setup w t) ≡ Some a = cc in given_answer setup w t a last room (filed_under setup w t) refl g l
took_by setup w t _ last room e l = tt

took : (setup : Setup) (w : WorldState) (step : Step) (out : StepOut) (last : WorldState) → 0 < setup.config.limits.batch → IsOutput setup w step out → Longer w last → Took setup.config last.list step out
took setup w (Take t) out last room i l = ⊎_elim (λ e. took_by setup w t out last room e l) (λ m. absurd (true≢false (sym m.0))) i
took setup w _ out last room i l = tt

each_took : (setup : Setup) (w : WorldState) (steps : List Step) (outs : List StepOut) (last : WorldState) → 0 < setup.config.limits.batch → Runs setup w steps outs last → EachTook setup.config last.list steps outs
each_took setup w [] outs last room r = tt
each_took setup w (step ∷ steps) [] last room r = tt
each_took setup w (step ∷ steps) (out ∷ outs) last room r = (
  took setup w step out last room r.0 (longer_after w (after w step out) last (after_longer w step out) (run_longer setup (after w step out) steps outs last r.1)),
  each_took setup (after w step out) steps outs last room r.1,
)

pub taken_answers_match_one_thread : TakesAreAnswers
taken_answers_match_one_thread setup first steps outs last room r = each_took setup first steps outs last room r
