-- All laws of schedules, combined.
use Rattle.std.proofs.Common.{◌≡◌, ℕ, ◌+◌, ◌-◌, ◌≤◌, List, take, drop, sym, ap, ◌∙◌, subst, arith, ◌++◌}
use Rattle.std.proofs.Math.Seq.{take-add}
use Rattle.bx_advice.specs.declared.config.Config.{Config}
use Rattle.bx_entry.specs.Words.{Listed, entries, session}
use Rattle.bx_entry.specs.declared.entry.Entry.{Entry}
use Rattle.bx_theory.specs.Fronts.{session_before}
use Rattle.bx_theory.proofs.Done.{done_event_count_never_falls}
use Rattle.bx_world.specs.Headline.{Headline}
use Rattle.bx_world.proofs.{Takes.list_grows_as_admitted, Takes.taken_answers_match_one_thread, Files.no_answer_taken_twice, Replies.replies_match_one_thread, Giving.no_event_given_again, Repeats.batches_repeat, Apart.plain_events_given_once}

done_rises : (config : Config) (list : List Listed) (number m n : ℕ) → m ≤ n → (session_before config list number m).done ≤ (session_before config list number n).done
done_rises config list number m n fewer =
    let count : n ≡ m + (n - m) = omega (arith, fewer) in
    let parts : take n (entries config list) ≡ take m (entries config list) ++ take (n - m) (drop m (entries config list)) =
    ap (λ (j : ℕ). take j (entries config list)) count ∙ take-add m (n - m) (entries config list) in
    subst (λ (xs : List Entry). (session config number (take m (entries config list))).done ≤ (session config number xs).done) (sym parts)
    (done_event_count_never_falls config number (take m (entries config list)) (take (n - m) (drop m (entries config list))))

pub headline : Headline
headline setup first steps outs last room r = record {
  list = list_grows_as_admitted setup first steps outs last r;
  taken = taken_answers_match_one_thread setup first steps outs last room r;
  replied = replies_match_one_thread setup first steps outs last room r;
  once = no_answer_taken_twice setup first steps outs last r;
  again = batches_repeat setup first steps outs last room r;
  done = done_rises setup.config last.list;
  never = no_event_given_again setup first steps outs last room r;
  apart = plain_events_given_once setup first steps outs last room r;
}
