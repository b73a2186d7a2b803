-- The number of a session's events that are never sent again does not fall.
use Rattle.std.proofs.Common.{◌≤◌, ℕ, List, [], ◌∷◌, fold, arith, subst, sym}
use Rattle.std.proofs.lemmas.{List.Sums.fold-append, Grind.common_steps}
use Rattle.bx_advice.specs.declared.config.Config.{Config}
use Rattle.bx_entry.specs.declared.entry.{Entry.Entry, EntryKind.EntryKind}
use Rattle.bx_entry.specs.Sessions.{Session, step_by, step, session, unopened, rider_of}
use Rattle.bx_theory.specs.Laws.{DoneNeverFalls}
use Rattle.bx_theory.proofs.Counts.{ride_both}

pub done_by : (config : Config) (place moment : ℕ) (s : Session) (k : EntryKind) → s.done ≤ (step_by config place moment s k).done
done_by config place moment s k = grind (arith, common_steps)

pub done_step : (config : Config) (s : Session) (e : Entry) → s.done ≤ (step config s e).done
done_step config s e =
    let u : Session = step_by config e.place e.moment s e.kind in
    ride_both config e.place u (rider_of e.kind e.rides) (λ (v : Session). s.done ≤ v.done) (done_by config e.place e.moment s e.kind)
    (λ rider h. let l : s.done ≤ (step_by config e.place e.moment s e.kind).done = done_by config e.place e.moment s e.kind in omega (arith, l))

done_run : (config : Config) (s : Session) (es : List Entry) → s.done ≤ (fold (step config) s es).done
done_run config s [] = omega arith
done_run config s (e ∷ es) = let a = done_step config s e in let b = done_run config (step config s e) es in omega arith

pub done_event_count_never_falls : DoneNeverFalls
done_event_count_never_falls config number xs ys =
    let same = fold-append (step config) (unopened number) xs ys in
    subst (λ (t : Session). (session config number xs).done ≤ t.done) (sym same) (done_run config (session config number xs) ys)
