-- A session without its history, entry by entry, and the limits of its queue and batch.
use Rattle.std.proofs.Common.{◌≡◌, List, [], ◌∷◌, drop, fold, refl, ap, ◌∙◌}
use Rattle.std.proofs.lemmas.{Bool.cond_both, List.drop_all}
use Rattle.bx_advice.specs.declared.config.Config.{Config}
use Rattle.bx_entry.specs.declared.entry.Entry.{Entry}
use Rattle.bx_entry.specs.Sessions.{Session, Publication, step, unopened, session}
use Rattle.bx_entry.specs.Keeping.{Kept, kept, kept_step, KeptSteps, KeptRuns, KeptInBounds}
use Rattle.bx_entry.proofs.Settled.{Settled, step_s}
use Rattle.bx_theory.specs.Laws.{InStep}
use Rattle.bx_theory.proofs.{Keeps.queue_bounded, Counts.all_in_step, Counts.unopened_in_step}

pub entry_effect_ignores_history : KeptSteps
entry_effect_ignores_history config s e = let a : Settled (λ (t : Session). step config t e) = step_s config e in record { state = a.state s; answers = a.answers s }

run_kept : (config : Config) (s : Session) (k : Kept) (es : List Entry) → kept s ≡ k → kept (fold (step config) s es) ≡ fold (kept_step config) k es
run_kept config s k [] h = h
run_kept config s k (e ∷ es) h = run_kept config (step config s e) (kept_step config k e) es ((entry_effect_ignores_history config s e).state ∙ ap (λ (j : Kept). kept_step config j e) h)

pub kept_state_computed_without_history : KeptRuns
kept_state_computed_without_history config number es = run_kept config (unopened number) (kept (unopened number)) es refl

-- ---- Bounds

pub queue_and_batch_within_limits : KeptInBounds
queue_and_batch_within_limits config number es room =
    let s : Session = session config number es in
    let i : InStep config (session config number es) = all_in_step config (unopened number) es room (unopened_in_step config number) in
    record {
      queue = (queue_bounded config number es).events;
      bytes = (queue_bounded config number es).bytes;
      batch = i.small;
      front = i.front;
      plain = i.plain;
      idle = λ h. i.queue ∙ cond_both s.overflow [] (drop s.done s.events) (λ (q : List Publication). q ≡ []) (λ g. refl) (λ g. drop_all s.done s.events (i.idle h).0);
    }
