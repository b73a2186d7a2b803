-- Proves the outcome of a run, in terms of the definitions.
use Rattle.std.proofs.Common.{◌≡◌, ℕ, ◌<◌, ◌≤◌, List, [], ◌∷◌, ◌++◌, length, map, take, filter, sym, ap, subst, ◌∙◌, arith, Result, Ok, Err, append_assoc}
use Rattle.std.proofs.lemmas.List.{map-append}
use Rattle.bx_entry.specs.Words.{ReadInput, read_input, outs}
use Rattle.bx_entry.specs.Runs as runs
use Rattle.bx_entry.specs.declared.{Placing.Ghosts, input.Input.Input}
use Rattle.bx_entry.specs.Placings.{Setup}
use Rattle.bx_world.specs.Words.{setup_of, world_of, WorldState}
use Rattle.bx_fanout.specs.Words.{Row, outs_of, AddsOuts, IsSettled, IsConsistent, IsGiving, IsStaged, seen_out}
use Rattle.bx_theory.specs.Opens.{is_whole, out_of, registry_after, waiting_at}
use Rattle.bx_fanout.specs.Runs.{Adds, IsLevel, IsRun, Runs, added_by, inputs_of}
use Rattle.bx_fanout.specs.CurrentInputs as current
use Rattle.bx_fanout.specs.declared.{stage.Stage.Stage, out.Out.Out, out.RoundFault.RoundFault, round_state.RoundState.RoundState}
use Rattle.bx_fanout.specs.declared.stage.Stage.TheVariants.{Collecting, Complete, Idle}
use Rattle.bx_fanout.specs.declared.out.RoundFault.TheVariants.{Memory}
use Rattle.bx_fanout.proofs.Admitted.{all-added}
use Rattle.bx_theory.proofs.Opens.{input_appends_outs_it_completes}

record Front (setup : Setup) (inputs : List ReadInput) (added : List runs.Out) : Type 0 where
  rest : List runs.Out
  front : outs setup.config inputs ≡ added ++ rest

front-giving : (setup : Setup) (inputs : List ReadInput) (w : WorldState) (rows : List Row) (left added : List runs.Out) → IsGiving setup inputs w rows left added → Front setup inputs added
front-giving setup inputs w rows left added i = record {
  rest = map seen_out (outs_of rows) ++ left;
  front = sym i.left ∙ append_assoc added (map seen_out (outs_of rows)) left;
}

front-by : (setup : Setup) (inputs : List ReadInput) (w : WorldState) (rows : List Row) (stage : Stage) (added : List runs.Out) → 0 < setup.config.limits.batch → IsStaged setup inputs w rows stage added → Front setup inputs added
front-by setup inputs w rows Idle added batch i = front-giving setup inputs w rows [] added i
front-by setup inputs w rows (Collecting n) added batch d =
    let r = registry_after setup.config (d.earlier ++ d.last ∷ []) in
    let more : List runs.Out = map (out_of setup.config r) (filter (is_whole setup.config r) (waiting_at setup.config d.earlier d.last)) in
    record {
      rest = more;
      front = ap (outs setup.config) d.are ∙ input_appends_outs_it_completes setup.config d.earlier d.last batch ∙ ap (λ (os : List runs.Out). os ++ more) (sym d.collecting.outs_before);
    }
front-by setup inputs w rows (Complete n) added batch i = front-giving setup inputs w rows (seen_out (current.out_of n) ∷ []) added i

at-end : (m n : ℕ) → m ≤ n → n ≤ m → n ≡ m
at-end m n low high = omega arith

module _ {P : Type 0} {g : Ghosts P} where
  adds-of : (old new : RoundState P g) (before after : List Out) → 0 < (setup_of new.world).config.limits.batch → IsConsistent new → AddsOuts old before after new → Adds old before after new
  adds-of old new before after batch s a =
      let f = front-by (setup_of new.world) (inputs_of new) (world_of new.world) new.held new.stage (added_by new) batch s.staged in
      record {
        more = a.more;
        behind = a.behind;
        added = ap (map seen_out) a.added ∙ map-append seen_out old.added a.more;
        rest = f.rest;
        front = f.front;
        setup = a.setup;
      }

  giving-settled : (new : RoundState P g) → IsConsistent new → IsSettled new → IsGiving (setup_of new.world) (inputs_of new) (world_of new.world) new.held [] (added_by new)
  giving-settled new s settled = subst (λ (stage : Stage). IsStaged (setup_of new.world) (inputs_of new) (world_of new.world) new.held stage (added_by new)) settled.calm.idle s.staged

  level-of : (new : RoundState P g) → IsConsistent new → IsSettled new → IsLevel new
  level-of new s settled = record {
    list = (giving-settled new s settled).list;
    level = λ k n found. at-end (length (world_of new.world).list) n (settled.level k n found) (settled.within k n found);
    holds = λ k s found. (new.world.holds.holding k s found).holds;
  }

  pub run-is : (old new : RoundState P g) (inputs : List Input) (before after : List Out) (r : Result (Unit {0}) RoundFault) → 0 < (setup_of new.world).config.limits.batch → IsConsistent new → Runs old inputs before after new r → IsRun old inputs before after new r
  run-is old new inputs before after (Ok tt) batch s runs = (
    adds-of old new before after batch s runs.0,
    ap (map read_input) runs.1 ∙ map-append read_input old.inputs inputs,
    all-added (setup_of new.world) (inputs_of new) (world_of new.world) new.held (added_by new) (giving-settled new s runs.2) runs.2.calm.held,
    level-of new s runs.2,
  )
  run-is old new inputs before after (Err (Memory admitted)) batch s runs = (
    adds-of old new before after batch s runs.0,
    runs.1,
    ap (map read_input) runs.2 ∙ map-append read_input old.inputs (take admitted inputs),
  )
