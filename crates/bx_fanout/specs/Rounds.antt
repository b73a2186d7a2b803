-- The inputs and outs of a round, and the outcome of a run.
use Rattle.std.specs.Prelude.{ℕ, Bool, List, Result}
use Rattle.bx_entry.specs.Inputs.{ReadInput}
use Rattle.bx_entry.specs.Runs as runs
use Rattle.bx_entry.specs.declared.{Placing.Ghosts, input.Input.Input}
use Rattle.bx_fanout.specs.Runs as state
use Rattle.bx_fanout.specs.declared.{out.Out.Out, out.RoundFault.RoundFault, round.Round.Round}
use Rattle.bx_entry.specs.Placings.{Setup}

module _ {P : Type 0} {g : Ghosts P} where
  -- The configuration, the number of shards and the placing of the round.
  abbrev pub setup_in : Round P g → Setup
  setup_in r = state.setup_in r.state

  -- The number of workers that the round may use.
  abbrev pub workers_in : Round P g → ℕ
  workers_in r = r.workers

  -- The inputs that the round has started in all its runs, in order.
  abbrev pub inputs_of : Round P g → List ReadInput
  inputs_of r = state.inputs_of r.state

  -- The outs that the round has appended in all its runs, in order.
  abbrev pub added_by : Round P g → List runs.Out
  added_by r = state.added_by r.state

  -- Whether memory ran out before all answers to the last input were collected. Some shard then
  -- lacks entries.
  abbrev pub is_collecting : Round P g → Bool
  is_collecting r = state.is_collecting r.state

  -- The list has the entries of all inputs. Every shard has applied all of it, and has the state
  -- that the definitions give it.
  abbrev pub IsLevel : Round P g → Type 0
  IsLevel r = state.IsLevel r.state

  -- On `Ok`, the run started all `inputs`, appended the outs of all complete inputs, and advanced
  -- every shard. On `Err`, memory ran out after `admitted` of the `inputs` were started. In both
  -- cases, `before` with the run's outs appended is `after`.
  abbrev pub IsRun : Round P g → List Input → List Out → List Out → Round P g → Result (Unit {0}) RoundFault → Type 0
  IsRun old inputs before after new result = state.IsRun old.state inputs before after new.state result
