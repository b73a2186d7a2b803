-- The inputs and outs of a round's state, and the outcome of a run.
use Rattle.std.specs.Prelude.{ℕ, ◌≡◌, ◌≤◌, ◌++◌, Bool, List, [], ◌∷◌, map, length, take, slice_get, Some, Result, Ok, Err}
use Rattle.bx_advice.specs.declared.config.Config.{Config}
use Rattle.bx_entry.specs.declared.{Placing.Ghosts, input.Input.Input}
use Rattle.bx_entry.specs.Words.{ReadInput, read_input, held, outs, taken_in}
use Rattle.bx_entry.specs.Runs as runs
use Rattle.bx_fanout.specs.RoundStates.{AddsOuts, IsSettled}
use Rattle.bx_fanout.specs.Stages.{seen_out}
use Rattle.bx_fanout.specs.Stages as stages
use Rattle.bx_fanout.specs.declared.{out.Out.Out, out.RoundFault.RoundFault, round_state.RoundState.RoundState}
use Rattle.bx_fanout.specs.declared.out.RoundFault.TheVariants.{Memory}
use Rattle.bx_entry.specs.Placings.{Setup}
use Rattle.bx_world.specs.Seen.{ShardsRefine, setup_of, world_of}

-- `numbers` are those of the inputs that were incomplete before the last input, followed by the
-- number of the last input.
pub record AreHeldBefore (config : Config) (inputs : List ReadInput) (numbers : List ℕ) : Type 0 where
  pub earlier : List ReadInput
  pub last : ReadInput
  pub are : inputs ≡ earlier ++ last ∷ []
  pub numbers_are : numbers ≡ held config earlier ++ length earlier ∷ []

module _ {P : Type 0} {g : Ghosts P} where
  -- The configuration, the number of shards and the placing of the round.
  abbrev pub setup_in : RoundState P g → Setup
  setup_in r = setup_of r.world

  -- The inputs that the round has started in all its runs, in order.
  abbrev pub inputs_of : RoundState P g → List ReadInput
  inputs_of r = map read_input r.inputs

  -- The outs that the round has appended in all its runs, in order.
  abbrev pub added_by : RoundState P g → List runs.Out
  added_by r = map seen_out r.added

  -- Whether the answers to the last input are being collected.
  abbrev pub is_collecting : RoundState P g → Bool
  is_collecting r = stages.is_collecting r.stage

  -- The list has the entries of all inputs. Every shard has applied all of it, and has the state
  -- that the definitions give it.
  pub record IsLevel (r : RoundState P g) : Type 0 where
    pub list : (world_of r.world).list ≡ (taken_in (inputs_of r)).list
    pub level : (k n : ℕ) → slice_get (world_of r.world).applied k ≡ Some n → n ≡ length (world_of r.world).list
    pub holds : ShardsRefine r.world

  -- The run appended outs to `before`, resulting in `after`. The outs of all runs are a prefix of
  -- the outs that the inputs give. The setup is unchanged.
  pub record Adds (old : RoundState P g) (before after : List Out) (new : RoundState P g) : Type 0 where
    pub more : List Out
    pub behind : after ≡ before ++ more
    pub added : added_by new ≡ added_by old ++ map seen_out more
    pub rest : List runs.Out
    pub front : outs (setup_in new).config (inputs_of new) ≡ added_by new ++ rest
    pub setup : setup_in new ≡ setup_in old

  -- On `Ok`, the run started all `inputs`, appended the outs of all complete inputs, and advanced
  -- every shard. On `Err`, memory ran out after `admitted` of the `inputs` were started. In both
  -- cases, `before` with the run's outs appended is `after`.
  abbrev pub IsRun : RoundState P g → List Input → List Out → List Out → RoundState P g → Result (Unit {0}) RoundFault → Type 0
  IsRun old inputs before after new (Ok tt) =
      Adds old before after new × (inputs_of new ≡ inputs_of old ++ map read_input inputs) × (added_by new ≡ outs (setup_in new).config (inputs_of new)) × IsLevel new
  IsRun old inputs before after new (Err (Memory admitted)) =
      Adds old before after new × (admitted ≤ length inputs) × (inputs_of new ≡ inputs_of old ++ map read_input (take admitted inputs))

  -- On `Ok`, all `inputs` were started, and the state `new` has nothing left to collect, append or
  -- apply. On `Err`, memory ran out after `admitted` of the `inputs` were started. In both cases,
  -- `before` with the run's outs appended is `after`.
  abbrev pub Runs : RoundState P g → List Input → List Out → List Out → RoundState P g → Result (Unit {0}) RoundFault → Type 0
  Runs old inputs before after new (Ok tt) = AddsOuts old before after new × (new.inputs ≡ old.inputs ++ inputs) × IsSettled new
  Runs old inputs before after new (Err (Memory admitted)) = AddsOuts old before after new × (admitted ≤ length inputs) × (new.inputs ≡ old.inputs ++ take admitted inputs)
