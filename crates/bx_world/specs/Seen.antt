-- The program's world as a `WorldState`, for the definitions.
use Rattle.std.specs.Prelude.{ℕ, ◌≡◌, ◌++◌, ◌<◌, List, map, length, slice_get, take, Some, Result, Ok, Err}
use Rattle.std.specs.Arc.{arc_value}
use Rattle.bx_entry.specs.declared.Placing.{Ghosts}
use Rattle.bx_shard.specs.Words.{Refines, state, Setup}
use Rattle.bx_shard.specs.declared.shard.Shard.{Shard}
use Rattle.bx_entry.specs.Placings.{placed_by}
use Rattle.bx_world.specs.Headline.{AsOneThread}
use Rattle.bx_world.specs.Worlds.{WorldState, IsOutput, Runs, after}
use Rattle.bx_world.specs.declared.{step.Step.Step, step.StepOut.StepOut, world.World.World}

module _ {P : Type 0} {g : Ghosts P} where
  -- The configuration of a world, with its number of shards and its placing.
  abbrev pub setup_of : World P g → Setup
  setup_of w = placed_by w.registry.config w.registry.shards (g.place_of (arc_value w.placing))

  -- The program's world as a `WorldState`: the list, how many entries each shard has applied, and
  -- the places of the taken answers.
  abbrev pub world_of : World P g → WorldState
  world_of w = record { list = w.registry.list; applied = map (λ (s : Shard P). s.place) w.shards.items; taken = w.taken }

  -- `new` is the world `old` after `step` with the output `out`, which is one that the definition
  -- `IsOutput` allows. The setup is unchanged.
  pub record Steps (old : World P g) (step : Step) (out : StepOut) (new : World P g) : Type 0 where
    pub output : IsOutput (setup_of old) (world_of old) step out
    pub world : world_of new ≡ after (world_of old) step out
    pub setup : setup_of new ≡ setup_of old

  -- Each shard agrees with its definition `shard_at` for its index and place. It has the same live
  -- sessions, with queue, batch and counts, and the same filed answers.
  abbrev pub ShardsRefine : World P g → Type 0
  ShardsRefine w = (k : ℕ) (s : Shard P) → slice_get w.shards.items k ≡ Some s → Refines (setup_of w) w.registry.list w.taken k s.place (state g.place_of s)

  -- `steps` ran in order and changed the world `old` to `new`. `outs` is `before` followed by their
  -- outputs. The outputs are those of a server that handles one message at a time. The shards of
  -- `new` agree with their definition `shard_at`.
  pub record Ran (old : World P g) (steps : List Step) (before outs : List StepOut) (new : World P g) : Type 0 where
    pub given : List StepOut
    pub behind : outs ≡ before ++ given
    pub runs : Runs (setup_of old) (world_of old) steps given (world_of new)
    pub one : AsOneThread (setup_of old) (world_of old) steps given (world_of new)
    pub holds : ShardsRefine new
    pub setup : setup_of new ≡ setup_of old

  -- All steps ran, or memory ran out for the output of step `n` and only the steps before it ran.
  abbrev pub RanUpTo : World P g → List Step → List StepOut → List StepOut → World P g → Result (Unit {0}) ℕ → Type 0
  RanUpTo old steps before outs new (Ok tt) = Ran old steps before outs new
  RanUpTo old steps before outs new (Err n) = (n < length steps) × Ran old (take n steps) before outs new
