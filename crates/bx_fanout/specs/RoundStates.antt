-- The state of a round between the steps of a run.
use Rattle.std.specs.Prelude.{ℕ, ◌≡◌, ◌≤◌, List, ◌++◌, true, false, filter, length, map, slice_get, Some}
use Rattle.bx_entry.specs.declared.Placing.{Ghosts}
use Rattle.bx_entry.specs.Requests.{read_input}
use Rattle.bx_world.specs.Seen.{setup_of, world_of}
use Rattle.bx_fanout.specs.HeldInputs.{waits}
use Rattle.bx_fanout.specs.CurrentInputs.{IsLevel}
use Rattle.bx_fanout.specs.Stages.{IsStaged, is_collecting, seen_out}
use Rattle.bx_fanout.specs.declared.{out.Out.Out, round_state.RoundState.RoundState}
use Rattle.bx_fanout.specs.declared.stage.Stage.TheVariants.{Idle}

module _ {P : Type 0} {g : Ghosts P} where
  -- In the state `p` of a round, `intake` is the number of inputs started, and the shards, the held
  -- connects and the appended outs are as the stage requires (`IsStaged`). While answers to the
  -- last input are left to collect, some shard lacks entries.
  pub record IsConsistent (p : RoundState P g) : Type 0 where
    pub counted : p.intake ≡ length p.inputs
    pub staged : IsStaged (setup_of p.world) (map read_input p.inputs) (world_of p.world) p.held p.stage (map seen_out p.added)
    pub lags : is_collecting p.stage ≡ true → ¬ IsLevel (world_of p.world)

  -- No answer to the last input is left to collect, and every shard is at the end of the list.
  pub record IsDone (p : RoundState P g) : Type 0 where
    pub none : is_collecting p.stage ≡ false
    pub level : IsLevel (world_of p.world)
    pub within : (k n : ℕ) → slice_get (world_of p.world).applied k ≡ Some n → n ≤ length (world_of p.world).list

  -- No answer is left to collect, and no out to append. Shards may still lack entries.
  pub record IsCalm (p : RoundState P g) : Type 0 where
    pub idle : p.stage ≡ Idle
    pub held : p.held ≡ filter waits p.held

  -- No answer is left to collect, no out to append, and every shard is at the end of the list.
  pub record IsSettled (p : RoundState P g) : Type 0 where
    pub calm : IsCalm p
    pub level : IsLevel (world_of p.world)
    pub within : (k n : ℕ) → slice_get (world_of p.world).applied k ≡ Some n → n ≤ length (world_of p.world).list

  -- From the state `old` to `new`, outs were appended to `before`, resulting in `after`, and
  -- recorded in `added`. The setup is unchanged.
  pub record AddsOuts (old : RoundState P g) (before after : List Out) (new : RoundState P g) : Type 0 where
    pub more : List Out
    pub behind : after ≡ before ++ more
    pub added : new.added ≡ old.added ++ more
    pub setup : setup_of new.world ≡ setup_of old.world
