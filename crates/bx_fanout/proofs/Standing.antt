-- Proves that the invariant of a round's state holds after changes to its world.
use Rattle.std.proofs.Common.{◌≡◌, ◌∙◌, ℕ, zero, suc, true, false, List, Some, ap, is_none, length, map, replicate, slice_get, sym, true≢false}
use Rattle.std.proofs.lemmas.Option.{same_Some}
use Rattle.bx_entry.specs.Words.{ReadInput, Listed, read_input}
use Rattle.bx_entry.specs.Runs as runs
use Rattle.bx_entry.specs.declared.Placing.{Ghosts}
use Rattle.bx_entry.specs.Placings.{Setup}
use Rattle.bx_world.specs.Words.{setup_of, world_of, WorldState}
use Rattle.bx_world.specs.declared.world.World.{World}
use Rattle.bx_fanout.specs.Words.{Row, IsDone, IsConsistent, IsGiving, is_collecting, own, seen_out}
use Rattle.bx_fanout.specs.CurrentInputs.{IsLevel}
use Rattle.bx_fanout.specs.Runs as state
use Rattle.bx_fanout.specs.declared.round_state.RoundState.{RoundState}
use Rattle.bx_fanout.proofs.Finishing.{giving-at, giving-same, staged-at, staged-same}

pub giving-intake : (setup : Setup) (shards : ℕ) (placing : ℕ → ℕ → ℕ) (inputs : List ReadInput) (w : WorldState) (rows : List Row) (left : List runs.Out) (added : List runs.Out) → IsGiving setup inputs w rows left added →
    IsGiving (record setup { shards = shards; placing = placing }) inputs w rows left added
giving-intake setup shards placing inputs w rows left added i = record { list = i.list; rest = i.rest; untaken = i.untaken; fresh = i.fresh; left = i.left }

each-same : (n m k i : ℕ) → slice_get (replicate n m) k ≡ Some i → i ≡ m
each-same zero m k i found = absurd (true≢false (ap is_none found))
each-same (suc n) m zero i found = sym (same_Some m i found)
each-same (suc n) m (suc k) i found = each-same n m k i found

module _ {P : Type 0} {g : Ghosts P} where
  pub consistent-over : (p : RoundState P g) (v : World P g) → setup_of v ≡ setup_of p.world → (world_of v).list ≡ (world_of p.world).list → (world_of v).taken ≡ (world_of p.world).taken →
      (is_collecting p.stage ≡ true → ¬ IsLevel (world_of v)) → IsConsistent p → IsConsistent (record p { world = v })
  consistent-over p v setup list taken lags i = record {
    counted = i.counted;
    staged = staged-same (setup_of v) (setup_of p.world) (map read_input p.inputs) (world_of p.world) (world_of v) p.held p.stage (map seen_out p.added) setup list taken i.staged;
    lags = lags;
  }

  giving-done : (p : RoundState P g) → IsDone p → IsConsistent p → IsGiving (setup_of p.world) (map read_input p.inputs) (world_of p.world) p.held (map seen_out (own p.stage)) (map seen_out p.added)
  giving-done p done i = giving-at (setup_of p.world) (map read_input p.inputs) (world_of p.world) p.held p.stage (map seen_out p.added) done.none i.staged

  pub consistent-intake : (p : RoundState P g) (v : World P g) (shards : ℕ) (placing : ℕ → ℕ → ℕ) → setup_of v ≡ record (setup_of p.world) { shards = shards; placing = placing } →
      (world_of v).list ≡ (world_of p.world).list → (world_of v).taken ≡ (world_of p.world).taken → IsDone p → IsConsistent p → IsConsistent (record p { world = v })
  consistent-intake p v shards placing setup list taken done i =
      let inputs : List ReadInput = map read_input p.inputs in
      let left : List runs.Out = map seen_out (own p.stage) in
      record {
        counted = i.counted;
        staged = staged-at (setup_of v) inputs (world_of v) p.held p.stage (map seen_out p.added) done.none
            (giving-same (setup_of v) (record (setup_of p.world) { shards = shards; placing = placing }) inputs (world_of p.world) (world_of v) p.held left (map seen_out p.added) setup list taken
            (giving-intake (setup_of p.world) shards placing inputs (world_of p.world) p.held left (map seen_out p.added) (giving-done p done i)));
        lags = λ some. let none : is_collecting p.stage ≡ false = done.none in cc;
      }

  pub level-intake : (p : RoundState P g) (v : World P g) (shards : ℕ) → (world_of v).list ≡ (world_of p.world).list → (world_of v).applied ≡ replicate shards (length (world_of p.world).list) → IsDone p → IsConsistent p →
      state.IsLevel (record p { world = v })
  level-intake p v shards list applied done i = record {
    list = list ∙ (giving-done p done i).list;
    level = λ k n found. each-same shards (length (world_of p.world).list) k n (sym (ap (λ (ns : List ℕ). slice_get ns k) applied) ∙ found) ∙ sym (ap (λ (ls : List Listed). length ls) list);
    holds = λ k s found. (v.holds.holding k s found).holds;
  }
