-- The results of advancing shards to a front of the list.
use Rattle.std.specs.Prelude.{ℕ, ◌≡◌, ◌<◌, ◌≤◌, List, length, IfSome, IfNone, option_map, unwrap_or}
use mathlib.Core.List.{IsPrefix}
use Rattle.bx_hub.specs.Faults.{IsAt, IsStopped}
use Rattle.bx_hub.specs.Walks.{walked_at}
use Rattle.bx_hub.specs.declared.{shard_state.evidence.ShardAdvance.ShardAdvance, walk.AdvanceReport.AdvanceReport}
use Rattle.bx_window.specs.Steps.{list_of}
use Rattle.bx_window.specs.declared.law.LogId as LogId
use Rattle.bx_window.specs.declared.law.LogStep.{LogStep}

module _ {L : Type 0} where
  -- `advanced` is the result of advancing a shard to `front`. The shard's reader has seen `front`.
  -- The shard has applied the list of `front`, or a fault stopped it.
  pub record IsAdvance (front : List LogStep) (advanced : ShardAdvance L) : Type 0 where
    pub prefix : advanced.prefix.value ≡ front
    pub seen : IsPrefix front advanced.front
    pub level : IfNone advanced.stays (length (list_of front) ≤ advanced.place)
    pub stopped : IfSome advanced.stays (λ f. IsStopped f advanced.index advanced.front × IsAt f advanced.place)

module _ {L : Type 0} {g : LogId.Ghosts L} where
  -- At step `step`, `round` recorded the result of advancing shard `index`.
  pub record IsWalked (round : AdvanceReport L g) (index : ℕ) : Type 0 where
    pub step : ℕ
    pub done : step < length round.stays
    pub is : walked_at round.first round.shards step ≡ index

  -- `round` has a result of advancing each of `shards` shards to `front`.
  pub record IsOfAll (shards : ℕ) (front : List LogStep) (round : AdvanceReport L g) : Type 0 where
    pub prefix : round.prefix.value ≡ front
    pub all : length round.stays ≡ shards
    pub each : (index : ℕ) → index < shards → IsWalked round index

  -- The lowest position in `round`: 0 if a shard was not found, or before the first result.
  abbrev pub lowest_of : AdvanceReport L g → ℕ
  lowest_of round = unwrap_or (option_map (λ s. s.place) round.lowest) 0
