-- A session, as shown to an operator.
use Rattle.std.specs.Prelude.{ℕ, ◌≡◌, length, is_some, slice_get, nat_eq, Option, Some, option_map}
use Rattle.std.specs.Map.{keys_of, lookup}
use Rattle.bx_entry.specs.Keeping.{Kept}
use Rattle.bx_entry.specs.Windows.{bytes_of}
use Rattle.bx_session.specs.Views.{WithRoom}
use Rattle.bx_shard.specs.Sessions.{kept_in, patterns_in}
use Rattle.bx_shard.specs.declared.{sessions.Sessions.Sessions, survey.SessionSurvey.SessionSurvey}

-- The moment at which session `n` was opened, if it is in the shard.
abbrev pub opened_in : Sessions → ℕ → Option ℕ
opened_in s n = option_map (λ (x : WithRoom). x.opened) (lookup (nat_eq n) s.by_number.entries)

-- The survey `shown` has the state, the queue and the batches of session `k`.
pub record IsSurveyOf (k : Kept) (shown : SessionSurvey) : Type 0 where
  pub ack_is : shown.ack ≡ k.ack
  pub overflow_is : shown.has_overflowed ≡ k.overflow
  pub held_is : shown.is_held ≡ is_some k.held
  pub events_are : shown.events ≡ length k.queue
  pub bytes_are : shown.bytes ≡ bytes_of k.queue
  pub outstanding_are : shown.outstanding ≡ k.out
  pub batch_is : shown.batch ≡ k.num

-- The survey `shown` is that of the session at `index` of the shard's sessions `s`. That session is
-- `k`, and has exactly the patterns shown.
pub record IsSurveyAt (s : Sessions) (index : ℕ) (k : Kept) (shown : SessionSurvey) : Type 0 where
  pub number_is : slice_get (keys_of s.by_number.entries) index ≡ Some shown.number
  pub session_is : kept_in s shown.number ≡ Some k
  pub opened_is : opened_in s shown.number ≡ Some shown.opened
  pub patterns_are : shown.patterns.items ≡ patterns_in s shown.number
  pub state_is : IsSurveyOf k shown
