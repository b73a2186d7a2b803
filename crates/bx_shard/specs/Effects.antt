-- How operations on one session change the connects of its shard.
use Rattle.std.specs.Prelude.{ℕ, nat_eq, List, [], ◌∷◌, map, Option, Some, None, option_map, if◌then◌else◌}
use Rattle.bx_entry.specs.Words.{Kept, answers_of, Pending, Session}
use Rattle.bx_session.specs.declared.answered.Answered.{Answered}
use Rattle.bx_session.specs.Views.{answered_of, deadline_of}
use Rattle.bx_connects.specs.declared.connects.ConnectState.{ConnectState}
use Rattle.bx_connects.specs.Connects.{filing, held_by}

-- The connects after session `number` begins to hold `connect`.
abbrev pub holding : ℕ → Pending → (ℕ → Option ConnectState) → ℕ → Option ConnectState
holding number connect connects p = if nat_eq connect.place p then held_by number (deadline_of connect) else connects p

-- The connects after the entry at `place` gives the answers in a list, in order.
abbrev pub filing_each : ℕ → List Answered → (ℕ → Option ConnectState) → ℕ → Option ConnectState
filing_each place [] connects p = connects p
filing_each place (a ∷ rest) connects p = filing_each place rest (filing place (Some a) connects) p

-- The answers that a session gives when `change` is applied to it, each with the place of its
-- connect. A session that is not in the shard gives no answers.
abbrev pub answers_by : (Session → Session) → Option Kept → List Answered
answers_by change None = []
answers_by change (Some k) = map answered_of (answers_of change k)

-- The connects after session `number` holds `connect` and then gives the answers of `change`. They
-- are unchanged if the session is not in the shard.
abbrev pub connect_filing : ℕ → Pending → (Session → Session) → Option Kept → (ℕ → Option ConnectState) → ℕ → Option ConnectState
connect_filing number connect change None connects p = connects p
connect_filing number connect change (Some k) connects p = filing_each connect.place (answers_by change (Some k)) (holding number connect connects) p

-- The connects without the one at the given place. If no place is given, they are unchanged.
abbrev pub forgetting : Option ℕ → (ℕ → Option ConnectState) → ℕ → Option ConnectState
forgetting None connects p = connects p
forgetting (Some place) connects p = if nat_eq place p then None else connects p

-- The place of the connect that a session holds, if any.
abbrev pub held_in : Option Kept → Option ℕ
held_in None = None
held_in (Some k) = option_map (λ (q : Pending). q.place) k.held
