-- How an event is delivered to one session after another, in a parcel for each.
use Rattle.std.specs.Prelude.{ℕ, ◌≡◌, ◌&&◌, nat_eq, true, false, List, [], ◌∷◌, Bool, Some, map, option_map, IfSome, if◌then◌else◌}
use Rattle.bx_names.specs.Words.{Glob, any_matches, segments, is_broadcast}
use Rattle.bx_advice.specs.declared.config.Config.{Config}
use Rattle.bx_message.specs.declared.event.Event.{Event}
use Rattle.bx_entry.specs.Keeping.{Kept, after}
use Rattle.bx_entry.specs.Sessions.{Publication, received}
use Rattle.bx_session.specs.Views.{Countable, wants_two}
use Rattle.bx_connects.specs.Connects.{connect_at}
use Rattle.bx_shard.specs.declared.{publish.Parcel.Parcel, sessions.Sessions.Sessions}
use Rattle.bx_shard.specs.Effects.{answers_by, filing_each}
use Rattle.bx_shard.specs.Sessions.{AreHeld, HasRoom, kept_in}

-- An event with the place at which it is published.
abbrev pub published_at : ℕ → Event → Publication
published_at place e = record { place = place; event = e }

-- Whether an event's channel is a broadcast channel that one of the patterns matches.
abbrev pub reaches : Event → List Glob → Bool
reaches e patterns = is_broadcast e.channel && any_matches patterns (segments e.channel)

-- The numbers of the sessions that the parcels are for, in order.
abbrev pub numbers_of : List Parcel → List ℕ
numbers_of xs = map (λ (x : Parcel). x.number) xs

-- The session of parcel `x`, if it is in the shard, has room for the event. If the session will
-- both send and keep the event, the parcel has a clone.
pub record IsPacked (s : Sessions) (x : Parcel) : Type 0 where
  pub room : HasRoom s x.number
  pub further : IfSome (kept_in s x.number) (λ (k : Kept). wants_two k ≡ true → x.further ≡ Some x.event)

-- The session of parcel `x`, if it is in the shard, can receive the parcel. The session has not
-- overflowed, can count another batch, and has room for the event. If the session will both send
-- and keep the event, the parcel has a clone.
pub record IsReady (s : Sessions) (x : Parcel) : Type 0 where
  pub here : IfSome (kept_in s x.number) (λ (k : Kept). (k.overflow ≡ false) × Countable k)
  pub packed : IsPacked s x

-- No parcel is for session `number`.
abbrev pub NoneFor : ℕ → List Parcel → Type 0
NoneFor number [] = Unit {0}
NoneFor number (x ∷ xs) = (nat_eq number x.number ≡ false) × NoneFor number xs

-- Each session can receive its parcel, and no session has two.
abbrev pub AllReady : Sessions → List Parcel → Type 0
AllReady s [] = Unit {0}
AllReady s (x ∷ xs) = IsReady s x × NoneFor x.number xs × AllReady s xs

-- `new` is the sessions of a shard after parcel `x` is delivered to its session in `old`. `place`:
-- that of the publish. In `new`, a connect is held if and only if its session holds it.
pub record Turn (config : Config) (place : ℕ) (x : Parcel) (old new : Sessions) : Type 0 where
  pub sessions : (n : ℕ) → kept_in new n ≡ (if nat_eq x.number n then option_map (after (received config (published_at place x.event))) (kept_in old x.number) else kept_in old n)
  pub connects : (p : ℕ) → connect_at new.connects p ≡ filing_each place (answers_by (received config (published_at place x.event)) (kept_in old x.number)) (connect_at old.connects) p
  pub held : AreHeld new
  pub config_is : new.config ≡ old.config

-- `new` is the sessions of a shard after the parcels are delivered in order to those in `old`.
-- `place`: that of the publish.
abbrev pub Turns : Config → ℕ → List Parcel → Sessions → Sessions → Type 0
Turns config place [] old new = old ≡ new
Turns config place (x ∷ xs) old new = (between : Sessions) × Turn config place x old between × Turns config place xs between new
