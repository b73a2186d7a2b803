-- Which messages of a request are riders, and what a rider gets.
use Rattle.std.specs.Prelude.{ℕ, ◌-◌, min, ◌≡◌, ◌&&◌, ◌↔◌, not, Bool, true, false, List, [], ◌∷◌, ◌++◌, length, take, drop, flat_map, option_map, Option, Some, None}
use Rattle.std.specs.List.{AllByRecursion}
use Rattle.bx_advice.specs.declared.config.Config.{Config}
use Rattle.bx_message.specs.declared.message.Message.{Message}
use Rattle.bx_entry.specs.Words.{ReadInput, Request, added_by, Listed, Judged, registry, entries}
use Rattle.bx_entry.specs.declared.entry.{Entry.Entry, EntryKind.EntryKind, Rider.Rider}
use Rattle.bx_entry.specs.declared.entry.EntryKind.TheVariants.{Subscribe, Unsubscribe, Publish}
use Rattle.bx_entry.specs.Sessions.{Session, Publication, Live, session, step, step_by, rider_of}
use Rattle.bx_theory.specs.Readings.{is_from, opens_by}

-- ---- Which messages are riders

-- The results of judging the elements `these` of a longer list, which has `before` before them and
-- `later` after them.
abbrev pub found_after : Config → List Listed → List Listed → List Listed → List Judged
found_after config before these later = take (length these) (drop (length before) (registry config (before ++ (these ++ later))).judged)

-- Whether the result `j` is for an accepted message of session `number`, except its handshake.
abbrev pub is_own : ℕ → Judged → Bool
is_own number j = is_from number j.sender && not (opens_by number j.entry.kind)

-- Whether an entry of this kind may have a rider: a subscription, an unsubscription or a publish.
abbrev pub may_have_rider : EntryKind → Bool
may_have_rider (Subscribe n ps) = true
may_have_rider (Unsubscribe n ps) = true
may_have_rider (Publish e) = true
may_have_rider _ = false

-- The message with the result `j` is a rider of session `number`. `before` and `later`: the
-- results of the earlier and the later messages of its request. `--ride` is set, and the session
-- does not acknowledge after the entries `es`. The message ends the request. All messages of the
-- request are accepted, come from the session, and are no handshakes. The rider is a subscription,
-- an unsubscription or a publish.
pub record IsRiderOf (number : ℕ) (config : Config) (es : List Entry) (before : List Judged) (j : Judged) (later : List Judged) : Type 0 where
  pub asked : config.ride ≡ true
  pub plain : (session config number es).ack ≡ false
  pub last : later ≡ []
  pub own : AllByRecursion (λ (i : Judged). is_own number i ≡ true) (before ++ j ∷ later)
  pub kind : may_have_rider j.entry.kind ≡ true

-- The number of the rider's session, if there is a rider.
abbrev pub rider_session : Option Rider → Option ℕ
rider_session rides = option_map (λ (rider : Rider). rider.session) rides

-- A message is a rider of a session exactly if `IsRiderOf` holds, whatever comes before and after
-- its request.
abbrev pub RiderReading : Type 0
RiderReading = (config : Config) (inputs : List ReadInput) (moment nonce : ℕ) (ms : List Message) (more : List Listed)
    (before : List Judged) (j : Judged) (later : List Judged) (number : ℕ) →
    found_after config (flat_map added_by inputs) (added_by (Request moment nonce ms)) more ≡ before ++ j ∷ later →
    (rider_session j.entry.rides ≡ Some number) ↔ IsRiderOf number config (entries config (flat_map added_by inputs ++ (added_by (Request moment nonce ms) ++ more))) before j later

-- A request with a rejected or sessionless message has no rider.
abbrev pub NothingRidesBeside : Type 0
NothingRidesBeside = (config : Config) (inputs : List ReadInput) (moment nonce : ℕ) (ms : List Message) (more : List Listed)
    (before : List Judged) (other : Judged) (later first : List Judged) (j : Judged) (rest : List Judged) →
    found_after config (flat_map added_by inputs) (added_by (Request moment nonce ms)) more ≡ before ++ other ∷ later → other.sender ≡ None →
    found_after config (flat_map added_by inputs) (added_by (Request moment nonce ms)) more ≡ first ++ j ∷ rest → j.entry.rides ≡ None

-- Ticks, rejected messages, handshakes, connects and disconnects have no rider.
abbrev pub OthersNeverRide : Type 0
OthersNeverRide = (config : Config) (list : List Listed) → AllByRecursion (λ (e : Entry). may_have_rider e.kind ≡ false → e.rides ≡ None) (entries config list)

-- ---- What a rider gets

-- Session `s` becomes `t` with one more answer, to the rider at `place`. The answer has the first
-- events that wait in `s`, up to `most`. The others still wait in `t`.
pub record GivesRider (most place : ℕ) (rider : Rider) (s t : Session) : Type 0 where
  pub given : List Publication
  pub answers : t.answers ≡ s.answers ++ record { connect = place; place = place; publications = given; reply = rider.reply } ∷ []
  pub queue : s.queue ≡ given ++ t.queue
  pub count : length given ≡ min most (length s.queue)
  pub left : length t.queue ≡ length s.queue - most

-- A live session that does not acknowledge answers its rider with the first waiting events, after
-- the entry has taken effect.
abbrev pub RiderGiven : Type 0
RiderGiven = (config : Config) (s : Session) (e : Entry) (rider : Rider) → rider_of e.kind e.rides ≡ Some rider → rider.session ≡ s.number → s.stage ≡ Live → s.ack ≡ false →
    GivesRider config.limits.batch e.place rider (step_by config e.place e.moment s e.kind) (step config s e)
