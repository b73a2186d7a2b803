-- Laws of sessions and their answers, each for every list.
use Rattle.std.specs.Prelude.{ℕ, ◌⊎◌, ◌+◌, ◌≡◌, ◌≤◌, ◌<◌, true, false, is_some, List, [], ◌∷◌, ◌++◌, length, take, drop, fold, flat_map, if◌then◌else◌, Option, Some, None, ⊤}
use Rattle.std.specs.List.{AllByRecursion}
use Rattle.bx_advice.specs.declared.config.Config.{Config}
use Rattle.bx_entry.specs.Words.{Listed, entries, PlacedAnswer, answer}
use Rattle.bx_message.specs.declared.reply.AckReply.TheVariants.{AckNumber}
use Rattle.bx_entry.specs.declared.{entry.Entry.Entry, entry.Rider.Rider, entry.EntryKind.TheVariants.Connect}
use Rattle.bx_entry.specs.Sessions.{Session, Publication, Filed, Unopened, step, session, rider_of}

-- ---- Counts

-- While entries are added, the number of a session's events that are never sent again does not
-- fall.
abbrev pub DoneNeverFalls : Type 0
DoneNeverFalls = (config : Config) (number : ℕ) (xs ys : List Entry) → (session config number xs).done ≤ (session config number (xs ++ ys)).done

-- What always holds of a session `s`. Its first `done` events are never sent again. Its queue has
-- the later ones or, after an overflow, is empty. After an overflow, its patterns are empty, too.
-- The outstanding batch is at the start of the queue, within the limit of a batch. A session that
-- does not acknowledge has no outstanding batch, and an unopened session does not acknowledge.
-- While a connect is held, no event waits or is outstanding.
pub record InStep (config : Config) (s : Session) : Type 0 where
  pub queue : s.queue ≡ (if s.overflow then [] else drop s.done s.events)
  pub emptied : s.overflow ≡ true → s.patterns ≡ []
  pub front : s.out ≤ length s.queue
  pub few : s.done + s.out ≤ length s.events
  pub small : s.out ≤ config.limits.batch
  pub plain : s.ack ≡ false → s.out ≡ 0
  pub fresh : s.stage ≡ Unopened → s.ack ≡ false
  pub idle : is_some s.held ≡ true → (length s.events ≤ s.done) × (s.out ≡ 0)

-- The queue, the outstanding batch and the counts of a session always agree, as `InStep` requires.
abbrev pub CountsAgree : Type 0
CountsAgree = (config : Config) (number : ℕ) (es : List Entry) → 0 < config.limits.batch → InStep config (session config number es)

-- ---- Answers stay

-- An answer depends only on the elements of the list up to the one that gives it.
abbrev pub AnswersStay : Type 0
AnswersStay = (config : Config) (list other : List Listed) (place : ℕ) (a : PlacedAnswer) → 0 < config.limits.batch →
    answer config list place ≡ Some a → take (a.place + 1) other ≡ take (a.place + 1) list → answer config other place ≡ Some a

-- ---- Events in answers

-- The predicate `P` holds for each answer of the list.
abbrev pub Each : (Filed → Type 0) → List Filed → Type 0
Each P fs = AllByRecursion P fs

-- `given` has `count` of the `events`, from index `from` on. Unless `count` is 0, `from` is at
-- least `low`.
pub record Slice (events : List Publication) (low : ℕ) (given : List Publication) : Type 0 where
  pub from : ℕ
  pub count : ℕ
  pub above : 0 < count → low ≤ from
  pub within : from + count ≤ length events
  pub is : given ≡ take count (drop from events)

-- The session is `s` before an entry, `u` after it, and `t` later. An event is done if it is never
-- sent again. Each answer that `t` has and `s` lacks contains consecutive events. None of them is
-- done in `s` or, if the session acknowledges, in `u`.
pub record GivesFrom (config : Config) (s u t : Session) : Type 0 where
  pub filed : List Filed
  pub answers : t.answers ≡ s.answers ++ filed
  pub slices : Each (λ f. Slice t.events (if u.ack then u.done else s.done) f.publications) filed

-- An event is never sent again once it is acknowledged or, if the session does not acknowledge,
-- once it is sent.
abbrev pub NeverGivenAgain : Type 0
NeverGivenAgain = (config : Config) (number : ℕ) (xs : List Entry) (e : Entry) (ys : List Entry) → 0 < config.limits.batch →
    GivesFrom config (session config number xs) (step config (session config number xs) e) (fold (step config) (step config (session config number xs) e) ys)

-- The predicate `P` holds for each publication of the list.
abbrev pub EachOf : (Publication → Type 0) → List Publication → Type 0
EachOf P ps = AllByRecursion P ps

-- Each of `ps` has an earlier place than each of `qs`.
abbrev pub AllBelow : List Publication → List Publication → Type 0
AllBelow ps qs = EachOf (λ p. EachOf (λ q. p.place < q.place) qs) ps

-- The entries are at consecutive places from `n` on.
abbrev pub PlacesFrom : ℕ → List Entry → Type 0
PlacesFrom n [] = ⊤
PlacesFrom n (e ∷ es) = (e.place ≡ n) × PlacesFrom (n + 1) es

-- The session is `s` before an entry, `u` after it, and `t` later. An event is done if it is never
-- sent again. Each answer that `t` has and `s` lacks contains only events at later places than the
-- done ones. Those are the events done in `s` or, if the session acknowledges, in `u`.
pub record GivesLater (s u t : Session) : Type 0 where
  pub filed : List Filed
  pub answers : t.answers ≡ s.answers ++ filed
  pub apart : Each (λ f. AllBelow (take (if u.ack then u.done else s.done) t.events) f.publications) filed

-- If entries are at consecutive places, the events in an answer have later places than all events
-- that were done before it. An event is done once it is acknowledged or, if the session does not
-- acknowledge, once it is sent.
abbrev pub NoEventTwice : Type 0
NoEventTwice = (config : Config) (number : ℕ) (xs : List Entry) (e : Entry) (ys : List Entry) → 0 < config.limits.batch → PlacesFrom 0 (xs ++ e ∷ ys) →
    GivesLater (session config number xs) (step config (session config number xs) e) (fold (step config) (step config (session config number xs) e) ys)

-- The entries of a list are at consecutive places from 0 on.
abbrev pub EntriesInOrder : Type 0
EntriesInOrder = (config : Config) (list : List Listed) → PlacesFrom 0 (entries config list)

-- The events of the answers with their places, answer by answer.
abbrev pub given_in : List Filed → List Publication
given_in answers = flat_map (λ (f : Filed). f.publications) answers

-- If a session does not acknowledge, its answers to connects and riders have its first `done`
-- events, in order, each once.
abbrev pub GivenOnce : Type 0
GivenOnce = (config : Config) (number : ℕ) (es : List Entry) → 0 < config.limits.batch →
    (session config number es).ack ≡ false → given_in (session config number es).answers ≡ take (session config number es).done (session config number es).events

-- ---- Riders

-- Without `--ride`, no entry has a rider.
abbrev pub NoRidersUnasked : Type 0
NoRidersUnasked = (config : Config) (list : List Listed) → config.ride ≡ false → AllByRecursion (λ (e : Entry). e.rides ≡ None) (entries config list)

-- The session of a rider, if there is a rider, does not acknowledge after the entries `es`.
abbrev pub RidesPlain : Config → List Entry → Option Rider → Type 0
RidesPlain config es None = ⊤
RidesPlain config es (Some rider) = (session config rider.session es).ack ≡ false

-- No rider's session acknowledges.
abbrev pub RidersArePlain : Type 0
RidersArePlain = (config : Config) (list : List Listed) → AllByRecursion (λ (e : Entry). RidesPlain config (entries config list) e.rides) (entries config list)

-- ---- Repeated batches

-- An acknowledged number is missing, or less than the number `num` of the last batch. So it
-- acknowledges nothing new.
abbrev pub Repeats : ℕ → Option ℕ → Type 0
Repeats num None = ⊤
Repeats num (Some n) = n < num

-- `f` is the last answer of session `s`.
abbrev pub LastAnswer : Session → Filed → Type 0
LastAnswer s f = (rest : List Filed) × (s.answers ≡ rest ++ f ∷ [])

-- `answers` has one answer: to the rider `rides` of session `number` at `place`, without events.
pub record EmptyRide (place : ℕ) (rides : Option Rider) (number : ℕ) (answers : List Filed) : Type 0 where
  pub rider : Rider
  pub is : rides ≡ Some rider
  pub session : rider.session ≡ number
  pub alone : answers ≡ record { connect = place; place = place; publications = []; reply = rider.reply } ∷ []

-- `f` is the last answer of session `s`, apart from an answer without events to the rider `rides`
-- at `place`, if any.
pub record LastGiven (place : ℕ) (rides : Option Rider) (s : Session) (f : Filed) : Type 0 where
  pub rest : List Filed
  pub behind : List Filed
  pub answers : s.answers ≡ rest ++ f ∷ behind
  pub last : (behind ≡ []) ⊎ EmptyRide place rides s.number behind

-- After entry `former`, the session is `forming`, and its last answer sends a batch. Only a rider's
-- answer without events may follow. After the connect at `now`, the session is `after`. Its last
-- answer, to this connect, has the same events and batch number.
pub record SameBatch (former : Entry) (forming : Session) (now : ℕ) (after : Session) : Type 0 where
  pub first : Filed
  pub again : Filed
  pub formed : LastGiven former.place (rider_of former.kind former.rides) forming first
  pub given : LastAnswer after again
  pub connect : again.connect ≡ now
  pub place : again.place ≡ now
  pub same : again.publications ≡ first.publications
  pub number : first.reply.ack ≡ AckNumber forming.num
  pub same_number : again.reply.ack ≡ AckNumber forming.num

-- Some entry of `es` formed the last batch of session `number`. The later connect `e` is answered
-- with that batch again.
pub record Repetition (config : Config) (number : ℕ) (es : List Entry) (e : Entry) : Type 0 where
  pub before : List Entry
  pub forming : Entry
  pub between : List Entry
  pub split : es ≡ before ++ forming ∷ between
  pub grew : (step config (session config number before) forming).num ≡ (session config number before).num + 1
  pub current : (step config (session config number before) forming).num ≡ (session config number es).num
  pub same : SameBatch forming (step config (session config number before) forming) e.place (step config (session config number es) e)

-- While a batch is outstanding, a connect that acknowledges nothing new gets that batch again at
-- once, with the same number and events.
abbrev pub BatchRepeats : Type 0
BatchRepeats = (config : Config) (number : ℕ) (es : List Entry) (e : Entry) (client : List ℕ) (id : Option (List ℕ)) (acked : Option ℕ) (hold : ℕ) → 0 < config.limits.batch →
    0 < (session config number es).out → (session config number es).overflow ≡ false →
    e.kind ≡ Connect number client id acked hold → Repeats (session config number es).num acked → Repetition config number es e
