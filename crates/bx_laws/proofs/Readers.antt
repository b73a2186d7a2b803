-- What requests through the read-only listener publish.
use Rattle.std.proofs.Common.{◌≡◌, ℕ, ◌⊎◌, ◌+◌, ◌<◌, ◌≤◌, inl, inr, ⊎_elim, arith, ◌||◌, ◌&&◌, ◌==◌, not, Bool, true, false, cond, List, [], ◌∷◌, ◌++◌, length, map, Option, Some, None, is_some, Result, Ok, Err, refl, sym, ap, subst}
use Rattle.std.specs.{Prelude.fold, List.AllByRecursion}
use Rattle.std.proofs.ByRecursion.{All-weaker}
use Rattle.std.proofs.lemmas.Bool.{cases_lt, and_parts}
use Rattle.bx_names.specs.Words.{is_broadcast}
use Rattle.bx_names.specs.{Faults.name_fault, Globs.Glob, Globs.any_matches, Segments.segments}
use Rattle.bx_cut.specs.Bodies.{texts_of}
use Rattle.bx_advice.specs.declared.config.Config.{Config}
use Rattle.bx_message.specs.declared.{event.Event.Event, message.Message.Message}
use Rattle.bx_message.specs.MessageKinds.{is_handshake}
use Rattle.bx_entry.specs.declared.{access.Access.Access, input.Input.Input, input.Refusal.Refusal}
use Rattle.bx_entry.specs.declared.{access.Access.TheVariants.ReadOnly, input.Refusal.TheVariants.Forbidden, input.Input.TheVariants.Post, input.Input.TheVariants.Tick}
use Rattle.bx_entry.specs.Sessions.{Publication, session}
use Rattle.bx_entry.specs.Words.{Listed, ReadInput, Taking, added_by, allows, allows_all, entries, let_in, listed_from, read_by, read_input, refusal_of, request_messages, take_in, taken_as, taken_in}
use Rattle.bx_theory.specs.{Events.GetsPublish, Laws.EachOf}
use Rattle.bx_theory.proofs.Gained.{events_were_published}
use Rattle.bx_laws.specs.Readers.{IsAllowed, IsMatched, IsOfReaders, IsOutside, ReadOnlyRequestPublishesAsAllowed, ReadersPublishAsAllowed}
use Rattle.bx_laws.proofs.Given.{Source, source_of}

-- ---- The list

abbrev AreAllowed : List Glob → List Listed → Type 0
AreAllowed ps xs = AllByRecursion (IsAllowed ps) xs

allowed-append : (ps : List Glob) (xs ys : List Listed) → AreAllowed ps xs → AreAllowed ps ys → AreAllowed ps (xs ++ ys)
allowed-append ps [] ys h k = k
allowed-append ps (x ∷ xs) ys h k = (h.0, allowed-append ps xs ys h.1 k)

allowed_among : (ps : List Glob) (before : List Listed) (x : Listed) (behind : List Listed) → AreAllowed ps (before ++ x ∷ behind) → IsAllowed ps x
allowed_among ps [] x behind h = h.0
allowed_among ps (y ∷ before) x behind h = allowed_among ps before x behind h.1

-- A broadcast channel that the listener allows is matched.
matched_where : (broadcast faulty matched : Bool) → (not broadcast || (not faulty && matched)) ≡ true → broadcast ≡ true → matched ≡ true
matched_where true true matched h e = cc
matched_where true false matched h e = h
matched_where false faulty matched h e = cc

matched_if : (ps : List Glob) (channel : List ℕ) → allows ps channel ≡ true → is_broadcast channel ≡ true → IsMatched ps channel
matched_if ps channel h e = matched_where (is_broadcast channel) (is_some (name_fault channel)) (any_matches ps (segments channel)) h e

listed_allowed : (ps : List Glob) (moment nonce : ℕ) (sole seen : Bool) (ms : List Message) → allows_all ps ms ≡ true → AreAllowed ps (listed_from moment nonce sole seen ms)
listed_allowed ps moment nonce sole seen [] h = tt
listed_allowed ps moment nonce sole seen (m ∷ ms) h =
    let parts = and_parts (allows ps m.channel) (allows_all ps ms) h in
    (matched_if ps m.channel parts.0, listed_allowed ps moment nonce sole (seen || is_handshake m) ms parts.1)

allowed_where : (ps : List Glob) (moment nonce : ℕ) (ms : List Message) (b : Bool) → allows_all ps ms ≡ b → AreAllowed ps (added_by (read_by moment nonce (cond b (Ok ms) (Err Forbidden))))
allowed_where ps moment nonce ms true e = listed_allowed ps moment nonce (length ms == 1) false ms e
allowed_where ps moment nonce ms false e = tt

let_in_allowed : (ps : List Glob) (moment nonce : ℕ) (read : Result (List Message) Refusal) → AreAllowed ps (added_by (read_by moment nonce (let_in (ReadOnly ps) read)))
let_in_allowed ps moment nonce (Ok ms) = allowed_where ps moment nonce ms (allows_all ps ms) refl
let_in_allowed ps moment nonce (Err f) = tt

input_allowed : (ps : List Glob) (input : Input) → IsOfReaders ps input → AreAllowed ps (added_by (read_input input))
input_allowed ps (Post a) h =
    let read = request_messages (texts_of a.bodies) in
    subst (λ (access : Access). AreAllowed ps (added_by (read_by a.moment a.nonce (let_in access read)))) (sym h) (let_in_allowed ps a.moment a.nonce read)
input_allowed ps (Tick moment) h = (tt, tt)

taken_allowed : (ps : List Glob) (t : Taking) (input : ReadInput) (refusal : Option Refusal) → AreAllowed ps t.list → AreAllowed ps (added_by input) → AreAllowed ps (taken_as t input refusal).list
taken_allowed ps t input None h k = allowed-append ps t.list (added_by input) h k
taken_allowed ps t input (Some refusal) h k = h

all_allowed : (ps : List Glob) (t : Taking) (inputs : List Input) → AreAllowed ps t.list → AllByRecursion (IsOfReaders ps) inputs → AreAllowed ps (fold take_in t (map read_input inputs)).list
all_allowed ps t [] h k = h
all_allowed ps t (input ∷ inputs) h k =
    let read : ReadInput = read_input input in
    all_allowed ps (take_in t read) inputs (taken_allowed ps t read (refusal_of (length t.list) read) h (input_allowed ps input k.0)) k.1

-- ---- Events

-- An event is on a matched channel if the message that published it is allowed.
event_matched : (ps : List Glob) (list : List Listed) (p : Publication) → is_broadcast p.event.channel ≡ true → (s : Source list p) → IsAllowed ps s.element → IsMatched ps p.event.channel
event_matched ps list p loud s h =
    let allowed : is_broadcast s.post.message.message.channel ≡ true → IsMatched ps s.post.message.message.channel = subst (IsAllowed ps) s.post.posted h in
    let same : p.event.channel ≡ s.post.message.message.channel = ap (λ (e : Event). e.channel) s.post.event in
    subst (IsMatched ps) (sym same) (allowed (subst (λ (channel : List ℕ). is_broadcast channel ≡ true) same loud))

-- ---- Events of one request

allowed_front : (ps : List Glob) (added after xs : List Listed) (x : Listed) (ys : List Listed) → xs ++ x ∷ ys ≡ added ++ after → length xs < length added → AreAllowed ps added → IsAllowed ps x
allowed_front ps [] after xs x ys e l h = absurd (omega (arith, l))
allowed_front ps (z ∷ added) after [] x ys e l h = let same : z ≡ x = cc in subst (IsAllowed ps) same h.0
allowed_front ps (z ∷ added) after (y ∷ xs) x ys e l h = let rest : xs ++ x ∷ ys ≡ added ++ after = cc in allowed_front ps added after xs x ys rest (omega (arith, l)) h.1

allowed_between : (ps : List Glob) (before added after xs : List Listed) (x : Listed) (ys : List Listed) → xs ++ x ∷ ys ≡ before ++ (added ++ after) → length before ≤ length xs
    → length xs < length before + length added → AreAllowed ps added → IsAllowed ps x
allowed_between ps [] added after xs x ys e l u h = allowed_front ps added after xs x ys e (omega (arith, u)) h
allowed_between ps (b ∷ before) added after [] x ys e l u h = absurd (omega (arith, l))
allowed_between ps (b ∷ before) added after (y ∷ xs) x ys e l u h =
    let rest : xs ++ x ∷ ys ≡ before ++ (added ++ after) = cc in
    allowed_between ps before added after xs x ys rest (omega (arith, l)) (omega (arith, u)) h

outside : (ps : List Glob) (before added after : List Listed) (p : Publication) → AreAllowed ps added → is_broadcast p.event.channel ≡ true → Source (before ++ (added ++ after)) p
    → IsOutside (length before) (length added) p.place ⊎ IsMatched ps p.event.channel
outside ps before added after p h loud s =
    ⊎_elim (λ (below : p.place < length before). inl (inl below))
    (λ (above : length before ≤ p.place). ⊎_elim
    (λ (within : p.place < length before + length added). inr (event_matched ps (before ++ (added ++ after)) p loud s
    (allowed_between ps before added after s.before s.element s.behind s.whole (omega (arith, above, s.place)) (omega (arith, within, s.place)) h)))
    (λ (beyond : length before + length added ≤ p.place). inl (inr beyond)) (cases_lt p.place (length before + length added)))
    (cases_lt p.place (length before))

pub read_only_request_publishes_as_allowed : ReadOnlyRequestPublishesAsAllowed
read_only_request_publishes_as_allowed config ps a before after h =
    let added : List Listed = added_by (read_input (Post a)) in
    let list : List Listed = before ++ (added ++ after) in
    let allowed : AreAllowed ps added = input_allowed ps (Post a) h in
    record {
      messages = allowed;
      events = λ number. All-weaker (GetsPublish config number (entries config list)) (λ p. IsOutside (length before) (length added) p.place ⊎ IsMatched ps p.event.channel)
          (λ p g. outside ps before added after p allowed g.gets.broadcast (source_of config list number p g))
          (session config number (entries config list)).events (events_were_published config number (entries config list));
    }

-- ---- Events of a list

pub readers_publish_as_allowed : ReadersPublishAsAllowed
readers_publish_as_allowed config ps inputs h =
    let list : List Listed = (taken_in (map read_input inputs)).list in
    let allowed : AreAllowed ps list = all_allowed ps (record { list = []; intake = [] }) inputs tt h in
    record {
      messages = allowed;
      events = λ number. All-weaker (GetsPublish config number (entries config list)) (λ p. IsMatched ps p.event.channel)
          (λ p g. let s = source_of config list number p g in
          event_matched ps list p g.gets.broadcast s (allowed_among ps s.before s.element s.behind (subst (AreAllowed ps) (sym s.whole) allowed)))
          (session config number (entries config list)).events (events_were_published config number (entries config list));
    }
