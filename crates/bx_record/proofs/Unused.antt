-- Proves that an unused nonce changes no answer, so a record is answered as its inputs were.
use Rattle.std.proofs.Common.{◌≡◌, ℕ, ◌+◌, ◌||◌, not, max, Bool, true, false, cond, List, [], ◌∷◌, ◌++◌, length, map, fold, position, Option, Some, None, refl, sym, ap, ◌∙◌, subst, arith, length-append}
use Rattle.std.specs.Prelude.{◌==◌, ◌&&◌, filter, is_none, nat_lt}
use Rattle.std.specs.List.{list_any, position_or_len}
use Rattle.std.proofs.lemmas.{Bool.cond_both, Bool.or_parts, List.length-map, List.map-append, List.Sums.fold-append}
use Rattle.bx_names.specs.Words.{first_case}
use Rattle.bx_advice.specs.declared.{config.Config.Config, error.Error.Error}
use Rattle.bx_message.specs.declared.{message.Message.Message, message_kind.MessageKind.MessageKind}
use Rattle.bx_message.specs.MessageKinds.{is_handshake, message_kind_of}
use Rattle.bx_entry.specs.declared.input.{Input.Input, Refusal.Refusal}
use Rattle.bx_entry.specs.{Requests.read_input, Answers.PlacedAnswer, Answers.answer_in}
use Rattle.bx_entry.specs.Listing.{Posted, Post, listed_from, request}
use Rattle.bx_entry.specs.Inputs.{ReadInput, Request, Unread, Tick, added_by, refusal_of}
use Rattle.bx_entry.specs.Registry.{Registered, Registry, State, cases_of, empty_registry, judge, judged_by, named_by, noted, registry, served, state_of, unnamed, verdict}
use Rattle.bx_entry.specs.Runs.{Intake, Taking, Whole, has_place, held, latest, outs, outs_in, places_of, result_by, take_in, taken_as, whole_by, whole_of, wholes, wholes_from}
use Rattle.bx_entry.proofs.RequestLemmas.{length-listed}
use Rattle.bx_script.specs.Words.{with_nonce}
use Rattle.bx_record.specs.{Laws.RecordsAnswerAlike, Record.asks_for_session, Record.as_recorded}
use Rattle.bx_record.proofs.ReadBack.{records}

-- ---- One message

abbrev with_other : ℕ → Posted → Posted
with_other nonce p = record p { nonce = nonce }

same_cases : (config : Config) (sessions : List Registered) (nonce : ℕ) (p : Posted) (kind : MessageKind) → cases_of config sessions (with_other nonce p) kind ≡ cases_of config sessions p kind
same_cases config sessions nonce p MessageKind.Handshake = refl
same_cases config sessions nonce p MessageKind.Connect = refl
same_cases config sessions nonce p MessageKind.Subscribe = refl
same_cases config sessions nonce p MessageKind.Unsubscribe = refl
same_cases config sessions nonce p MessageKind.Disconnect = refl
same_cases config sessions nonce p MessageKind.Publish = refl
same_cases config sessions nonce p MessageKind.UnknownMeta = refl

same_served : (config : Config) (state : State) (moment nonce : ℕ) (p : Posted) (s : Registered) (hold : ℕ) (kind : MessageKind) → served config state moment (with_other nonce p) kind s hold ≡ served config state moment p kind s hold
same_served config state moment nonce p s hold MessageKind.Handshake = refl
same_served config state moment nonce p s hold MessageKind.Connect = refl
same_served config state moment nonce p s hold MessageKind.Subscribe = refl
same_served config state moment nonce p s hold MessageKind.Unsubscribe = refl
same_served config state moment nonce p s hold MessageKind.Disconnect = refl
same_served config state moment nonce p s hold MessageKind.Publish = refl
same_served config state moment nonce p s hold MessageKind.UnknownMeta = refl

same_unnamed : (config : Config) (state : State) (moment nonce : ℕ) (p : Posted) (b : Bool) → b ≡ false → unnamed config state moment (with_other nonce p) b ≡ unnamed config state moment p b
same_unnamed config state moment nonce p true h = cc
same_unnamed config state moment nonce p false h = refl

same_judged : (config : Config) (state : State) (moment nonce : ℕ) (p : Posted) (sender : Option Registered) (fault : Option Error) → is_handshake p.message ≡ false
    → judged_by config state moment (with_other nonce p) sender fault ≡ judged_by config state moment p sender fault
same_judged config state moment nonce p sender (Some error) h = refl
same_judged config state moment nonce p None None h = same_unnamed config state moment nonce p (is_handshake p.message) h
same_judged config state moment nonce p (Some s) None h = same_served config state moment nonce p s _ (message_kind_of p.message.channel)

same_verdict : (config : Config) (state : State) (moment nonce : ℕ) (p : Posted) → is_handshake p.message ≡ false → verdict config state moment (with_other nonce p) ≡ verdict config state moment p
same_verdict config state moment nonce p h =
    let sender : Option Registered = named_by state.sessions (message_kind_of p.message.channel) p.message in
    ap (λ cases. judged_by config state moment (with_other nonce p) sender (first_case cases)) (same_cases config state.sessions nonce p (message_kind_of p.message.channel))
    ∙ same_judged config state moment nonce p sender _ h

-- ---- One request

same_request : (config : Config) (moment nonce other : ℕ) (sole seen : Bool) (ms : List Message) (r : Registry) → list_any is_handshake ms ≡ false
    → fold (judge config) r (listed_from moment nonce sole seen ms) ≡ fold (judge config) r (listed_from moment other sole seen ms)
same_request config moment nonce other sole seen [] r h = refl
same_request config moment nonce other sole seen (m ∷ ms) r h =
    let p : Posted = record { message = m; moment = moment; nonce = other; sole = sole; last = length ms == 0; second = seen && is_handshake m } in
    let parts = or_parts (is_handshake m) (list_any is_handshake ms) h in
    let clock : ℕ = max r.clock moment in
    let first : judge config r (Post (with_other nonce p)) ≡ judge config r (Post p) = ap (noted r clock) (same_verdict config (state_of r) clock nonce p parts.0) in
    ap (λ (s : Registry). fold (judge config) s (listed_from moment nonce sole (seen || is_handshake m) ms)) first
    ∙ same_request config moment nonce other sole (seen || is_handshake m) ms (judge config r (Post p)) parts.1

-- ---- One input

said_as : (P : ReadInput → Type 0) (input : ReadInput) → P input → P (with_nonce 0 input) → P (as_recorded input)
said_as P input here there = cond_both (asks_for_session input) input (with_nonce 0 input) P (λ _. here) (λ _. there)

same_added : (config : Config) (r : Registry) (input : ReadInput) → fold (judge config) r (added_by (as_recorded input)) ≡ fold (judge config) r (added_by input)
same_added config r (Unread fault) = refl
same_added config r (Tick moment) = refl
same_added config r (Request moment nonce ms) = by_test (list_any is_handshake ms) refl
  where
    by_test : (b : Bool) → list_any is_handshake ms ≡ b → fold (judge config) r (added_by (cond b (Request moment nonce ms) (Request moment 0 ms))) ≡ fold (judge config) r (request moment nonce ms)
    by_test true e = refl
    by_test false e = same_request config moment 0 nonce (length ms == 1) false ms r e

length_without : (input : ReadInput) → length (added_by (with_nonce 0 input)) ≡ length (added_by input)
length_without (Request moment nonce ms) = length-listed moment 0 (length ms == 1) false ms ∙ sym (length-listed moment nonce (length ms == 1) false ms)
length_without (Unread fault) = refl
length_without (Tick moment) = refl

same_length : (input : ReadInput) → length (added_by (as_recorded input)) ≡ length (added_by input)
same_length input = said_as (λ x. length (added_by x) ≡ length (added_by input)) input refl (length_without input)

refusal_without : (len : ℕ) (input : ReadInput) → refusal_of len (with_nonce 0 input) ≡ refusal_of len input
refusal_without len input = grind arith

same_refusal : (len : ℕ) (input : ReadInput) → refusal_of len (as_recorded input) ≡ refusal_of len input
same_refusal len input = said_as (λ x. refusal_of len x ≡ refusal_of len input) input refl (refusal_without len input)

places_without : (d : Intake) (input : ReadInput) → places_of d (with_nonce 0 input) ≡ places_of d input
places_without d input = grind arith

same_places : (d : Intake) (input : ReadInput) → places_of d (as_recorded input) ≡ places_of d input
same_places d input = said_as (λ x. places_of d x ≡ places_of d input) input refl (places_without d input)

-- ---- All inputs

abbrev said_intake : Intake → Intake
said_intake d = record d { input = as_recorded d.input }

record Alike (config : Config) (t u : Taking) : Type 0 where
  list : registry config t.list ≡ registry config u.list
  count : length t.list ≡ length u.list
  intake : t.intake ≡ map said_intake u.intake

same_intake : (ds es : List Intake) (d e : Intake) → ds ≡ map said_intake es → d ≡ said_intake e → ds ++ d ∷ [] ≡ map said_intake (es ++ e ∷ [])
same_intake ds es d e same one = ap (λ xs. xs ++ d ∷ []) same ∙ ap (λ x. map said_intake es ++ x ∷ []) one ∙ sym (map-append said_intake es (e ∷ []))

abbrev intake_as : ReadInput → Option Refusal → ℕ → ℕ → Intake
intake_as input refusal first count = record { input = input; first = first; count = count; refusal = refusal }

one_taken : (config : Config) (t u : Taking) (input : ReadInput) (refusal : Option Refusal) → Alike config t u → Alike config (taken_as t (as_recorded input) refusal) (taken_as u input refusal)
one_taken config t u input (Some refusal) a = record {
  list = a.list;
  count = a.count;
  intake = same_intake t.intake u.intake (intake_as (as_recorded input) (Some refusal) (length t.list) 0) (intake_as input (Some refusal) (length u.list) 0) a.intake
      (ap (λ n. intake_as (as_recorded input) (Some refusal) n 0) a.count);
}
one_taken config t u input None a = record {
  list = fold-append (judge config) empty_registry t.list (added_by (as_recorded input)) ∙ ap (λ (r : Registry). fold (judge config) r (added_by (as_recorded input))) a.list
      ∙ same_added config (registry config u.list) input ∙ sym (fold-append (judge config) empty_registry u.list (added_by input));
  count = omega (arith, length-append t.list (added_by (as_recorded input)), length-append u.list (added_by input), same_length input, a.count);
  intake = same_intake t.intake u.intake (intake_as (as_recorded input) None (length t.list) (length (added_by (as_recorded input)))) (intake_as input None (length u.list) (length (added_by input))) a.intake
      (ap (λ n. intake_as (as_recorded input) None n (length (added_by (as_recorded input)))) a.count ∙ ap (λ n. intake_as (as_recorded input) None (length u.list) n) (same_length input));
}

all_taken : (config : Config) (inputs : List ReadInput) (t u : Taking) → Alike config t u → Alike config (fold take_in t (map as_recorded inputs)) (fold take_in u inputs)
all_taken config [] t u a = a
all_taken config (input ∷ inputs) t u a =
    let same : refusal_of (length t.list) (as_recorded input) ≡ refusal_of (length u.list) input = same_refusal (length t.list) input ∙ ap (λ n. refusal_of n input) a.count in
    let one = one_taken config t u input (refusal_of (length u.list) input) a in
    all_taken config inputs (take_in t (as_recorded input)) (take_in u input) (subst (λ (o : Option Refusal). Alike config (taken_as t (as_recorded input) o) (take_in u input)) (sym same) one)

-- ---- Outs and held inputs

first_among : (f : Intake → Intake) (p : Intake → Bool) (ds : List Intake) → position_or_len p (map f ds) ≡ position_or_len (λ d. p (f d)) ds
first_among f p [] = refl
first_among f p (d ∷ ds) = ap (λ n. cond (not (p (f d))) (1 + n) 0) (first_among f p ds)

same_position : (place : ℕ) (ds : List Intake) → position (has_place place) (map said_intake ds) ≡ position (has_place place) ds
same_position place ds =
    ap (λ n. cond (nat_lt n (length (map said_intake ds))) (Some n) None) (first_among said_intake (has_place place) ds)
    ∙ ap (λ n. cond (nat_lt (position_or_len (has_place place) ds) n) (Some (position_or_len (has_place place) ds)) None) (length-map ds said_intake)

same_end : (ds : List Intake) (o : Option ℕ) → (elim o as (λ _. Option ℕ) [ None ↦ None | Some place ↦ position (has_place place) (map said_intake ds) ]) ≡ (elim o as (λ _. Option ℕ) [ None ↦ None | Some place ↦ position (has_place place) ds ])
same_end ds None = refl
same_end ds (Some place) = same_position place ds

same_whole_by : (ds : List Intake) (i : ℕ) (answers : List (Option PlacedAnswer)) → whole_by (map said_intake ds) i answers ≡ whole_by ds i answers
same_whole_by ds i [] = refl
same_whole_by ds i (a ∷ answers) = same_end ds (latest 0 (a ∷ answers))

same_whole : (config : Config) (r : Registry) (ds : List Intake) (i : ℕ) (d : Intake) → whole_of config r (map said_intake ds) i (said_intake d) ≡ whole_of config r ds i d
same_whole config r ds i d =
    let answers : List (Option PlacedAnswer) = map (answer_in config r) (places_of d d.input) in
    ap (λ places. record { at = whole_by (map said_intake ds) i (map (answer_in config r) places); out = record { input = i; result = result_by (map (answer_in config r) places) d.refusal } }) (same_places d d.input)
    ∙ ap (λ at. record { at = at; out = record { input = i; result = result_by answers d.refusal } }) (same_whole_by ds i answers)

same_wholes : (config : Config) (r : Registry) (all : List Intake) (i : ℕ) (ds : List Intake) → wholes_from config r (map said_intake all) i (map said_intake ds) ≡ wholes_from config r all i ds
same_wholes config r all i [] = refl
same_wholes config r all i (d ∷ ds) =
    ap (λ w. w ∷ wholes_from config r (map said_intake all) (i + 1) (map said_intake ds)) (same_whole config r all i d)
    ∙ ap (λ ws. whole_of config r all i d ∷ ws) (same_wholes config r all (i + 1) ds)

unused : (config : Config) (inputs : List ReadInput) → wholes config (map as_recorded inputs) ≡ wholes config inputs
unused config inputs =
    let none : Taking = record { list = []; intake = [] } in
    let start : Alike config none none = record { list = refl; count = refl; intake = refl } in
    let t : Taking = fold take_in none (map as_recorded inputs) in
    let u : Taking = fold take_in none inputs in
    let a : Alike config t u = all_taken config inputs none none start in
    ap (λ (r : Registry). wholes_from config r t.intake 0 t.intake) a.list
    ∙ ap (λ (ds : List Intake). wholes_from config (registry config u.list) ds 0 ds) a.intake
    ∙ same_wholes config (registry config u.list) u.intake 0 u.intake

-- ---- A record

pub same_outs : (config : Config) (inputs : List ReadInput) → outs config (map as_recorded inputs) ≡ outs config inputs
same_outs config inputs = ap (λ n. outs_in n (wholes config (map as_recorded inputs))) (length-map inputs as_recorded) ∙ ap (λ ws. outs_in (length inputs) ws) (unused config inputs)

pub same_held : (config : Config) (inputs : List ReadInput) → held config (map as_recorded inputs) ≡ held config inputs
same_held config inputs = ap (λ (ws : List Whole). map (λ (w : Whole). w.out.input) (filter (λ (w : Whole). is_none w.at) ws)) (unused config inputs)

pub said_after : (inputs : List Input) → map (λ input. as_recorded (read_input input)) inputs ≡ map as_recorded (map read_input inputs)
said_after [] = refl
said_after (input ∷ inputs) = ap (λ (is : List ReadInput). as_recorded (read_input input) ∷ is) (said_after inputs)

pub answered_alike : RecordsAnswerAlike
answered_alike config inputs h =
    let same = (records inputs h).inputs_are ∙ said_after inputs in
    record { outs_are = ap (outs config) same ∙ same_outs config (map read_input inputs); held_are = ap (held config) same ∙ same_held config (map read_input inputs) }
