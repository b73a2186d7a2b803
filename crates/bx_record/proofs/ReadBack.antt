-- Proves that the inputs of a record are read back from it.
use Rattle.std.proofs.Common.{◌≡◌, ℕ, ◌+◌, ◌<◌, ◌^◌, ◌||◌, Bool, true, false, eqb, cond, List, [], ◌∷◌, ◌++◌, drop, length, map, codes, decimal, Some, None, Result, Ok, Err, is_ok, refl, sym, ap, ◌∙◌, subst, arith, append_assoc, length-append}
use Rattle.std.specs.Prelude.{flat_map, nat_eq, nat_lt, nat_le}
use Rattle.std.specs.{List.after_first, List.list_all, List.list_any, List.starts_with, List.AllByRecursion, Str.IsUtf8}
use Rattle.std.proofs.lemmas.{Bool.le-ltb, Bool.leb-true, Grind.common_steps}
use Rattle.bx_advice.specs.declared.limit.TheConstants.{BODY_LIMIT}
use Rattle.bx_cut.specs.Bodies.{texts_of}
use Rattle.bx_message.specs.declared.message.Message.{Message}
use Rattle.bx_message.specs.{MessageKinds.is_handshake, Fields.number_of}
use Rattle.bx_entry.specs.declared.{input.Input.Input, input.Refusal.Refusal, input.Input.TheVariants.Post}
use Rattle.bx_entry.specs.declared.input.Input.TheVariants as inputs
use Rattle.bx_entry.specs.Words.{ReadInput, Request, arrival_messages, read_by, read_input, request_messages}
use Rattle.bx_entry.specs.Inputs.{Tick}
use Rattle.bx_entry.proofs.RequestLemmas.{let_in-ok}
use Rattle.bx_transport.specs.declared.error.TransportError.TheVariants.{TooLarge}
use Rattle.bx_transport.specs.{Forms.values_of, Transports.some_documents}
use Rattle.bx_script.specs.Words.{Accepted, Announced, Line, Numbered, Recorded, command, handed_by, inputs_from, is_newline, is_space, line_by, line_of, line_text, lines_in, lines_of, noted_by, timed_line, with_nonces}
use Rattle.bx_script.specs.Replay.{Documents, announces, body_by}
use Rattle.bx_script.proofs.Cuts.{Lacks, after_it, before_it}
use Rattle.bx_script.proofs.Script.{lines_are}
use Rattle.bx_theory.specs.Lines.{inputs_in}
use Rattle.bx_record.specs.Record.{asks_for_session, can_say, carrier_by, command_by, command_of, form_of, input_text, nonce_digits, nonce_text, record_of, as_recorded}
use Rattle.bx_record.specs.Laws.{CanRecord, RecordsReadBack, is_of_record, recorded_lines}
use Rattle.bx_record.proofs.{Bytes.arrival_utf8, Carried.carried, Carried.form_lacks}
use Rattle.bx_record.proofs.Digits.{lacks-append, moment_lacks, moment_lacks_letter, moment_nonempty, moment_reads, nonce_lacks, nonce_reads}

-- ---- One line

pub first_line : (line rest : List ℕ) → Lacks 10 line → lines_of (line ++ 10 ∷ rest) ≡ line ∷ lines_of rest
first_line line rest lacks =
    lines_are (line ++ 10 ∷ rest) (λ e. omega (arith, ap length e, length-append line (10 ∷ rest)))
    ∙ ap (λ l. l ∷ lines_of (after_first is_newline (line ++ 10 ∷ rest))) (before_it 10 line rest lacks) ∙ ap (λ l. line ∷ lines_of l) (after_it 10 line rest lacks)

no_note : (front rest : List ℕ) → 0 < length front → Lacks 65 front → starts_with nat_eq (front ++ rest) (codes "A ") ≡ false
no_note [] rest some lacks = absurd (omega arith)
no_note (x ∷ front) rest some lacks = grind (arith, common_steps, lacks.0)

says : (m : ℕ) (text : List ℕ) → m < 2 ^ 64 → line_of Recorded (decimal m ++ 32 ∷ text) ≡ command Recorded m text
says m text fits =
    let lacks = moment_lacks 32 m (omega arith) fits in
    let line = decimal m ++ 32 ∷ text in
    ap (λ b. cond b (noted_by (drop 2 line)) (timed_line Recorded line)) (no_note (decimal m) (32 ∷ text) (moment_nonempty m fits) (moment_lacks_letter 65 m (omega arith) fits))
    ∙ ap (λ l. line_by Recorded (number_of l) (after_first is_space (decimal m ++ 32 ∷ text))) (before_it 32 (decimal m) text lacks)
    ∙ ap (line_by Recorded (number_of (decimal m))) (after_it 32 (decimal m) text lacks) ∙ ap (λ o. line_by Recorded o text) (moment_reads m fits)

one_line : (m : ℕ) (text rest : List ℕ) → m < 2 ^ 64 → Lacks 10 text → lines_in Recorded (line_text m text ++ rest) ≡ command Recorded m text ∷ lines_in Recorded rest
one_line m text rest fits lacks =
    let head : Lacks 10 (decimal m ++ 32 ∷ text) = lacks-append 10 (decimal m) (32 ∷ text) (moment_lacks 10 m (omega arith) fits) (refl, lacks) in
    let whole : line_text m text ++ rest ≡ (decimal m ++ 32 ∷ text) ++ 10 ∷ rest = simp append_assoc in
    ap (lines_in Recorded) whole ∙ ap (map (line_of Recorded)) (first_line (decimal m ++ 32 ∷ text) rest head) ∙ ap (λ l. l ∷ lines_in Recorded rest) (says m text fits)

-- ---- Documents

within : (n : ℕ) → nat_le n BODY_LIMIT ≡ true → nat_lt BODY_LIMIT n ≡ false
within n h = le-ltb BODY_LIMIT n (leb-true n BODY_LIMIT h)

lacks_by : (x : ℕ) (xs : List ℕ) (b : Bool) → (list_any is_newline xs ≡ false → Lacks 10 xs) → eqb x 10 ≡ b → (b || list_any is_newline xs) ≡ false → Lacks 10 (x ∷ xs)
lacks_by x xs true rest e h = cc
lacks_by x xs false rest e h = (e, rest h)

lacks_end : (d : List ℕ) → list_any is_newline d ≡ false → Lacks 10 d
lacks_end [] h = tt
lacks_end (x ∷ xs) h = lacks_by x xs (eqb x 10) (λ g. lacks_end xs g) refl h

pub record Says (m : ℕ) (text : List ℕ) (ds : List (List ℕ)) : Type 0 where
  pub lacks : Lacks 10 text
  pub says_them : command Recorded m text ≡ handed_by m (Documents None ds)

plain_says : (m : ℕ) (d : List ℕ) → list_any is_newline d ≡ false → nat_le (length d) BODY_LIMIT ≡ true → Says m (codes "P " ++ d) (d ∷ [])
plain_says m d plain fits = record {
  lacks = (refl, (refl, lacks_end d plain));
  says_them = ap (λ b. handed_by m (body_by (cond b (Err TooLarge) (Ok (d ∷ []))))) (within (length d) fits);
}

form_says : (m : ℕ) (d : List ℕ) (ds : List (List ℕ)) → AllByRecursion IsUtf8 (d ∷ ds) → nat_le (length (form_of (d ∷ ds))) BODY_LIMIT ≡ true → Says m (codes "F " ++ form_of (d ∷ ds)) (d ∷ ds)
form_says m d ds texts fits = record {
  lacks = (refl, (refl, form_lacks d ds));
  says_them = ap (λ b. handed_by m (body_by (cond b (Err TooLarge) (some_documents (values_of (codes "message") (form_of (d ∷ ds))))))) (within (length (form_of (d ∷ ds))) fits)
      ∙ ap (λ values. handed_by m (body_by (some_documents values))) (carried d ds texts);
}

pub documents_say : (m : ℕ) (ds : List (List ℕ)) → AllByRecursion IsUtf8 ds → can_say ds ≡ true → Says m (command_of ds) ds
documents_say m [] texts can = cc
documents_say m (d ∷ []) texts can = by_newline (list_any is_newline d) refl can
  where
    by_newline : (b : Bool) → list_any is_newline d ≡ b → nat_le (length (carrier_by (cond b None (Some d)) (d ∷ []))) BODY_LIMIT ≡ true → Says m (command_by (cond b None (Some d)) (d ∷ [])) (d ∷ [])
    by_newline true e h = form_says m d [] texts h
    by_newline false e h = plain_says m d e h
documents_say m (d ∷ e ∷ ds) texts can = form_says m d (e ∷ ds) texts can

-- ---- One input

abbrev pub said_by : Bool → ℕ → ReadInput → List Line
said_by true nonce input = Announced nonce ∷ Accepted None input ∷ []
said_by false nonce input = Accepted None input ∷ []

abbrev pub said_lines : Input → List Line
said_lines (Post a) = said_by (asks_for_session (read_input (Post a))) a.nonce (as_recorded (read_input (Post a)))
said_lines (inputs.Tick moment) = Accepted None (Tick moment) ∷ []

documents_line : (m : ℕ) (ds : List (List ℕ)) (ms : List Message) (rest : List ℕ) → m < 2 ^ 64 → request_messages ds ≡ Ok ms → Says m (command_of ds) ds
    → lines_in Recorded (line_text m (command_of ds) ++ rest) ≡ Accepted None (Request m 0 ms) ∷ lines_in Recorded rest
documents_line m ds ms rest fits readable s =
    one_line m (command_of ds) rest fits s.lacks ∙ ap (λ l. l ∷ lines_in Recorded rest) (s.says_them ∙ ap (λ r. Accepted None (read_by m 0 r)) readable)

pub nonce_line : (m nonce : ℕ) (rest : List ℕ) → m < 2 ^ 64 → nonce < 2 ^ 128 → lines_in Recorded (line_text m (codes "N " ++ nonce_digits nonce) ++ rest) ≡ Announced nonce ∷ lines_in Recorded rest
nonce_line m nonce rest fits small =
    one_line m (codes "N " ++ nonce_digits nonce) rest fits (refl, (refl, nonce_lacks nonce)) ∙ ap (λ o. announces o ∷ lines_in Recorded rest) (nonce_reads nonce small)

request_lines : (m nonce : ℕ) (ds : List (List ℕ)) (ms : List Message) (rest : List ℕ) → m < 2 ^ 64 → nonce < 2 ^ 128 → request_messages ds ≡ Ok ms → Says m (command_of ds) ds → (b : Bool)
    → with_nonces 0 (lines_in Recorded ((nonce_text b m nonce ++ line_text m (command_of ds)) ++ rest)) ≡ said_by b nonce (cond b (Request m nonce ms) (Request m 0 ms)) ++ with_nonces 0 (lines_in Recorded rest)
request_lines m nonce ds ms rest fits small readable s true =
    let behind = line_text m (command_of ds) ++ rest in
    ap (λ t. with_nonces 0 (lines_in Recorded t)) (append_assoc (line_text m (codes "N " ++ nonce_digits nonce)) (line_text m (command_of ds)) rest)
    ∙ ap (with_nonces 0) (nonce_line m nonce behind fits small ∙ ap (λ ls. Announced nonce ∷ ls) (documents_line m ds ms rest fits readable s))
request_lines m nonce ds ms rest fits small readable s false = ap (with_nonces 0) (documents_line m ds ms rest fits readable s)

pub input_lines : (input : Input) (rest : List ℕ) → CanRecord input → with_nonces 0 (lines_in Recorded (input_text input ++ rest)) ≡ said_lines input ++ with_nonces 0 (lines_in Recorded rest)
input_lines (inputs.Tick moment) rest fits = ap (with_nonces 0) (one_line moment (codes "T") rest fits (refl, tt))
input_lines (Post a) rest can = by_result (arrival_messages a) refl can.readable
  where
    SameLines : Result (List Message) Refusal → Type 0
    SameLines r =
        let input : ReadInput = read_by a.moment a.nonce r in
        with_nonces 0 (lines_in Recorded ((nonce_text (asks_for_session input) a.moment a.nonce ++ line_text a.moment (command_of (texts_of a.bodies))) ++ rest))
        ≡ said_by (asks_for_session input) a.nonce (as_recorded input) ++ with_nonces 0 (lines_in Recorded rest)

    by_result : (r : Result (List Message) Refusal) → arrival_messages a ≡ r → is_ok r ≡ true → SameLines (arrival_messages a)
    by_result (Err fault) e h = cc
    by_result (Ok ms) e h =
        let read = let_in-ok a.access (request_messages (texts_of a.bodies)) ms e in
        let says_all = documents_say a.moment (texts_of a.bodies) (arrival_utf8 a can.readable) can.sayable in
        subst SameLines (sym e) (request_lines a.moment a.nonce (texts_of a.bodies) ms rest can.moment can.nonce read says_all (list_any is_handshake ms))

-- ---- A record

all_lines : (inputs : List Input) → AllByRecursion CanRecord inputs → recorded_lines inputs ≡ flat_map said_lines inputs
all_lines [] h = refl
all_lines (input ∷ inputs) h = input_lines input (record_of inputs) h.0 ∙ ap (λ ls. said_lines input ++ ls) (all_lines inputs h.1)

abbrev pub said_all : List Input → List ReadInput
said_all inputs = map (λ input. as_recorded (read_input input)) inputs

abbrev pub inputs_at : ℕ → List Line → List ReadInput
inputs_at number ls = map (λ (n : Numbered). n.input) (inputs_from number ls)

pub inputs_by : (number nonce : ℕ) (input : ReadInput) (ls : List Line) (is : List ReadInput) → ((k : ℕ) → inputs_at k ls ≡ is) → (b : Bool) → inputs_at number (said_by b nonce input ++ ls) ≡ input ∷ is
inputs_by number nonce input ls is rest true = ap (λ (js : List ReadInput). input ∷ js) (rest (number + 1 + 1))
inputs_by number nonce input ls is rest false = ap (λ (js : List ReadInput). input ∷ js) (rest (number + 1))

pub its_inputs : (number : ℕ) (inputs : List Input) → inputs_at number (flat_map said_lines inputs) ≡ said_all inputs
its_inputs number [] = refl
its_inputs number (inputs.Tick moment ∷ inputs) = ap (λ (js : List ReadInput). Tick moment ∷ js) (its_inputs (number + 1) inputs)
its_inputs number (Post a ∷ inputs) =
    let input : ReadInput = read_input (Post a) in
    inputs_by number a.nonce (as_recorded input) (flat_map said_lines inputs) (said_all inputs) (λ k. its_inputs k inputs) (asks_for_session input)

others_by : (nonce : ℕ) (input : ReadInput) (ls : List Line) → list_all is_of_record ls ≡ true → (b : Bool) → list_all is_of_record (said_by b nonce input ++ ls) ≡ true
others_by nonce input ls rest true = rest
others_by nonce input ls rest false = rest

pub no_others : (inputs : List Input) → list_all is_of_record (flat_map said_lines inputs) ≡ true
no_others [] = refl
no_others (inputs.Tick moment ∷ inputs) = no_others inputs
no_others (Post a ∷ inputs) =
    let input : ReadInput = read_input (Post a) in
    others_by a.nonce (as_recorded input) (flat_map said_lines inputs) (no_others inputs) (asks_for_session input)

pub records : RecordsReadBack
records inputs h =
    let same = all_lines inputs h in
    record { inputs_are = ap inputs_in same ∙ its_inputs 1 inputs; nothing_else = ap (list_all is_of_record) same ∙ no_others inputs }
