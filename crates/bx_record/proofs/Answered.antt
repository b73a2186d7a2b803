-- Proves that lines of answers in a record are skipped and change nothing.
use Rattle.std.proofs.Common.{◌≡◌, ℕ, zero, suc, ◌+◌, ◌/◌, ◌%◌, ◌^◌, ◌<◌, ◌≤◌, ◌&&◌, Bool, true, false, eqb, cond, List, [], ◌∷◌, ◌++◌, length, map, codes, decimal, slice_index, is_some, refl, ap, ◌∙◌, arith, append_assoc, length-append, lit≤, le_trans, eq-eqb}
use Rattle.std.specs.{Prelude.flat_map, List.after_first, List.before_first, List.list_all, List.AllByRecursion, Char.is_ascii_hexdigit}
use Rattle.std.proofs.lemmas.{Bool.and_parts, Bool.le-ltb, Bool.Decides.nat_tests, Fmt.length-decimal-le, Grind.common_steps}
use Rattle.std.proofs.Math.Nat.{mod-lt}
use Rattle.hex.specs.Hex.{encode_lower, encode_with, lower_digits}
use Rattle.hex.proofs.HexLemmas.{length-encode_with}
use Rattle.bx_advice.specs.declared.limit.TheConstants.{BODY_LIMIT}
use Rattle.bx_message.specs.Fields.{number_of}
use Rattle.bx_entry.specs.declared.input.Input.TheVariants.{Post}
use Rattle.bx_entry.specs.declared.input.Input.TheVariants as inputs
use Rattle.bx_entry.specs.Words.{ReadInput, held, outs, read_input}
use Rattle.bx_entry.specs.Inputs.{Tick}
use Rattle.bx_script.specs.Words.{Bad, Line, Noted, Recorded, is_digest, is_space, line_of, lines_in, noted_by, with_nonces}
use Rattle.bx_script.proofs.Cuts.{Lacks, after_it, before_it}
use Rattle.bx_theory.specs.Lines.{inputs_in}
use Rattle.bx_record.specs.Answers.{Given, IsSha256, Part, Taken, answer_text, part_text, record_with, taken_inputs}
use Rattle.bx_record.specs.Laws.{AnswersAreSkipped, AnswersChangeNothing, CanStand, is_of_either, record_lines}
use Rattle.bx_record.specs.Record.{asks_for_session, as_recorded}
use Rattle.bx_record.proofs.Digits.{lacks-append, moment_lacks, moment_reads}
use Rattle.bx_record.proofs.ReadBack.{first_line, input_lines, inputs_at, inputs_by, said_all, said_by, said_lines}
use Rattle.bx_record.proofs.Unused.{said_after, same_held, same_outs}

-- ---- Digits

at_index : (p : ℕ → Bool) (xs : List ℕ) (i : ℕ) → i < length xs → list_all p xs ≡ true → p (slice_index xs i) ≡ true
at_index p [] i inside all = absurd (omega arith)
at_index p (x ∷ xs) zero inside all = (and_parts (p x) (list_all p xs) all).0
at_index p (x ∷ xs) (suc i) inside all = at_index p xs i (omega arith) (and_parts (p x) (list_all p xs) all).1

is_digit : (k : ℕ) → k < 16 → is_ascii_hexdigit (slice_index lower_digits k) ≡ true
is_digit k low = at_index is_ascii_hexdigit lower_digits k low refl

all_digits : (bytes : List ℕ) → AllByRecursion (λ (byte : ℕ). byte < 256) bytes → list_all is_ascii_hexdigit (encode_lower bytes) ≡ true
unfolding encode_with
all_digits [] h = refl
all_digits (byte ∷ bytes) h =
    let small : byte < 256 = h.0 in
    let high : byte / 16 < 16 = omega arith in
    let low : byte % 16 < 16 = mod-lt byte (omega arith) in
    rw (is_digit (byte / 16) high, is_digit (byte % 16) low, all_digits bytes h.1) refl

digit_is_no_end : (d : ℕ) → is_ascii_hexdigit d ≡ true → eqb d 10 ≡ false
digit_is_no_end d h = grind (arith, common_steps, nat_tests)

digits_lack : (ds : List ℕ) → list_all is_ascii_hexdigit ds ≡ true → Lacks 10 ds
digits_lack [] h = tt
digits_lack (d ∷ ds) h = let parts = and_parts (is_ascii_hexdigit d) (list_all is_ascii_hexdigit ds) h in (digit_is_no_end d parts.0, digits_lack ds parts.1)

many_digits : (digest : List ℕ) → IsSha256 digest → length (encode_lower digest) ≡ 64
many_digits digest h = omega (arith, length-encode_with lower_digits digest, h.count)

digest_by : (ds : List ℕ) → length ds ≡ 64 → list_all is_ascii_hexdigit ds ≡ true → is_digest ds ≡ true
digest_by ds many all = rw (eq-eqb (length ds) 64 many, all) refl

-- ---- The line of an answer

abbrev pub note : ℕ → List ℕ → List ℕ
note place digest = decimal place ++ 32 ∷ encode_lower digest

note_is_short : (place : ℕ) (digest : List ℕ) → place < 2 ^ 64 → IsSha256 digest → length (note place digest) ≤ BODY_LIMIT
note_is_short place digest fits h =
    let low : place < 10 ^ 20 = le_trans fits (lit≤ tt) in
    let few : length (decimal place) ≤ 20 = length-decimal-le 20 place (omega arith) low fits in
    let room : 85 ≤ BODY_LIMIT = lit≤ tt in
    le_trans (let all : length (note place digest) ≤ 85 = omega (arith, few, length-append (decimal place) (32 ∷ encode_lower digest), many_digits digest h) in all) room

note_reads : (place : ℕ) (digest : List ℕ) → place < 2 ^ 64 → IsSha256 digest → noted_by (note place digest) ≡ Noted
note_reads place digest fits h =
    let ds : List ℕ = encode_lower digest in
    let text : List ℕ = note place digest in
    let lacks : Lacks 32 (decimal place) = moment_lacks 32 place (omega arith) fits in
    ap (λ b. cond b Bad (cond (is_some (number_of (before_first is_space text)) && is_digest (after_first is_space text)) Noted Bad)) (le-ltb BODY_LIMIT (length text) (note_is_short place digest fits h))
    ∙ ap (λ m. cond (is_some (number_of m) && is_digest (after_first is_space text)) Noted Bad) (before_it 32 (decimal place) ds lacks)
    ∙ ap (λ o. cond (is_some o && is_digest (after_first is_space text)) Noted Bad) (moment_reads place fits)
    ∙ ap (λ d. cond (is_digest d) Noted Bad) (after_it 32 (decimal place) ds lacks)
    ∙ ap (λ b. cond b Noted Bad) (digest_by ds (many_digits digest h) (all_digits digest h.bytes))

abbrev pub bare : ℕ → List ℕ → List ℕ
bare place digest = codes "A " ++ note place digest

pub bare_lacks : (place : ℕ) (digest : List ℕ) → place < 2 ^ 64 → IsSha256 digest → Lacks 10 (bare place digest)
bare_lacks place digest fits h =
    (refl, (refl, lacks-append 10 (decimal place) (32 ∷ encode_lower digest) (moment_lacks 10 place (omega arith) fits) (refl, digits_lack (encode_lower digest) (all_digits digest h.bytes))))

pub text_is : (place : ℕ) (digest rest : List ℕ) → answer_text place digest ++ rest ≡ bare place digest ++ 10 ∷ rest
text_is place digest rest = simp append_assoc

bare_says : (place : ℕ) (digest : List ℕ) → place < 2 ^ 64 → IsSha256 digest → line_of Recorded (bare place digest) ≡ Noted
bare_says place digest fits h = note_reads place digest fits h

pub skipped : AnswersAreSkipped
skipped place digest rest fits h =
    let lacks = bare_lacks place digest fits h in
    record {
      noted = ap (λ t. line_of Recorded (before_first (λ byte. eqb byte 10) t)) (text_is place digest rest) ∙ ap (line_of Recorded) (before_it 10 (bare place digest) rest lacks) ∙ bare_says place digest fits h;
      left = ap (after_first (λ byte. eqb byte 10)) (text_is place digest rest) ∙ after_it 10 (bare place digest) rest lacks;
    }

-- ---- One part of a record

abbrev pub said_part : Part → List Line
said_part (Taken input) = said_lines input
said_part (Given place digest) = Noted ∷ []

pub part_lines : (part : Part) (rest : List ℕ) → CanStand part → with_nonces 0 (lines_in Recorded (part_text part ++ rest)) ≡ said_part part ++ with_nonces 0 (lines_in Recorded rest)
part_lines (Taken input) rest can = input_lines input rest can
part_lines (Given place digest) rest can =
    ap (λ t. with_nonces 0 (lines_in Recorded t)) (text_is place digest rest)
    ∙ ap (λ ls. with_nonces 0 (map (line_of Recorded) ls)) (first_line (bare place digest) rest (bare_lacks place digest can.0 can.1))
    ∙ ap (λ l. with_nonces 0 (l ∷ lines_in Recorded rest)) (bare_says place digest can.0 can.1)

-- ---- All parts

all_parts : (parts : List Part) → AllByRecursion CanStand parts → record_lines (record_with parts) ≡ flat_map said_part parts
all_parts [] h = refl
all_parts (part ∷ parts) h = part_lines part (record_with parts) h.0 ∙ ap (λ ls. said_part part ++ ls) (all_parts parts h.1)

its_inputs : (number : ℕ) (parts : List Part) → inputs_at number (flat_map said_part parts) ≡ said_all (taken_inputs parts)
its_inputs number [] = refl
its_inputs number (Given place digest ∷ parts) = its_inputs (number + 1) parts
its_inputs number (Taken (inputs.Tick moment) ∷ parts) = ap (λ (js : List ReadInput). Tick moment ∷ js) (its_inputs (number + 1) parts)
its_inputs number (Taken (Post a) ∷ parts) =
    let input : ReadInput = read_input (Post a) in
    inputs_by number a.nonce (as_recorded input) (flat_map said_part parts) (said_all (taken_inputs parts)) (λ k. its_inputs k parts) (asks_for_session input)

others_by : (nonce : ℕ) (input : ReadInput) (ls : List Line) → list_all is_of_either ls ≡ true → (b : Bool) → list_all is_of_either (said_by b nonce input ++ ls) ≡ true
others_by nonce input ls rest true = rest
others_by nonce input ls rest false = rest

pub no_others : (parts : List Part) → list_all is_of_either (flat_map said_part parts) ≡ true
no_others [] = refl
no_others (Given place digest ∷ parts) = no_others parts
no_others (Taken (inputs.Tick moment) ∷ parts) = no_others parts
no_others (Taken (Post a) ∷ parts) =
    let input : ReadInput = read_input (Post a) in
    others_by a.nonce (as_recorded input) (flat_map said_part parts) (no_others parts) (asks_for_session input)

pub nothing_changes : AnswersChangeNothing
nothing_changes parts h =
    let same = all_parts parts h in
    let are : inputs_in (record_lines (record_with parts)) ≡ said_all (taken_inputs parts) = ap inputs_in same ∙ its_inputs 1 parts in
    let taken : List ReadInput = map read_input (taken_inputs parts) in
    let said : inputs_in (record_lines (record_with parts)) ≡ map as_recorded taken = are ∙ said_after (taken_inputs parts) in
    record {
      inputs_are = are;
      nothing_else = ap (list_all is_of_either) same ∙ no_others parts;
      outs_are = λ config. ap (outs config) said ∙ same_outs config taken;
      held_are = λ config. ap (held config) said ∙ same_held config taken;
    }
