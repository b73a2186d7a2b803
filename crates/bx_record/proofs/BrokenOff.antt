-- Proves that a truncated record gives its first inputs.
use Rattle.std.proofs.Common.{◌≡◌, ℕ, zero, suc, ◌+◌, ◌<◌, ◌^◌, ◌⊎◌, inl, inr, Bool, true, false, eqb, cond, List, [], ◌∷◌, ◌++◌, map, take, codes, decimal, refl, sym, ap, ◌∙◌, arith, append_assoc}
use Rattle.std.specs.{Prelude.flat_map, List.list_all, List.AllByRecursion}
use Rattle.std.proofs.lemmas.List.Folds.{list_all-append}
use Rattle.bx_cut.specs.Bodies.{texts_of}
use Rattle.bx_entry.specs.declared.{input.Arrival.Arrival, input.Input.Input, input.Input.TheVariants.Post, input.Input.TheVariants.Tick}
use Rattle.bx_entry.specs.Words.{ReadInput, read_input}
use Rattle.bx_script.specs.Words.{Announced, Line, line_text, with_nonces}
use Rattle.bx_script.proofs.Cuts.{Lacks}
use Rattle.bx_theory.specs.Lines.{inputs_in}
use Rattle.bx_record.specs.Answers.{Given, Part, Taken, part_text, record_with, taken_inputs}
use Rattle.bx_record.specs.Record.{asks_for_session, command_of, nonce_digits, nonce_text, record_of, as_recorded}
use Rattle.bx_record.specs.Laws.{AnswersBreakOff, CanRecord, CanStand, IsRecordable, RecordsBreakOff, ended_by, ended_lines, is_of_either, is_of_record, record_lines}
use Rattle.bx_record.proofs.Answered.{part_lines, said_part, text_is}
use Rattle.bx_record.proofs.Answered as answers
use Rattle.bx_record.proofs.Bytes.{arrival_utf8}
use Rattle.bx_record.proofs.Digits.{lacks-append, moment_lacks, nonce_lacks}
use Rattle.bx_record.proofs.ReadBack.{Says, documents_say, inputs_at, inputs_by, nonce_line, said_all, said_lines}
use Rattle.bx_record.proofs.ReadBack as records

-- ---- Complete lines

none_ends : (text : List ℕ) → Lacks 10 text → ended_lines text ≡ []
none_ends [] h = refl
none_ends (x ∷ xs) h = ap (ended_by x) (none_ends xs h.1) ∙ ap (λ b. cond b (x ∷ []) []) h.0

end_before : (rest : List ℕ) → ended_by 10 rest ≡ 10 ∷ rest
end_before [] = refl
end_before (x ∷ xs) = refl

byte_before : (x : ℕ) (m rest : List ℕ) → ended_by x (m ++ 10 ∷ rest) ≡ x ∷ (m ++ 10 ∷ rest)
byte_before x [] rest = refl
byte_before x (y ∷ m) rest = refl

line_ends : (m rest : List ℕ) → Lacks 10 m → ended_lines (m ++ 10 ∷ rest) ≡ m ++ 10 ∷ ended_lines rest
line_ends [] rest h = end_before (ended_lines rest)
line_ends (x ∷ m) rest h = ap (ended_by x) (line_ends m rest h.1) ∙ byte_before x m (ended_lines rest)

record GoesPast (m front behind rest : List ℕ) : Type 0 where
  next : List ℕ
  front_is : front ≡ m ++ 10 ∷ next
  rest_is : next ++ behind ≡ rest

goes_past : (m front behind rest : List ℕ) → Lacks 10 m → front ++ behind ≡ m ++ 10 ∷ rest → Lacks 10 front ⊎ GoesPast m front behind rest
goes_past m [] behind rest h e = inl tt
goes_past [] (x ∷ front) behind rest h e = inr (record { next = front; front_is = (let first : x ≡ 10 = cc in ap (λ y. y ∷ front) first); rest_is = cc })
goes_past (y ∷ m) (x ∷ front) behind rest h e = by_rest (goes_past m front behind rest h.1 cc)
  where
    first : x ≡ y
    first = cc

    by_rest : Lacks 10 front ⊎ GoesPast m front behind rest → Lacks 10 (x ∷ front) ⊎ GoesPast (y ∷ m) (x ∷ front) behind rest
    by_rest (inl lacks) = inl (ap (λ z. eqb z 10) first ∙ h.0, lacks)
    by_rest (inr past) = inr (record { next = past.next; front_is = ap (λ z. z ∷ front) first ∙ ap (λ l. y ∷ l) past.front_is; rest_is = past.rest_is })

-- ---- One part

record SaysUpTo (parts : List Part) (lines : List Line) : Type 0 where
  count : ℕ
  last : List Line
  lines_are : lines ≡ flat_map said_part (take count parts) ++ last
  at_most : (last ≡ []) ⊎ ((nonce : ℕ) × (last ≡ Announced nonce ∷ []))

says_nothing : (parts : List Part) (front : List ℕ) → Lacks 10 front → SaysUpTo parts (record_lines (ended_lines front))
says_nothing parts front lacks = record { count = 0; last = []; lines_are = ap record_lines (none_ends front lacks); at_most = inl refl }

says_more : (part : Part) (parts : List Part) (front next : List ℕ) → CanStand part → ended_lines front ≡ part_text part ++ ended_lines next → SaysUpTo parts (record_lines (ended_lines next))
    → SaysUpTo (part ∷ parts) (record_lines (ended_lines front))
says_more part parts front next can ends more = record {
  count = suc more.count;
  last = more.last;
  lines_are = ap record_lines ends ∙ part_lines part (ended_lines next) can ∙ ap (λ ls. said_part part ++ ls) more.lines_are
      ∙ sym (append_assoc (said_part part) (flat_map said_part (take more.count parts)) more.last);
  at_most = more.at_most;
}

abbrev bare : ℕ → List ℕ → List ℕ
bare m text = decimal m ++ 32 ∷ text

bare_lacks : (m : ℕ) (text : List ℕ) → m < 2 ^ 64 → Lacks 10 text → Lacks 10 (bare m text)
bare_lacks m text fits lacks = lacks-append 10 (decimal m) (32 ∷ text) (moment_lacks 10 m (omega arith) fits) (refl, lacks)

line_is : (m : ℕ) (text rest : List ℕ) → line_text m text ++ rest ≡ bare m text ++ 10 ∷ rest
line_is m text rest = simp append_assoc

abbrev IsLine : Part → List ℕ → Type 0
IsLine part line = (rest : List ℕ) → part_text part ++ rest ≡ line ++ 10 ∷ rest

abbrev GoesOn : List Part → List ℕ → List ℕ → Type 0
GoesOn parts behind rest = (next : List ℕ) → next ++ behind ≡ rest → SaysUpTo parts (record_lines (ended_lines next))

one_more_line : (line : List ℕ) (part : Part) (parts : List Part) (front behind : List ℕ) → Lacks 10 line → CanStand part → IsLine part line
    → GoesOn parts behind (record_with parts) → front ++ behind ≡ part_text part ++ record_with parts → SaysUpTo (part ∷ parts) (record_lines (ended_lines front))
one_more_line line part parts front behind lacks can same more e = by_front (goes_past line front behind (record_with parts) lacks (e ∙ same (record_with parts)))
  where
    by_front : Lacks 10 front ⊎ GoesPast line front behind (record_with parts) → SaysUpTo (part ∷ parts) (record_lines (ended_lines front))
    by_front (inl none) = says_nothing (part ∷ parts) front none
    by_front (inr past) =
        let ends : ended_lines front ≡ part_text part ++ ended_lines past.next =
        ap ended_lines past.front_is ∙ line_ends line past.next lacks ∙ sym (same (ended_lines past.next)) in
        says_more part parts front past.next can ends (more past.next past.rest_is)

two_lines : (a : Arrival) (parts : List Part) (front behind : List ℕ) → CanRecord (Post a) → (b : Bool) → asks_for_session (read_input (Post a)) ≡ b → Lacks 10 (command_of (texts_of a.bodies))
    → GoesOn parts behind (record_with parts) → front ++ behind ≡ (nonce_text b a.moment a.nonce ++ line_text a.moment (command_of (texts_of a.bodies))) ++ record_with parts
    → SaysUpTo (Taken (Post a) ∷ parts) (record_lines (ended_lines front))
two_lines a parts front behind can false asks lacks more e =
    let documents : List ℕ = command_of (texts_of a.bodies) in
    one_more_line (bare a.moment documents) (Taken (Post a)) parts front behind (bare_lacks a.moment documents can.moment lacks) can
    (λ rest. ap (λ b. (nonce_text b a.moment a.nonce ++ line_text a.moment documents) ++ rest) asks ∙ line_is a.moment documents rest) more
    (e ∙ sym (ap (λ b. (nonce_text b a.moment a.nonce ++ line_text a.moment documents) ++ record_with parts) asks))
two_lines a parts front behind can true asks lacks more e =
    by_front (goes_past first front behind (second ++ record_with parts) first_lacks (e ∙ append_assoc (line_text a.moment said) second (record_with parts) ∙ line_is a.moment said (second ++ record_with parts)))
  where
    said : List ℕ
    said = codes "N " ++ nonce_digits a.nonce

    documents : List ℕ
    documents = command_of (texts_of a.bodies)

    first : List ℕ
    first = bare a.moment said

    second : List ℕ
    second = line_text a.moment documents

    first_lacks : Lacks 10 first
    first_lacks = bare_lacks a.moment said can.moment (refl, (refl, nonce_lacks a.nonce))

    second_lacks : Lacks 10 (bare a.moment documents)
    second_lacks = bare_lacks a.moment documents can.moment lacks

    both : (rest : List ℕ) → part_text (Taken (Post a)) ++ rest ≡ first ++ 10 ∷ (bare a.moment documents ++ 10 ∷ rest)
    both rest =
        ap (λ b. (nonce_text b a.moment a.nonce ++ second) ++ rest) asks ∙ append_assoc (line_text a.moment said) second rest ∙ line_is a.moment said (second ++ rest)
        ∙ ap (λ t. first ++ 10 ∷ t) (line_is a.moment documents rest)

    by_second : (next : List ℕ) → front ≡ first ++ 10 ∷ next → Lacks 10 next ⊎ GoesPast (bare a.moment documents) next behind (record_with parts) → SaysUpTo (Taken (Post a) ∷ parts) (record_lines (ended_lines front))
    by_second next is (inl none) =
        let ends : ended_lines front ≡ line_text a.moment said ++ [] =
        ap ended_lines is ∙ line_ends first next first_lacks ∙ ap (λ t. first ++ 10 ∷ t) (none_ends next none) ∙ sym (line_is a.moment said []) in
        record { count = 0; last = Announced a.nonce ∷ []; lines_are = ap record_lines ends ∙ ap (with_nonces 0) (nonce_line a.moment a.nonce [] can.moment can.nonce); at_most = inr (a.nonce, refl) }
    by_second next is (inr past) =
        let ends : ended_lines front ≡ part_text (Taken (Post a)) ++ ended_lines past.next =
        ap ended_lines is ∙ line_ends first next first_lacks ∙ ap (λ t. first ++ 10 ∷ t) (ap ended_lines past.front_is ∙ line_ends (bare a.moment documents) past.next second_lacks) ∙ sym (both (ended_lines past.next)) in
        says_more (Taken (Post a)) parts front past.next can ends (more past.next past.rest_is)

    by_front : Lacks 10 front ⊎ GoesPast first front behind (second ++ record_with parts) → SaysUpTo (Taken (Post a) ∷ parts) (record_lines (ended_lines front))
    by_front (inl none) = says_nothing (Taken (Post a) ∷ parts) front none
    by_front (inr past) = by_second past.next past.front_is (goes_past (bare a.moment documents) past.next behind (record_with parts) second_lacks (past.rest_is ∙ line_is a.moment documents (record_with parts)))

-- ---- Records with answers

says_up_to : (parts : List Part) (front behind : List ℕ) → AllByRecursion CanStand parts → front ++ behind ≡ record_with parts → SaysUpTo parts (record_lines (ended_lines front))
says_up_to [] [] behind h e = record { count = 0; last = []; lines_are = refl; at_most = inl refl }
says_up_to [] (x ∷ front) behind h e = cc
says_up_to (Given place digest ∷ parts) front behind h e =
    one_more_line (answers.bare place digest) (Given place digest) parts front behind (answers.bare_lacks place digest h.0.0 h.0.1) h.0 (λ rest. text_is place digest rest)
    (λ next same. says_up_to parts next behind h.1 same) e
says_up_to (Taken (Tick moment) ∷ parts) front behind h e =
    one_more_line (bare moment (codes "T")) (Taken (Tick moment)) parts front behind (bare_lacks moment (codes "T") h.0 (refl, tt)) h.0 (λ rest. line_is moment (codes "T") rest)
    (λ next same. says_up_to parts next behind h.1 same) e
says_up_to (Taken (Post a) ∷ parts) front behind h e =
    let can : IsRecordable a = h.0 in
    let says : Says a.moment (command_of (texts_of a.bodies)) (texts_of a.bodies) = documents_say a.moment (texts_of a.bodies) (arrival_utf8 a can.readable) can.sayable in
    two_lines a parts front behind can (asks_for_session (read_input (Post a))) refl says.lacks (λ next same. says_up_to parts next behind h.1 same) e

abbrev IsLast : List Line → Type 0
IsLast last = (last ≡ []) ⊎ ((nonce : ℕ) × (last ≡ Announced nonce ∷ []))

its_first : (number : ℕ) (parts : List Part) (last : List Line) → IsLast last → inputs_at number (flat_map said_part parts ++ last) ≡ said_all (taken_inputs parts)
its_first number [] last (inl e) = ap (inputs_at number) e
its_first number [] last (inr (nonce, e)) = ap (inputs_at number) e
its_first number (Given place digest ∷ parts) last at_most = its_first (number + 1) parts last at_most
its_first number (Taken (Tick moment) ∷ parts) last at_most = ap (λ (js : List ReadInput). read_input (Tick moment) ∷ js) (its_first (number + 1) parts last at_most)
its_first number (Taken (Post a) ∷ parts) last at_most =
    let input : ReadInput = as_recorded (read_input (Post a)) in
    ap (inputs_at number) (append_assoc (said_lines (Post a)) (flat_map said_part parts) last)
    ∙ inputs_by number a.nonce input (flat_map said_part parts ++ last) (said_all (taken_inputs parts)) (λ k. its_first k parts last at_most) (asks_for_session (read_input (Post a)))

last_is : (p : Line → Bool) (last : List Line) → ((nonce : ℕ) → p (Announced nonce) ≡ true) → IsLast last → list_all p last ≡ true
last_is p last passes (inl e) = ap (list_all p) e
last_is p last passes (inr (nonce, e)) = ap (list_all p) e ∙ rw (passes nonce) refl

none_else : (p : Line → Bool) (lines first last : List Line) → lines ≡ first ++ last → list_all p first ≡ true → ((nonce : ℕ) → p (Announced nonce) ≡ true) → IsLast last → list_all p lines ≡ true
none_else p lines first last e all passes at_most = ap (list_all p) e ∙ list_all-append p first last ∙ rw (all, last_is p last passes at_most) refl

pub answers_broken_off : AnswersBreakOff
answers_broken_off parts front behind h e =
    let says = says_up_to parts front behind h e in
    let first : List Part = take says.count parts in
    record {
      count = says.count;
      inputs_are = ap inputs_in says.lines_are ∙ its_first 1 first says.last says.at_most;
      nothing_else = none_else is_of_either (record_lines (ended_lines front)) (flat_map said_part first) says.last says.lines_are (answers.no_others first) (λ nonce. refl) says.at_most;
    }

-- ---- Records without answers

can_stand : (inputs : List Input) → AllByRecursion CanRecord inputs → AllByRecursion CanStand (map Taken inputs)
can_stand [] h = tt
can_stand (input ∷ inputs) h = (h.0, can_stand inputs h.1)

same_text : (inputs : List Input) → record_of inputs ≡ record_with (map Taken inputs)
same_text [] = refl
same_text (input ∷ inputs) = ap (λ t. part_text (Taken input) ++ t) (same_text inputs)

same_lines : (count : ℕ) (inputs : List Input) → flat_map said_part (take count (map Taken inputs)) ≡ flat_map said_lines (take count inputs)
same_lines zero inputs = refl
same_lines (suc count) [] = refl
same_lines (suc count) (input ∷ inputs) = ap (λ ls. said_lines input ++ ls) (same_lines count inputs)

same_inputs : (count : ℕ) (inputs : List Input) → taken_inputs (take count (map Taken inputs)) ≡ take count inputs
same_inputs zero inputs = refl
same_inputs (suc count) [] = refl
same_inputs (suc count) (input ∷ inputs) = ap (λ is. input ∷ is) (same_inputs count inputs)

pub broken_off : RecordsBreakOff
broken_off inputs front behind h e =
    let parts : List Part = map Taken inputs in
    let says = says_up_to parts front behind (can_stand inputs h) (e ∙ same_text inputs) in
    let first : List Input = take says.count inputs in
    record {
      count = says.count;
      inputs_are = ap inputs_in says.lines_are ∙ its_first 1 (take says.count parts) says.last says.at_most ∙ ap said_all (same_inputs says.count inputs);
      nothing_else = none_else is_of_record (record_lines (ended_lines front)) (flat_map said_lines first) says.last (says.lines_are ∙ ap (λ ls. ls ++ says.last) (same_lines says.count inputs))
          (records.no_others first) (λ nonce. refl) says.at_most;
    }
