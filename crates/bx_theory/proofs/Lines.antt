-- What more lines print begins with what fewer lines print.
use Rattle.std.proofs.Common.{◌≡◌, ℕ, ◌+◌, ◌<◌, ◌≤◌, Bool, cond, Option, List, [], ◌∷◌, ◌++◌, length, map, flat_map, slice_get, codes, decimal, refl, sym, ap, ◌∙◌, subst, arith, append-nil, append_assoc, length-append}
use Rattle.std.proofs.lemmas.{Grind.common_steps, Grind.flat_map-append, List.map-append, List.append_cancel_left, List.length-map, List.Sums.fold-append}
use Rattle.bx_advice.specs.declared.config.Config.{Config}
use Rattle.bx_entry.specs.Words.{ReadInput, Registry, registry, Intake, Taking, take_in, taken_in, Out, numbers_from, Whole, whole_of, wholes_from, wholes, is_at, whole_at, outs}
use Rattle.bx_script.specs.Replay.{Line, Bad, Rejected, Accepted, Resharded, Announced, Noted, Numbered, inputs_from, line_text, out_by, outs_at, printed_from}
use Rattle.bx_theory.specs.Lines.{inputs_in, printed_so_far, AddsOuts, outs_text, line_prints, InputsGoOn, LinesGoOn, HeldComeLast}
use Rattle.bx_theory.proofs.Lists.{slice_get_less}
use Rattle.bx_theory.proofs.Wholes.{Took, took, whole_push, numbers_split, flat_same, Grows, grows, ends_of, many_of}

-- ---- One line, and the lines after it

first_input : (number : ℕ) (l : Line) (ls : List Line) → inputs_from number (l ∷ ls) ≡ inputs_from number (l ∷ []) ++ inputs_from (number + 1) ls
first_input number Bad ls = refl
first_input number _ ls = refl

pub inputs_on : (number : ℕ) (ls ms : List Line) → inputs_from number (ls ++ ms) ≡ inputs_from number ls ++ inputs_from (number + length ls) ms
inputs_on number [] ms = ap (λ (n : ℕ). inputs_from n ms) (let e : number ≡ number + 0 = omega arith in e)
inputs_on number (l ∷ ls) ms =
    first_input number l (ls ++ ms)
    ∙ ap (λ (ns : List Numbered). inputs_from number (l ∷ []) ++ ns)
    (inputs_on (number + 1) ls ms ∙ ap (λ (n : ℕ). inputs_from (number + 1) ls ++ inputs_from n ms) (let e : number + 1 + length ls ≡ number + length (l ∷ ls) = omega arith in e))
    ∙ sym (append_assoc (inputs_from number (l ∷ [])) (inputs_from (number + 1) ls) (inputs_from (number + length (l ∷ ls)) ms))
    ∙ ap (λ (ns : List Numbered). ns ++ inputs_from (number + length (l ∷ ls)) ms) (sym (first_input number l ls))

text_first : (text rest other : List ℕ) → rest ≡ other → text ++ rest ≡ (text ++ []) ++ other
text_first text rest other e = ap (λ (t : List ℕ). text ++ t) e ∙ ap (λ (t : List ℕ). t ++ other) (sym (append-nil text))

first_prints : (ws : List Whole) (numbered : List Numbered) (number index : ℕ) (l : Line) (ls : List Line) →
    printed_from ws numbered number index (l ∷ ls) ≡ printed_from ws numbered number index (l ∷ []) ++ printed_from ws numbered (number + 1) (index + length (inputs_from number (l ∷ []))) ls
first_prints ws numbered number index Bad ls = text_first (line_text number (codes "bad")) (printed_from ws numbered (number + 1) index ls) (printed_from ws numbered (number + 1) (index + 0) ls)
    (ap (λ (i : ℕ). printed_from ws numbered (number + 1) i ls) (let e : index ≡ index + 0 = omega arith in e))
first_prints ws numbered number index (Rejected status) ls = text_first (line_text number (decimal status)) (printed_from ws numbered (number + 1) index ls) (printed_from ws numbered (number + 1) (index + 0) ls)
    (ap (λ (i : ℕ). printed_from ws numbered (number + 1) i ls) (let e : index ≡ index + 0 = omega arith in e))
first_prints ws numbered number index (Accepted callback input) ls = text_first (outs_at ws numbered index) (printed_from ws numbered (number + 1) (index + 1) ls) (printed_from ws numbered (number + 1) (index + 1) ls) refl
first_prints ws numbered number index (Resharded shards) ls = ap (λ (i : ℕ). printed_from ws numbered (number + 1) i ls) (let e : index ≡ index + 0 = omega arith in e)
first_prints ws numbered number index (Announced nonce) ls = ap (λ (i : ℕ). printed_from ws numbered (number + 1) i ls) (let e : index ≡ index + 0 = omega arith in e)
first_prints ws numbered number index Noted ls = ap (λ (i : ℕ). printed_from ws numbered (number + 1) i ls) (let e : index ≡ index + 0 = omega arith in e)

prints_on : (ws : List Whole) (numbered : List Numbered) (number index : ℕ) (ls ms : List Line) →
    printed_from ws numbered number index (ls ++ ms) ≡ printed_from ws numbered number index ls ++ printed_from ws numbered (number + length ls) (index + length (inputs_from number ls)) ms
prints_on ws numbered number index [] ms =
    ap (λ (n : ℕ). printed_from ws numbered n index ms) (let e : number ≡ number + 0 = omega arith in e)
    ∙ ap (λ (i : ℕ). printed_from ws numbered (number + 0) i ms) (let e : index ≡ index + 0 = omega arith in e)
prints_on ws numbered number index (l ∷ ls) ms =
    let i : ℕ = index + length (inputs_from number (l ∷ [])) in
    let first : List ℕ = printed_from ws numbered number index (l ∷ []) in
    let rest : List ℕ = printed_from ws numbered (number + 1) i ls in
    let many : length (inputs_from number (l ∷ ls)) ≡ length (inputs_from number (l ∷ [])) + length (inputs_from (number + 1) ls) =
    ap length (first_input number l ls) ∙ length-append (inputs_from number (l ∷ [])) (inputs_from (number + 1) ls) in
    let last : ℕ = index + length (inputs_from number (l ∷ ls)) in
    first_prints ws numbered number index l (ls ++ ms)
    ∙ ap (λ (t : List ℕ). first ++ t)
    (prints_on ws numbered (number + 1) i ls ms
    ∙ ap (λ (n : ℕ). rest ++ printed_from ws numbered n (i + length (inputs_from (number + 1) ls)) ms) (let e : number + 1 + length ls ≡ number + length (l ∷ ls) = omega arith in e)
    ∙ ap (λ (k : ℕ). rest ++ printed_from ws numbered (number + length (l ∷ ls)) k ms) (let e : i + length (inputs_from (number + 1) ls) ≡ last = omega (arith, many) in e))
    ∙ sym (append_assoc first rest (printed_from ws numbered (number + length (l ∷ ls)) last ms))
    ∙ ap (λ (t : List ℕ). t ++ printed_from ws numbered (number + length (l ∷ ls)) last ms) (sym (first_prints ws numbered number index l ls))

-- ---- What earlier inputs complete

prints_same : (ws us : List Whole) (numbered many : List Numbered) (number index end : ℕ) (ls : List Line) → index + length (inputs_from number ls) ≤ end →
    ((j : ℕ) → j < end → outs_at ws numbered j ≡ outs_at us many j) → printed_from ws numbered number index ls ≡ printed_from us many number index ls
prints_same ws us numbered many number index end [] h e = refl
prints_same ws us numbered many number index end (Bad ∷ ls) h e = ap (λ (t : List ℕ). line_text number (codes "bad") ++ t) (prints_same ws us numbered many (number + 1) index end ls h e)
prints_same ws us numbered many number index end (Rejected status ∷ ls) h e = ap (λ (t : List ℕ). line_text number (decimal status) ++ t) (prints_same ws us numbered many (number + 1) index end ls h e)
prints_same ws us numbered many number index end (Accepted callback input ∷ ls) h e =
    ap (λ (t : List ℕ). t ++ printed_from ws numbered (number + 1) (index + 1) ls) (e index (omega arith))
    ∙ ap (λ (t : List ℕ). outs_at us many index ++ t) (prints_same ws us numbered many (number + 1) (index + 1) end ls (omega arith) e)
prints_same ws us numbered many number index end (Resharded shards ∷ ls) h e = prints_same ws us numbered many (number + 1) index end ls h e
prints_same ws us numbered many number index end (Announced nonce ∷ ls) h e = prints_same ws us numbered many (number + 1) index end ls h e
prints_same ws us numbered many number index end (Noted ∷ ls) h e = prints_same ws us numbered many (number + 1) index end ls h e

InputsBelow : ℕ → List Out → Type 0
InputsBelow n [] = Unit {0}
InputsBelow n (o ∷ os) = (o.input < n) × InputsBelow n os

below_if : (n : ℕ) (b : Bool) (o : Out) (os : List Out) → o.input < n → InputsBelow n os → InputsBelow n (cond b (o ∷ os) os)
unfolding InputsBelow
below_if n b o os h e = grind (arith, common_steps)

whole_below : (config : Config) (r : Registry) (intake : List Intake) (n j i : ℕ) (ds : List Intake) → i + length ds ≤ n → InputsBelow n (whole_at j (wholes_from config r intake i ds))
unfolding InputsBelow
whole_below config r intake n j i [] h = tt
whole_below config r intake n j i (d ∷ ds) h =
    let here : i < n = omega arith in
    subst (InputsBelow n) (sym (whole_push j (whole_of config r intake i d) (wholes_from config r intake (i + 1) ds)))
    (below_if n (is_at j (whole_of config r intake i d).at) (whole_of config r intake i d).out (whole_at j (wholes_from config r intake (i + 1) ds)) here (whole_below config r intake n j (i + 1) ds (omega arith)))

pub get_front : (xs ys : List Numbered) (k : ℕ) → k < length xs → slice_get (xs ++ ys) k ≡ slice_get xs k
get_front xs ys k h = slice_get_less xs ys k h

same_texts : (numbered ones : List Numbered) (os : List Out) → InputsBelow (length numbered) os → outs_text (numbered ++ ones) os ≡ outs_text numbered os
unfolding InputsBelow
same_texts numbered ones [] h = refl
same_texts numbered ones (o ∷ os) h =
    ap (λ (n : Option Numbered). out_by o n ++ outs_text (numbered ++ ones) os) (slice_get_less numbered ones o.input h.0)
    ∙ ap (λ (t : List ℕ). out_by o (slice_get numbered o.input) ++ t) (same_texts numbered ones os h.1)

-- ---- Inputs

whole_stays : (config : Config) (inputs more : List ReadInput) (j : ℕ) → 0 < config.limits.batch → j < length inputs → whole_at j (wholes config (inputs ++ more)) ≡ whole_at j (wholes config inputs)
whole_stays config inputs more j room h =
    let m : Took (taken_in inputs) (taken_in (inputs ++ more)) (length more) =
    subst (λ (v : Taking). Took (taken_in inputs) v (length more)) (sym (fold-append take_in (record { list = []; intake = [] }) inputs more)) (took (taken_in inputs) more) in
    let g : Grows config (taken_in inputs) (taken_in (inputs ++ more)) (length inputs) =
    grows config (taken_in inputs) (taken_in (inputs ++ more)) (length inputs) (length more) room (many_of inputs) (ends_of inputs) m in
    g.same j h

pub outs_last : (config : Config) (inputs : List ReadInput) (input : ReadInput) → 0 < config.limits.batch →
    outs config (inputs ++ input ∷ []) ≡ outs config inputs ++ whole_at (length inputs) (wholes config (inputs ++ input ∷ []))
outs_last config inputs input room =
    let n : ℕ = length inputs in
    let F : ℕ → List Out = λ j. whole_at j (wholes config (inputs ++ input ∷ [])) in
    let G : ℕ → List Out = λ j. whole_at j (wholes config inputs) in
    ap (λ (c : ℕ). flat_map F (numbers_from 0 c)) (length-append inputs (input ∷ []))
    ∙ ap (flat_map F) (numbers_split 0 n 1)
    ∙ flat_map-append F (numbers_from 0 n) (numbers_from (0 + n) 1)
    ∙ ap (λ (os : List Out). os ++ flat_map F (numbers_from (0 + n) 1)) (flat_same n F G 0 n (omega arith) (λ j h. whole_stays config inputs (input ∷ []) j room h))
    ∙ ap (λ (os : List Out). outs config inputs ++ os) (append-nil (F (0 + n)) ∙ ap F (let l : 0 + n ≡ length inputs = omega arith in l))

-- ---- The laws

inputs_of : List Numbered → List ReadInput
inputs_of numbered = map (λ (n : Numbered). n.input) numbered

outs_same : (config : Config) (numbered ones : List Numbered) (inputs more : List ReadInput) (j : ℕ) → 0 < config.limits.batch → length numbered ≡ length inputs → j < length inputs →
    outs_at (wholes config (inputs ++ more)) (numbered ++ ones) j ≡ outs_at (wholes config inputs) numbered j
outs_same config numbered ones inputs more j room many h =
    ap (outs_text (numbered ++ ones)) (whole_stays config inputs more j room h)
    ∙ same_texts numbered ones (whole_at j (wholes config inputs))
    (whole_below config (registry config (taken_in inputs).list) (taken_in inputs).intake (length numbered) j 0 (taken_in inputs).intake (omega (arith, many_of inputs)))

last_prints : (config : Config) (inputs : List ReadInput) (ws : List Whole) (numbered : List Numbered) (number index : ℕ) (l : Line) (more : List Out) →
    0 < config.limits.batch → index ≡ length inputs → AddsOuts config inputs l more →
    ws ≡ wholes config (inputs ++ map (λ (n : Numbered). n.input) (inputs_from number (l ∷ []))) → printed_from ws numbered number index (l ∷ []) ≡ line_prints number numbered l more
last_prints config inputs ws numbered number index Bad more room i a e = append-nil (line_text number (codes "bad"))
last_prints config inputs ws numbered number index (Rejected status) more room i a e = append-nil (line_text number (decimal status))
last_prints config inputs ws numbered number index (Accepted callback input) more room i a e =
    append-nil (outs_at ws numbered index)
    ∙ ap (λ (k : ℕ). outs_text numbered (whole_at k ws)) i
    ∙ ap (λ (us : List Whole). outs_text numbered (whole_at (length inputs) us)) e
    ∙ ap (outs_text numbered) (append_cancel_left (outs config inputs) (whole_at (length inputs) (wholes config (inputs ++ input ∷ []))) more (sym (outs_last config inputs input room) ∙ a))
last_prints config inputs ws numbered number index (Resharded shards) more room i a e = refl
last_prints config inputs ws numbered number index (Announced nonce) more room i a e = refl
last_prints config inputs ws numbered number index Noted more room i a e = refl

pub next_line_appends_its_input : InputsGoOn
next_line_appends_its_input ls l = inputs_on 1 ls (l ∷ []) ∙ ap (λ (n : ℕ). inputs_from 1 ls ++ inputs_from n (l ∷ [])) (let e : 1 + length ls ≡ length ls + 1 = omega arith in e)

pub next_line_appends_its_output : LinesGoOn
next_line_appends_its_output config ls l more room a =
    let numbered : List Numbered = inputs_from 1 ls in
    let inputs : List ReadInput = inputs_in ls in
    let number : ℕ = length ls + 1 in
    let ones : List Numbered = inputs_from number (l ∷ []) in
    let lasts : List ReadInput = map (λ (n : Numbered). n.input) ones in
    let ws : List Whole = wholes config (inputs ++ lasts) in
    let all : List Numbered = numbered ++ ones in
    let many : length numbered ≡ length inputs = sym (length-map numbered (λ (n : Numbered). n.input)) in
    ap (λ (ns : List Numbered). printed_from (wholes config (map (λ (n : Numbered). n.input) ns)) ns 1 0 (ls ++ l ∷ [])) (next_line_appends_its_input ls l)
    ∙ ap (λ (is : List ReadInput). printed_from (wholes config is) all 1 0 (ls ++ l ∷ [])) (map-append (λ (n : Numbered). n.input) numbered ones)
    ∙ prints_on ws all 1 0 ls (l ∷ [])
    ∙ ap (λ (t : List ℕ). t ++ printed_from ws all (1 + length ls) (0 + length numbered) (l ∷ []))
    (prints_same ws (wholes config inputs) all numbered 1 0 (length inputs) ls (omega arith) (λ j h. outs_same config numbered ones inputs lasts j room many h))
    ∙ ap (λ (k : ℕ). printed_so_far config ls ++ printed_from ws all k (0 + length numbered) (l ∷ [])) (let e : 1 + length ls ≡ number = omega arith in e)
    ∙ ap (λ (t : List ℕ). printed_so_far config ls ++ t) (last_prints config inputs ws all number (0 + length numbered) l more room (omega arith) a refl)
    ∙ ap (λ (ns : List Numbered). printed_so_far config ls ++ line_prints number ns l more) (sym (next_line_appends_its_input ls l))

pub replay_prints_held_last : HeldComeLast
replay_prints_held_last config ls = refl
