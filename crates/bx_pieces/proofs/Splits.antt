-- Parts of a response's text, and their lengths in bytes.
use Rattle.std.proofs.Common.{◌≡◌, ℕ, ◌+◌, ◌<◌, Bool, true, false, cond, ◌&&◌, ◌==◌, nat_eq, List, [], ◌∷◌, ◌++◌, length, map, take, drop, get_or, codes, Option, Some, None, refl, sym, ap, ap₂, ◌∙◌, arith}
use Rattle.std.proofs.lemmas.List.{append_assoc, length-append, take_all, take_more, take-append-drop}
use Rattle.std.proofs.lemmas.Bool.{eqb-true}
use Rattle.std.specs.List.{join_with_byte, starts_with}
use Rattle.bx_message.specs.Events.{array}
use Rattle.bx_message.specs.Texts.{body_text, line_separator, paragraph_separator, guarded, script_safe}
use Rattle.bx_message.specs.declared.reply.Item.{Item}
use Rattle.bx_pieces.specs.Elements.{element_text}
use Rattle.bx_pieces.specs.Tails.{answer_text, whole_text, beginning_text, led_text, tail_text, sent_as, end_text, rest_text, left_text, part_text, is_call}
use Rattle.bx_pieces.specs.declared.element.Element.{Element}

-- ---- a byte that occurs in no separator

and_false : (b : Bool) → (b && false) ≡ false
and_false true = refl
and_false false = refl

cond-append : (b : Bool) (x y z : List ℕ) → cond b x y ++ z ≡ cond b (x ++ z) (y ++ z)
cond-append true x y z = refl
cond-append false x y z = refl

-- The byte `c` occurs in neither U+2028 nor U+2029 in UTF-8.
pub record IsApart (c : ℕ) : Type 0 where
  pub lead : (226 == c) ≡ false
  pub middle : (128 == c) ≡ false
  pub line : (168 == c) ≡ false
  pub paragraph : (169 == c) ≡ false

pub comma_apart : IsApart 44
comma_apart = record { lead = refl; middle = refl; line = refl; paragraph = refl }

pub bracket_apart : IsApart 93
bracket_apart = record { lead = refl; middle = refl; line = refl; paragraph = refl }

guarded_by : (xs : List ℕ) (a b : Bool) → starts_with nat_eq xs line_separator ≡ a → starts_with nat_eq xs paragraph_separator ≡ b → guarded xs ≡ cond a (codes "\\u2028" ++ drop 3 xs) (cond b (codes "\\u2029" ++ drop 3 xs) xs)
guarded_by xs a b e f = ap₂ (λ p q. cond p (codes "\\u2028" ++ drop 3 xs) (cond q (codes "\\u2029" ++ drop 3 xs) xs)) e f

module _ (c : ℕ) (apart : IsApart c) (r : List ℕ) where
  guarded-apart : guarded (c ∷ r) ≡ c ∷ r
  guarded-apart = guarded_by (c ∷ r) false false (ap (λ t. t && starts_with nat_eq r (128 ∷ 168 ∷ [])) apart.lead) (ap (λ t. t && starts_with nat_eq r (128 ∷ 169 ∷ [])) apart.lead)

  none_at : (x d : ℕ) (s : List ℕ) → (128 == c) ≡ false → starts_with nat_eq (x ∷ c ∷ s) (226 ∷ 128 ∷ d ∷ []) ≡ false
  none_at x d s e = ap (λ t. (226 == x) && (t && starts_with nat_eq s (d ∷ []))) e ∙ and_false (226 == x)

  none_behind : (x y d : ℕ) (s : List ℕ) → (d == c) ≡ false → starts_with nat_eq (x ∷ y ∷ c ∷ s) (226 ∷ 128 ∷ d ∷ []) ≡ false
  none_behind x y d s e = ap (λ t. (226 == x) && ((128 == y) && (t && true))) e ∙ ap (λ t. (226 == x) && t) (and_false (128 == y)) ∙ and_false (226 == x)

  short : (x y : ℕ) → (d : ℕ) → starts_with nat_eq (x ∷ y ∷ []) (226 ∷ 128 ∷ d ∷ []) ≡ false
  short x y d = ap (λ t. (226 == x) && t) (and_false (128 == y)) ∙ and_false (226 == x)

  guarded-before : (x : ℕ) (s : List ℕ) → guarded (x ∷ (s ++ c ∷ r)) ≡ guarded (x ∷ s) ++ (c ∷ r)
  guarded-before x [] =
      guarded_by (x ∷ c ∷ r) false false (none_at x 168 r apart.middle) (none_at x 169 r apart.middle)
      ∙ sym (ap (λ t. t ++ (c ∷ r)) (guarded_by (x ∷ []) false false (and_false (226 == x)) (and_false (226 == x))))
  guarded-before x (y ∷ []) =
      guarded_by (x ∷ y ∷ c ∷ r) false false (none_behind x y 168 r apart.line) (none_behind x y 169 r apart.paragraph)
      ∙ sym (ap (λ t. t ++ (c ∷ r)) (guarded_by (x ∷ y ∷ []) false false (short x y 168) (short x y 169)))
  guarded-before x (y ∷ z ∷ zs) =
      sym (cond-append (starts_with nat_eq (x ∷ y ∷ z ∷ zs) line_separator) (codes "\\u2028" ++ zs) (cond (starts_with nat_eq (x ∷ y ∷ z ∷ zs) paragraph_separator) (codes "\\u2029" ++ zs) (x ∷ y ∷ z ∷ zs)) (c ∷ r)
      ∙ ap (λ t. cond (starts_with nat_eq (x ∷ y ∷ z ∷ zs) line_separator) (codes "\\u2028" ++ (zs ++ c ∷ r)) t) (cond-append (starts_with nat_eq (x ∷ y ∷ z ∷ zs) paragraph_separator) (codes "\\u2029" ++ zs) (x ∷ y ∷ z ∷ zs) (c ∷ r)))

pub safe-cut : (c : ℕ) → IsApart c → (a b : List ℕ) → script_safe (a ++ c ∷ b) ≡ script_safe a ++ (c ∷ script_safe b)
safe-cut c apart [] b = guarded-apart c apart (script_safe b)
safe-cut c apart (x ∷ xs) b = ap (λ t. guarded (x ∷ t)) (safe-cut c apart xs b) ∙ guarded-before c apart (script_safe b) x (script_safe xs)

pub sent-cut : (s : Bool) (c : ℕ) → IsApart c → (a b : List ℕ) → sent_as s (a ++ c ∷ b) ≡ sent_as s a ++ (c ∷ sent_as s b)
sent-cut false c apart a b = refl
sent-cut true c apart a b = safe-cut c apart a b

sent-none : (s : Bool) → sent_as s [] ≡ []
sent-none true = refl
sent-none false = refl

sent-split : (s : Bool) (c : ℕ) → IsApart c → (a b : List ℕ) → sent_as s (a ++ c ∷ b) ≡ sent_as s a ++ sent_as s (c ∷ b)
sent-split s c apart a b =
    sent-cut s c apart a b ∙ ap (λ t. sent_as s a ++ t) (sym (sent-cut s c apart [] b ∙ ap (λ t. t ++ (c ∷ sent_as s b)) (sent-none s)))

-- ---- appended elements

led-append : (xs ys : List Element) → led_text (xs ++ ys) ≡ led_text xs ++ led_text ys
led-append [] ys = refl
led-append (x ∷ xs) ys = ap (λ t. 44 ∷ (element_text x ++ t)) (led-append xs ys) ∙ ap (λ t. 44 ∷ t) (sym (append_assoc (element_text x) (led_text xs) (led_text ys)))

nil-right : (xs : List ℕ) → xs ++ [] ≡ xs
nil-right [] = refl
nil-right (x ∷ xs) = ap (λ t. x ∷ t) (nil-right xs)

pub led-more : (i : ℕ) (xs : List Element) (x : Element) → i < length xs → x ≡ get_or xs i x → led_text (take (i + 1) xs) ≡ led_text (take i xs) ++ (44 ∷ element_text x)
led-more i xs x h e =
    ap led_text (take_more xs i x h ∙ ap (λ y. take i xs ++ y ∷ []) (sym e))
    ∙ led-append (take i xs) (x ∷ [])
    ∙ ap (λ t. led_text (take i xs) ++ (44 ∷ t)) (nil-right (element_text x))

pub led-size : (s : Bool) (i : ℕ) (xs : List Element) (x : Element) → i < length xs → x ≡ get_or xs i x
    → length (sent_as s (led_text (take (i + 1) xs))) ≡ length (sent_as s (led_text (take i xs))) + (1 + length (sent_as s (element_text x)))
led-size s i xs x h e =
    ap (λ t. length (sent_as s t)) (led-more i xs x h e)
    ∙ ap length (sent-cut s 44 comma_apart (led_text (take i xs)) (element_text x))
    ∙ length-append (sent_as s (led_text (take i xs))) (44 ∷ sent_as s (element_text x))
    ∙ ap (λ n. length (sent_as s (led_text (take i xs))) + n) (omega arith)

pub rest-size : (s : Bool) (xs : List Element) → length (rest_text s xs) ≡ length (sent_as s (led_text xs)) + (1 + length (end_text s))
rest-size s xs =
    let cut : sent_as s (tail_text xs) ≡ sent_as s (led_text xs) ++ (93 ∷ sent_as s []) = sent-cut s 93 bracket_apart (led_text xs) [] in
    let all = length-append (sent_as s (tail_text xs)) (end_text s) in
    let front = ap length cut ∙ length-append (sent_as s (led_text xs)) (93 ∷ sent_as s []) in
    let none : length (sent_as s []) ≡ 0 = ap length (sent-none s) in
    omega (arith, all, front, none)

sent-tail : (s : Bool) (a : List ℕ) (xs : List Element) → sent_as s (a ++ tail_text xs) ≡ sent_as s a ++ sent_as s (tail_text xs)
sent-tail s a [] = sent-split s 93 bracket_apart a []
sent-tail s a (x ∷ xs) = sent-split s 44 comma_apart a ((element_text x ++ led_text xs) ++ 93 ∷ [])

pub rest-cut : (s : Bool) (n : ℕ) (xs : List Element) → rest_text s xs ≡ sent_as s (led_text (take n xs)) ++ rest_text s (drop n xs)
rest-cut s n xs =
    let parts : led_text xs ≡ led_text (take n xs) ++ led_text (drop n xs) = ap led_text (sym (take-append-drop n xs)) ∙ led-append (take n xs) (drop n xs) in
    let tails : tail_text xs ≡ led_text (take n xs) ++ tail_text (drop n xs) = ap (λ t. t ++ 93 ∷ []) parts ∙ append_assoc (led_text (take n xs)) (led_text (drop n xs)) (93 ∷ []) in
    ap (λ t. t ++ end_text s) (ap (sent_as s) tails ∙ sent-tail s (led_text (take n xs)) (drop n xs))
    ∙ append_assoc (sent_as s (led_text (take n xs))) (sent_as s (tail_text (drop n xs))) (end_text s)

part-by : (b s : Bool) (n : ℕ) (xs : List Element) → (n == length xs) ≡ b → rest_text s xs ≡ part_text b s (take n xs) ++ left_text b s (drop n xs)
part-by true s n xs e = ap (rest_text s) (sym (take_all n xs (omega (arith, eqb-true n (length xs) e)))) ∙ sym (nil-right (rest_text s (take n xs)))
part-by false s n xs e = rest-cut s n xs

pub part-cut : (s : Bool) (n : ℕ) (xs : List Element) → rest_text s xs ≡ part_text (n == length xs) s (take n xs) ++ left_text (n == length xs) s (drop n xs)
part-cut s n xs = part-by (n == length xs) s n xs refl

-- ---- the whole response

joined : (y : List ℕ) (xs : List Element) → join_with_byte 44 (y ∷ map element_text xs) ≡ y ++ led_text xs
joined y [] = sym (nil-right y)
joined y (x ∷ xs) = ap (λ t. y ++ (44 ∷ t)) (joined (element_text x) xs)

array-cut : (x : Element) (xs : List Element) → array (map element_text (x ∷ xs)) ≡ (91 ∷ element_text x) ++ tail_text xs
array-cut x xs = ap (λ t. 91 ∷ t) (ap (λ t. t ++ 93 ∷ []) (joined (element_text x) xs) ∙ append_assoc (element_text x) (led_text xs) (93 ∷ []))

whole-cut : (callback : Option (List ℕ)) (x : Element) (xs : List Element) → whole_text callback (x ∷ xs) ≡ beginning_text callback x ++ rest_text (is_call callback) xs
whole-cut None x xs = array-cut x xs ∙ ap (λ t. (91 ∷ element_text x) ++ t) (sym (nil-right (tail_text xs)))
whole-cut (Some callback) x xs =
    let a = script_safe (91 ∷ element_text x) in
    let b = script_safe (tail_text xs) in
    let safe : script_safe (array (map element_text (x ∷ xs))) ≡ a ++ b = ap script_safe (array-cut x xs) ∙ sent-tail true (91 ∷ element_text x) xs in
    ap (λ t. callback ++ (40 ∷ (t ++ 41 ∷ []))) safe
    ∙ ap (λ t. callback ++ (40 ∷ t)) (append_assoc a b (41 ∷ []))
    ∙ sym (append_assoc callback (40 ∷ a) (b ++ 41 ∷ []))

pub whole-first : (callback : Option (List ℕ)) (elements : List Element) (x : Element) → 0 < length elements → x ≡ get_or elements 0 x → beginning_text callback x ++ rest_text (is_call callback) (drop 1 elements) ≡ whole_text callback elements
whole-first callback [] x h e = absurd (omega arith)
whole-first callback (y ∷ ys) x h e = ap (λ z. beginning_text callback z ++ rest_text (is_call callback) ys) e ∙ sym (whole-cut callback y ys)

-- ---- no piece is empty

pub some_text : (callback : Option (List ℕ)) (items : List Item) → 0 < length (answer_text callback items)
some_text None items = omega arith
some_text (Some callback) items = omega (arith, length-append callback (40 ∷ (script_safe (body_text items) ++ 41 ∷ [])))
