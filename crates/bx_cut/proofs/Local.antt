-- A string or a word is read from its own bytes alone.
use Rattle.std.proofs.Common.{◌≡◌, ℕ, suc, ◌+◌, ◌*◌, Bool, true, false, cond, ◌&&◌, ◌==◌, nat_lt, List, [], ◌∷◌, ◌++◌, take, Option, Some, None, option_and_then, refl, sym, ap, ◌∙◌, subst, arith}
use Rattle.std.proofs.lemmas.{Bool.true≢false, Bool.eqb-true, Grind.common_steps}
use Rattle.std.specs.Char.{digit_value, is_digit, encode_utf8}
use Rattle.json.specs.Text.{code_unit, short_escape, is_high_surrogate, is_low_surrogate, surrogate_pair, Within, plain, after_backslash, after_u, after_high, prepend, content}
use Rattle.json.specs.Lex.{Mode, in_string, in_escape}
use Rattle.json.specs.Align.{span}
use Rattle.bx_cut.proofs.Reach.{span-cons}

abbrev mode : Within → Mode
mode plain = in_string
mode after_backslash = in_escape
mode after_u = in_string
mode (after_high h) = in_string

abbrev pub Local : Within → List ℕ → List ℕ → Type 0
Local w xs s = (b : List ℕ) → (content w (take (span (mode w) xs) xs ++ b) ≡ Some s) × (span (mode w) (take (span (mode w) xs) xs ++ b) ≡ span (mode w) xs)

pub no_some : {P : Type 0} (s : List ℕ) → None ≡ Some s → P
no_some s e = cc

pub from_prepend : (p : List ℕ) (o : Option (List ℕ)) (s : List ℕ) → prepend p o ≡ Some s → (r : List ℕ) × (o ≡ Some r) × (Some (p ++ r) ≡ Some s)
from_prepend p o s h1 = grind (arith, common_steps)

take_one : (n x : ℕ) (xs : List ℕ) → take (1 + n) (x ∷ xs) ≡ x ∷ take n xs
take_one n x xs = let s : 1 + n ≡ suc n = omega arith in ap (λ k. take k (x ∷ xs)) s

hex_span : (a : ℕ) (ys : List ℕ) → is_digit a 16 ≡ true → span in_string (a ∷ ys) ≡ 1 + span in_string ys
hex_span a ys h = grind (arith, common_steps, span-cons, eqb-true, true≢false)

abbrev AreHex : ℕ → ℕ → ℕ → ℕ → Type 0
AreHex a b c d = (is_digit a 16 ≡ true) × (is_digit b 16 ≡ true) × (is_digit c 16 ≡ true) × (is_digit d 16 ≡ true)

hex_four : (a b c d u : ℕ) → code_unit a b c d ≡ Some u → AreHex a b c d
unfolding code_unit
hex_four a b c d u e = by_tests (is_digit a 16) (is_digit b 16) (is_digit c 16) (is_digit d 16) (digit_value a * 4096 + digit_value b * 256 + digit_value c * 16 + digit_value d) e
  where
    by_tests : (p q r s : Bool) (n : ℕ) → cond (p && q && r && s) (Some n) None ≡ Some u → (p ≡ true) × (q ≡ true) × (r ≡ true) × (s ≡ true)
    by_tests true true true true n e = (refl, refl, refl, refl)
    by_tests true true true false n e = cc
    by_tests true true false s n e = cc
    by_tests true false r s n e = cc
    by_tests false q r s n e = cc

four_span : (a b c d : ℕ) (ys : List ℕ) → AreHex a b c d → span in_string (a ∷ b ∷ c ∷ d ∷ ys) ≡ 4 + span in_string ys
four_span a b c d ys h = omega (arith, hex_span a (b ∷ c ∷ d ∷ ys) h.0, hex_span b (c ∷ d ∷ ys) h.1, hex_span c (d ∷ ys) h.2, hex_span d ys h.3)

take_four : (n a b c d : ℕ) (ys : List ℕ) → take (4 + n) (a ∷ b ∷ c ∷ d ∷ ys) ≡ a ∷ b ∷ c ∷ d ∷ take n ys
take_four n a b c d ys = let s : 4 + n ≡ suc (suc (suc (suc n))) = omega arith in ap (λ k. take k (a ∷ b ∷ c ∷ d ∷ ys)) s

four_at : (a b c d : ℕ) (ys z : List ℕ) → AreHex a b c d → take (span in_string (a ∷ b ∷ c ∷ d ∷ ys)) (a ∷ b ∷ c ∷ d ∷ ys) ++ z ≡ a ∷ b ∷ c ∷ d ∷ (take (span in_string ys) ys ++ z)
four_at a b c d ys z hex = ap (λ (k : ℕ). take k (a ∷ b ∷ c ∷ d ∷ ys) ++ z) (four_span a b c d ys hex) ∙ ap (λ (l : List ℕ). l ++ z) (take_four (span in_string ys) a b c d ys)

four_long : (a b c d : ℕ) (ys z : List ℕ) → AreHex a b c d → span in_string (take (span in_string ys) ys ++ z) ≡ span in_string ys → span in_string (a ∷ b ∷ c ∷ d ∷ (take (span in_string ys) ys ++ z)) ≡ span in_string (a ∷ b ∷ c ∷ d ∷ ys)
four_long a b c d ys z hex e = omega (arith, four_span a b c d ys hex, four_span a b c d (take (span in_string ys) ys ++ z) hex, e)

-- ---- one byte more

one_at : (n m x : ℕ) (xs z : List ℕ) → n ≡ 1 + m → take n (x ∷ xs) ++ z ≡ x ∷ (take m xs ++ z)
one_at n m x xs z e = ap (λ (k : ℕ). take k (x ∷ xs) ++ z) e ∙ ap (λ (l : List ℕ). l ++ z) (take_one m x xs)

abbrev plain_of : Bool → Bool → Bool → ℕ → Option (List ℕ) → Option (List ℕ) → Option (List ℕ)
plain_of a b c x escape rest = cond a (Some []) (cond b escape (cond c None (prepend (x ∷ []) rest)))

abbrev Ih : Within → List ℕ → Type 0
Ih w xs = (s : List ℕ) → content w xs ≡ Some s → Local w xs s

module _ (x : ℕ) (a b c : Bool) (p : (x == 34) ≡ a) (q : (x == 92) ≡ b) (r : nat_lt x 32 ≡ c) where
  plain_is : (xs : List ℕ) → content plain (x ∷ xs) ≡ plain_of a b c x (content after_backslash xs) (content plain xs)
  unfolding content
  plain_is xs = λ i. plain_of (p i) (q i) (r i) x (content after_backslash xs) (content plain xs)

  span_is : (xs : List ℕ) → span in_string (x ∷ xs) ≡ cond a 1 (cond b (1 + span in_escape xs) (1 + span in_string xs))
  span_is xs = span-cons x xs ∙ (λ i. cond (p i) 1 (cond (q i) (1 + span in_escape xs) (1 + span in_string xs)))

local_plain : (x : ℕ) (xs s : List ℕ) (a b c : Bool) → (x == 34) ≡ a → (x == 92) ≡ b → nat_lt x 32 ≡ c → content plain (x ∷ xs) ≡ Some s → Ih after_backslash xs → Ih plain xs → Local plain (x ∷ xs) s
local_plain x xs s true b c p q r e f g z =
    let n = span_is x true b c p q r xs in
    let at = one_at (span in_string (x ∷ xs)) 0 x xs z (n ∙ omega arith) in
    (ap (content plain) at ∙ plain_is x true b c p q r z ∙ sym (plain_is x true b c p q r xs) ∙ e, ap (span in_string) at ∙ span_is x true b c p q r z ∙ sym n)
local_plain x xs s false true c p q r e f g z =
    let n = span_is x false true c p q r xs in
    let at = one_at (span in_string (x ∷ xs)) (span in_escape xs) x xs z n in
    let ih = f s (sym (plain_is x false true c p q r xs) ∙ e) z in
    let more = take (span in_escape xs) xs ++ z in
    (ap (content plain) at ∙ plain_is x false true c p q r more ∙ ih.0, ap (span in_string) at ∙ span_is x false true c p q r more ∙ ap (λ k. 1 + k) ih.1 ∙ sym n)
local_plain x xs s false false true p q r e f g z = no_some s (sym (plain_is x false false true p q r xs) ∙ e)
local_plain x xs s false false false p q r e f g z =
    let n = span_is x false false false p q r xs in
    let at = one_at (span in_string (x ∷ xs)) (span in_string xs) x xs z n in
    let parts = from_prepend (x ∷ []) (content plain xs) s (sym (plain_is x false false false p q r xs) ∙ e) in
    let ih = g parts.0 parts.1 z in
    let more = take (span in_string xs) xs ++ z in
    (ap (content plain) at ∙ plain_is x false false false p q r more ∙ ap (prepend (x ∷ [])) ih.0 ∙ parts.2, ap (span in_string) at ∙ span_is x false false false p q r more ∙ ap (λ k. 1 + k) ih.1 ∙ sym n)

abbrev escape_of : Bool → Option ℕ → Option (List ℕ) → Option (List ℕ) → Option (List ℕ)
escape_of u o unit rest = cond u unit (option_and_then (λ c. prepend (c ∷ []) rest) o)

module _ (x : ℕ) (u : Bool) (o : Option ℕ) (p : (x == 117) ≡ u) (q : short_escape x ≡ o) where
  escape_is : (xs : List ℕ) → content after_backslash (x ∷ xs) ≡ escape_of u o (content after_u xs) (content plain xs)
  unfolding content
  escape_is xs = λ i. escape_of (p i) (q i) (content after_u xs) (content plain xs)

escape_span : (x : ℕ) (xs : List ℕ) → span in_escape (x ∷ xs) ≡ 1 + span in_string xs
unfolding span
escape_span x xs = refl

local_escape : (x : ℕ) (xs s : List ℕ) (u : Bool) (o : Option ℕ) → (x == 117) ≡ u → short_escape x ≡ o → content after_backslash (x ∷ xs) ≡ Some s → Ih after_u xs → Ih plain xs → Local after_backslash (x ∷ xs) s
local_escape x xs s true o p q e f g z =
    let at = one_at (span in_escape (x ∷ xs)) (span in_string xs) x xs z (escape_span x xs) in
    let ih = f s (sym (escape_is x true o p q xs) ∙ e) z in
    let more = take (span in_string xs) xs ++ z in
    (ap (content after_backslash) at ∙ escape_is x true o p q more ∙ ih.0, ap (span in_escape) at ∙ escape_span x more ∙ ap (λ k. 1 + k) ih.1 ∙ sym (escape_span x xs))
local_escape x xs s false None p q e f g z = no_some s (sym (escape_is x false None p q xs) ∙ e)
local_escape x xs s false (Some c) p q e f g z =
    let at = one_at (span in_escape (x ∷ xs)) (span in_string xs) x xs z (escape_span x xs) in
    let parts = from_prepend (c ∷ []) (content plain xs) s (sym (escape_is x false (Some c) p q xs) ∙ e) in
    let ih = g parts.0 parts.1 z in
    let more = take (span in_string xs) xs ++ z in
    (ap (content after_backslash) at ∙ escape_is x false (Some c) p q more ∙ ap (prepend (c ∷ [])) ih.0 ∙ parts.2, ap (span in_escape) at ∙ escape_span x more ∙ ap (λ k. 1 + k) ih.1 ∙ sym (escape_span x xs))

abbrev unit_of : ℕ → Bool → Bool → Option (List ℕ) → Option (List ℕ) → Option (List ℕ)
unit_of u high low pair rest = cond high pair (cond low None (prepend (encode_utf8 u) rest))

module _ (a b c d u : ℕ) (high low : Bool) (p : code_unit a b c d ≡ Some u) (q : is_high_surrogate u ≡ high) (r : is_low_surrogate u ≡ low) where
  unit_is : (xs : List ℕ) → content after_u (a ∷ b ∷ c ∷ d ∷ xs) ≡ unit_of u high low (content (after_high u) xs) (content plain xs)
  unfolding content
  unit_is xs = grind (arith, common_steps)

no_unit : (a b c d : ℕ) (xs : List ℕ) → code_unit a b c d ≡ None → content after_u (a ∷ b ∷ c ∷ d ∷ xs) ≡ None
unfolding content
no_unit a b c d xs p = ap (option_and_then (λ v. cond (is_high_surrogate v) (content (after_high v) xs) (cond (is_low_surrogate v) None (prepend (encode_utf8 v) (content plain xs))))) p

local_some : (a b c d u : ℕ) (xs s : List ℕ) (high low : Bool) → code_unit a b c d ≡ Some u → is_high_surrogate u ≡ high → is_low_surrogate u ≡ low → content after_u (a ∷ b ∷ c ∷ d ∷ xs) ≡ Some s → Ih (after_high u) xs → Ih plain xs → Local after_u (a ∷ b ∷ c ∷ d ∷ xs) s
local_some a b c d u xs s true low p q r e f g z =
    let hex = hex_four a b c d u p in
    let at = four_at a b c d xs z hex in
    let ih = f s (sym (unit_is a b c d u true low p q r xs) ∙ e) z in
    let more = take (span in_string xs) xs ++ z in
    (ap (content after_u) at ∙ unit_is a b c d u true low p q r more ∙ ih.0, ap (span in_string) at ∙ four_long a b c d xs z hex ih.1)
local_some a b c d u xs s false true p q r e f g z = no_some s (sym (unit_is a b c d u false true p q r xs) ∙ e)
local_some a b c d u xs s false false p q r e f g z =
    let hex = hex_four a b c d u p in
    let at = four_at a b c d xs z hex in
    let parts = from_prepend (encode_utf8 u) (content plain xs) s (sym (unit_is a b c d u false false p q r xs) ∙ e) in
    let ih = g parts.0 parts.1 z in
    let more = take (span in_string xs) xs ++ z in
    (ap (content after_u) at ∙ unit_is a b c d u false false p q r more ∙ ap (prepend (encode_utf8 u)) ih.0 ∙ parts.2, ap (span in_string) at ∙ four_long a b c d xs z hex ih.1)

local_unit : (a b c d : ℕ) (xs s : List ℕ) (o : Option ℕ) → code_unit a b c d ≡ o → content after_u (a ∷ b ∷ c ∷ d ∷ xs) ≡ Some s → ((u : ℕ) → Ih (after_high u) xs) → Ih plain xs → Local after_u (a ∷ b ∷ c ∷ d ∷ xs) s
local_unit a b c d xs s None p e f g = no_some s (sym (no_unit a b c d xs p) ∙ e)
local_unit a b c d xs s (Some u) p e f g = local_some a b c d u xs s (is_high_surrogate u) (is_low_surrogate u) p refl refl e (f u) g

-- ---- the second half of a surrogate pair

abbrev half_of : ℕ → ℕ → Bool → Option (List ℕ) → Option (List ℕ)
half_of h l low rest = cond low (prepend (encode_utf8 (surrogate_pair h l)) rest) None

module _ (h a b c d l : ℕ) (low : Bool) (p : code_unit a b c d ≡ Some l) (q : is_low_surrogate l ≡ low) where
  half_is : (xs : List ℕ) → content (after_high h) (92 ∷ 117 ∷ a ∷ b ∷ c ∷ d ∷ xs) ≡ half_of h l low (content plain xs)
  unfolding content
  half_is xs = ap (option_and_then (λ v. cond (is_low_surrogate v) (prepend (encode_utf8 (surrogate_pair h v)) (content plain xs)) None)) p ∙ (λ i. half_of h l (q i) (content plain xs))

no_half : (h a b c d : ℕ) (xs : List ℕ) → code_unit a b c d ≡ None → content (after_high h) (92 ∷ 117 ∷ a ∷ b ∷ c ∷ d ∷ xs) ≡ None
unfolding content
no_half h a b c d xs p = ap (option_and_then (λ v. cond (is_low_surrogate v) (prepend (encode_utf8 (surrogate_pair h v)) (content plain xs)) None)) p

pair_span : (ys : List ℕ) → span in_string (92 ∷ 117 ∷ ys) ≡ 2 + span in_string ys
unfolding span
pair_span ys = omega arith

local_half : (h a b c d l : ℕ) (xs s : List ℕ) (low : Bool) → code_unit a b c d ≡ Some l → is_low_surrogate l ≡ low → content (after_high h) (92 ∷ 117 ∷ a ∷ b ∷ c ∷ d ∷ xs) ≡ Some s → Ih plain xs → Local (after_high h) (92 ∷ 117 ∷ a ∷ b ∷ c ∷ d ∷ xs) s
local_half h a b c d l xs s false p q e g z = no_some s (sym (half_is h a b c d l false p q xs) ∙ e)
local_half h a b c d l xs s true p q e g z =
    let hex = hex_four a b c d l p in
    let ys = a ∷ b ∷ c ∷ d ∷ xs in
    let n = span in_string ys in
    let two : span in_string (92 ∷ 117 ∷ ys) ≡ suc (suc n) = pair_span ys ∙ omega arith in
    let at : take (span in_string (92 ∷ 117 ∷ ys)) (92 ∷ 117 ∷ ys) ++ z ≡ 92 ∷ 117 ∷ a ∷ b ∷ c ∷ d ∷ (take (span in_string xs) xs ++ z) =
    ap (λ (k : ℕ). take k (92 ∷ 117 ∷ ys) ++ z) two ∙ ap (λ (y : List ℕ). 92 ∷ 117 ∷ y) (four_at a b c d xs z hex) in
    let parts = from_prepend (encode_utf8 (surrogate_pair h l)) (content plain xs) s (sym (half_is h a b c d l true p q xs) ∙ e) in
    let ih = g parts.0 parts.1 z in
    let more = take (span in_string xs) xs ++ z in (
      ap (content (after_high h)) at ∙ half_is h a b c d l true p q more ∙ ap (prepend (encode_utf8 (surrogate_pair h l))) ih.0 ∙ parts.2,
      ap (span in_string) at ∙ pair_span (a ∷ b ∷ c ∷ d ∷ more) ∙ ap (λ k. 2 + k) (four_long a b c d xs z hex ih.1) ∙ sym (pair_span ys),
    )

local_low : (h a b c d : ℕ) (xs s : List ℕ) (o : Option ℕ) → code_unit a b c d ≡ o → content (after_high h) (92 ∷ 117 ∷ a ∷ b ∷ c ∷ d ∷ xs) ≡ Some s → Ih plain xs → Local (after_high h) (92 ∷ 117 ∷ a ∷ b ∷ c ∷ d ∷ xs) s
local_low h a b c d xs s None p e g = no_some s (sym (no_half h a b c d xs p) ∙ e)
local_low h a b c d xs s (Some l) p e g = local_half h a b c d l xs s (is_low_surrogate l) p refl e g

local_pair : (h x u a b c d : ℕ) (xs s : List ℕ) (v w : Bool) → (x == 92) ≡ v → (u == 117) ≡ w → content (after_high h) (x ∷ u ∷ a ∷ b ∷ c ∷ d ∷ xs) ≡ Some s → Ih plain xs → Local (after_high h) (x ∷ u ∷ a ∷ b ∷ c ∷ d ∷ xs) s
unfolding content
local_pair h x u a b c d xs s true true p q e g =
    let ys = a ∷ b ∷ c ∷ d ∷ xs in
    let same : 92 ∷ 117 ∷ ys ≡ x ∷ u ∷ ys = sym (ap (λ (k : ℕ). k ∷ u ∷ ys) (eqb-true x 92 p) ∙ ap (λ (k : ℕ). 92 ∷ k ∷ ys) (eqb-true u 117 q)) in
    subst (λ (y : List ℕ). Local (after_high h) y s) same (local_low h a b c d xs s (code_unit a b c d) refl (ap (content (after_high h)) same ∙ e) g)
local_pair h x u a b c d xs s true false p q e g = no_some s (sym (λ i. cond (p i && q i) (option_and_then (λ l. cond (is_low_surrogate l) (prepend (encode_utf8 (surrogate_pair h l)) (content plain xs)) None) (code_unit a b c d)) None) ∙ e)
local_pair h x u a b c d xs s false w p q e g = no_some s (sym (λ i. cond (p i && q i) (option_and_then (λ l. cond (is_low_surrogate l) (prepend (encode_utf8 (surrogate_pair h l)) (content plain xs)) None) (code_unit a b c d)) None) ∙ e)

pub local : (w : Within) (xs s : List ℕ) → content w xs ≡ Some s → Local w xs s
unfolding content
local plain [] s e = no_some s e
local plain (x ∷ xs) s e = local_plain x xs s (x == 34) (x == 92) (nat_lt x 32) refl refl refl e (λ r f. local after_backslash xs r f) (λ r f. local plain xs r f)
local after_backslash [] s e = no_some s e
local after_backslash (x ∷ xs) s e = local_escape x xs s (x == 117) (short_escape x) refl refl e (λ r f. local after_u xs r f) (λ r f. local plain xs r f)
local after_u [] s e = no_some s e
local after_u (a ∷ []) s e = no_some s e
local after_u (a ∷ b ∷ []) s e = no_some s e
local after_u (a ∷ b ∷ c ∷ []) s e = no_some s e
local after_u (a ∷ b ∷ c ∷ d ∷ xs) s e = local_unit a b c d xs s (code_unit a b c d) refl e (λ h r f. local (after_high h) xs r f) (λ r f. local plain xs r f)
local (after_high h) [] s e = no_some s e
local (after_high h) (x ∷ []) s e = no_some s e
local (after_high h) (x ∷ u ∷ []) s e = no_some s e
local (after_high h) (x ∷ u ∷ a ∷ []) s e = no_some s e
local (after_high h) (x ∷ u ∷ a ∷ b ∷ []) s e = no_some s e
local (after_high h) (x ∷ u ∷ a ∷ b ∷ c ∷ []) s e = no_some s e
local (after_high h) (x ∷ u ∷ a ∷ b ∷ c ∷ d ∷ xs) s e = local_pair h x u a b c d xs s (x == 92) (u == 117) refl refl e (λ r f. local plain xs r f)
