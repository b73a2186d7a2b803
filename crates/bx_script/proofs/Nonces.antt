-- 32 hexadecimal digits are a text, and their value fits in 128 bits.
use Rattle.std.proofs.Common.{◌≡◌, ℕ, ◌<◌, ◌^◌, true, false, eqb, List, [], ◌∷◌, length, Result, Ok, Err, Some, refl, sym, ap, ◌∙◌, subst, arith, eq-eqb}
use Rattle.std.specs.{List.list_all, Result.OkIff, Result.result_ok, Int.Digits.number_from_digits, Str.IsAscii, Str.IsUtf8, Str.Parse.AllDigits, Str.Parse.IsNumeral, Str.Parse.ParsesUnsigned, Str.Parse.digits_value, Str.Parse.without_leading_plus, Char.digit_value, Char.is_ascii_hexdigit}
use Rattle.std.specs.Prelude.{map}
use Rattle.std.proofs.lemmas.{Str.IsUtf8-from_ascii, Str.Ascii.IsAscii-nil, Str.Ascii.IsAscii-cons, Int.Digits.number_lt, Int.Digits.all_below_base_from_digits, Int.Digits.digits_value_is, List.length-map, Bool.and_parts, Bool.Decides.nat_tests, Grind.common_steps}
use Rattle.bx_script.specs.Words.{nonce_of}

-- ---- Digits

digit_low : (c : ℕ) → is_ascii_hexdigit c ≡ true → digit_value c < 16
digit_low c h = grind (arith, common_steps, nat_tests)

digit_ascii : (c : ℕ) → is_ascii_hexdigit c ≡ true → c < 128
digit_ascii c h = grind (arith, common_steps, nat_tests)

digit_unsigned : (c : ℕ) → is_ascii_hexdigit c ≡ true → eqb c 43 ≡ false
digit_unsigned c h = grind (arith, common_steps, nat_tests)

each_low : (ds : List ℕ) → list_all is_ascii_hexdigit ds ≡ true → AllDigits 16 ds
each_low [] h = tt
each_low (d ∷ ds) h = let parts = and_parts (is_ascii_hexdigit d) (list_all is_ascii_hexdigit ds) h in (digit_low d parts.0, each_low ds parts.1)

each_ascii : (ds : List ℕ) → list_all is_ascii_hexdigit ds ≡ true → IsAscii ds
each_ascii [] h = IsAscii-nil
each_ascii (d ∷ ds) h = let parts = and_parts (is_ascii_hexdigit d) (list_all is_ascii_hexdigit ds) h in IsAscii-cons d ds (digit_ascii d parts.0) (each_ascii ds parts.1)

pub hexadecimal_is_text : (ds : List ℕ) → list_all is_ascii_hexdigit ds ≡ true → IsUtf8 ds
hexadecimal_is_text ds h = IsUtf8-from_ascii ds (each_ascii ds h)

no_sign : (ds : List ℕ) → list_all is_ascii_hexdigit ds ≡ true → without_leading_plus ds ≡ ds
no_sign [] h = refl
no_sign (d ∷ ds) h = rw (digit_unsigned d (and_parts (is_ascii_hexdigit d) (list_all is_ascii_hexdigit ds) h).0) refl

value_fits : (ds : List ℕ) → AllDigits 16 ds → length ds ≡ 32 → digits_value 16 ds < 2 ^ 128
value_fits ds all many =
    let low : number_from_digits 16 (map digit_value ds) < 16 ^ length (map digit_value ds) = number_lt 16 (map digit_value ds) (all_below_base_from_digits 16 ds all) in
    let count : length (map digit_value ds) ≡ 32 = length-map ds digit_value ∙ many in
    let bound : 16 ^ 32 ≡ 2 ^ 128 = refl in
    subst (λ (n : ℕ). n < 2 ^ 128) (sym (digits_value_is 16 ds)) (subst (λ (n : ℕ). number_from_digits 16 (map digit_value ds) < n) (ap (λ (k : ℕ). 16 ^ k) count ∙ bound) low)

-- ---- The value of the digits

nonce_is : (ds : List ℕ) → length ds ≡ 32 → list_all is_ascii_hexdigit ds ≡ true → nonce_of ds ≡ Some (digits_value 16 ds)
nonce_is ds many all = rw (eq-eqb (length ds) 32 many, all) refl

pub nonce_from_parse : {E : Type 0} (ds : List ℕ) (r : Result ℕ E) → ParsesUnsigned 128 16 ds r → length ds ≡ 32 → list_all is_ascii_hexdigit ds ≡ true → result_ok r ≡ nonce_of ds
nonce_from_parse ds r h many all = by r (subst (λ (bs : List ℕ). OkIff r (IsNumeral 16 bs × (digits_value 16 bs < 2 ^ 128)) (digits_value 16 bs)) (no_sign ds all) h) ∙ sym (nonce_is ds many all)
  where
    low : AllDigits 16 ds
    low = each_low ds all

    some : 0 < length ds
    some = omega (arith, many)

    by : {E : Type 0} (r : Result ℕ E) → OkIff r (IsNumeral 16 ds × (digits_value 16 ds < 2 ^ 128)) (digits_value 16 ds) → result_ok r ≡ Some (digits_value 16 ds)
    by (Ok n) h = ap Some h.1
    by (Err e) h = absurd (h ((some, low), value_fits ds low many))
