-- Lemmas about the fields of a message.
use Rattle.std.proofs.Common.{◌≡◌, ℕ, ◌<◌, ◌^◌, ◌&&◌, Bool, true, false, ltb, cond, List, [], ◌∷◌, length, Result, Ok, Err, Some, None, refl, sym, ◌∙◌}
use Rattle.std.specs.{List.list_all, Result.OkIff, Result.result_ok, Str.all_ascii_digits, Str.IsUtf8, Str.Parse.ParsesUnsigned, Str.Parse.digits_value, Char.is_ascii_digit}
use Rattle.std.proofs.lemmas.{Str.IsUtf8-from_ascii, Str.Parse.IsNumeralModel, Str.Parse.parse_digits, Str.Parse.numerals_by_value, Str.Parse.tells_all_ascii_digits, Fmt.IsAscii-from_digits, Bool.lt-ltb, Bool.ltb-true}
use Rattle.bx_message.specs.Fields.{number_of}

each_digit : (bs : List ℕ) → list_all is_ascii_digit bs ≡ all_ascii_digits bs
each_digit [] = refl
each_digit (b ∷ bs) = rw (each_digit bs) refl

numerals : IsNumeralModel (λ bs. all_ascii_digits bs ≡ true) (digits_value 10)
numerals = numerals_by_value _ tells_all_ascii_digits

pub digits_are_text : (bs : List ℕ) → list_all is_ascii_digit bs ≡ true → IsUtf8 bs
digits_are_text bs h = IsUtf8-from_ascii bs (IsAscii-from_digits bs (numerals.to bs (sym (each_digit bs) ∙ h)))

none_by_tests : (a b c : Bool) (n : ℕ) → (a ≡ true → b ≡ true → c ≡ true → ⊥) → None ≡ cond ((a && b) && c) (Some n) None
none_by_tests true true true n h = absurd (h refl refl refl)
none_by_tests true true false n h = refl
none_by_tests true false c n h = refl
none_by_tests false b c n h = refl

pub no_number : (bs : List ℕ) → list_all is_ascii_digit bs ≡ false → None ≡ number_of bs
no_number bs h =
    let other = each_digit bs in
    none_by_tests (ltb 0 (length bs)) (all_ascii_digits bs) (ltb (digits_value 10 bs) (2 ^ 64)) (digits_value 10 bs) (λ some digits low. cc)

number_by_parts : {E : Type 0} (bs : List ℕ) → all_ascii_digits bs ≡ true → (r : Result ℕ E) → OkIff r ((0 < length bs) × (digits_value 10 bs < 2 ^ 64)) (digits_value 10 bs) → result_ok r ≡ number_of bs
number_by_parts bs digits (Ok n) h =
    rw (lt-ltb 0 (length bs) h.0.0, digits, lt-ltb (digits_value 10 bs) (2 ^ 64) h.0.1, h.1) refl
number_by_parts bs digits (Err e) h =
    none_by_tests (ltb 0 (length bs)) (all_ascii_digits bs) (ltb (digits_value 10 bs) (2 ^ 64)) (digits_value 10 bs)
    (λ some all low. h (ltb-true _ _ some, ltb-true _ _ low))

pub number_from_parse : {E : Type 0} (bs : List ℕ) (r : Result ℕ E) → ParsesUnsigned 64 10 bs r → list_all is_ascii_digit bs ≡ true → result_ok r ≡ number_of bs
number_from_parse bs r h all =
    let digits = sym (each_digit bs) ∙ all in
    number_by_parts bs digits r (parse_digits numerals 64 bs r h digits)
