-- Proves that digits of moments and nonces are read back, and contain no space or newline.
use Rattle.std.proofs.Common.{◌≡◌, ℕ, zero, suc, ◌+◌, ◌-◌, ◌*◌, ◌/◌, ◌%◌, ◌^◌, ◌<◌, true, false, eqb, ltb, List, [], ◌∷◌, ◌++◌, length, decimal, Some, refl, sym, ap, ◌∙◌, arith, eq-eqb, append_assoc, length-append}
use Rattle.std.proofs.lemmas.{Bool.ne_eqb, Bool.lt-ltb, Bool.cond_both, Bool.Decides.nat_tests, Grind.common_steps, Nat.div-add-mod', List.Folds.list_all-append, Int.Digits.digits_value_push, Str.digit_value-digit_char, Fmt.decimal_nonempty, Fmt.decimal_by_steps, Fmt.digits_decimal, Fmt.digits_value-decimal, Str.Parse.IsNumeralModel, Str.Parse.numerals_by_value, Str.Parse.tells_all_ascii_digits}
use Rattle.std.proofs.Math.Nat.{pow-suc, div-lt_iff_lt-mul, mod-lt}
use Rattle.std.specs.{List.list_all, Char.digit_char, Char.digit_value, Char.is_ascii_hexdigit, Str.all_ascii_digits, Str.Parse.digits_value}
use Rattle.bx_message.specs.Fields.{number_of}
use Rattle.bx_entry.specs.Registry.{hex_digits}
use Rattle.bx_script.specs.Words.{nonce_of}
use Rattle.bx_script.proofs.Cuts.{Lacks}
use Rattle.bx_record.specs.Record.{nonce_digits}

pub lacks-append : (c : ℕ) (xs ys : List ℕ) → Lacks c xs → Lacks c ys → Lacks c (xs ++ ys)
lacks-append c [] ys h k = k
lacks-append c (x ∷ xs) ys h k = (h.0, lacks-append c xs ys h.1 k)

-- ---- Moments

own : IsNumeralModel (λ ds. all_ascii_digits ds ≡ true) (digits_value 10)
own = numerals_by_value _ tells_all_ascii_digits

pub moment_reads : (m : ℕ) → m < 2 ^ 64 → number_of (decimal m) ≡ Some m
moment_reads m fits =
    let some : 0 < length (decimal m) = decimal_nonempty m fits in
    let digits : all_ascii_digits (decimal m) ≡ true = digits_decimal own m fits in
    let value : digits_value 10 (decimal m) ≡ m = digits_value-decimal own m fits in
    rw (lt-ltb 0 (length (decimal m)) some, digits, value, lt-ltb m (2 ^ 64) fits) refl

lacks_by : (c m : ℕ) → ((k : ℕ) → k < 10 → eqb (48 + k) c ≡ false) → m < 2 ^ 64 → Lacks c (decimal m)
lacks_by c m apart fits =
    decimal_by_steps (λ n ds. Lacks c ds) (λ n small. (apart n small, tt)) (λ n ds large h. lacks-append c ds ((48 + n % 10) ∷ []) h (apart (n % 10) (mod-lt n (omega arith)), tt)) m fits

pub moment_lacks : (c m : ℕ) → c < 48 → m < 2 ^ 64 → Lacks c (decimal m)
moment_lacks c m low fits = lacks_by c m (λ k small. ne_eqb (48 + k) c (λ e. omega arith)) fits

pub moment_lacks_letter : (c m : ℕ) → 57 < c → m < 2 ^ 64 → Lacks c (decimal m)
moment_lacks_letter c m high fits = lacks_by c m (λ k small. ne_eqb (48 + k) c (λ e. omega arith)) fits

pub moment_nonempty : (m : ℕ) → m < 2 ^ 64 → 0 < length (decimal m)
moment_nonempty m fits = decimal_nonempty m fits

-- ---- Nonces

digit_is_no_end : (d : ℕ) → eqb (digit_char d) 10 ≡ false
digit_is_no_end d =
    cond_both (ltb d 10) (48 + d) (87 + d) (λ c. eqb c 10 ≡ false) (λ _. ne_eqb (48 + d) 10 (λ e. omega arith)) (λ _. ne_eqb (87 + d) 10 (λ e. omega arith))

hex_digits_more : (width n : ℕ) → 0 < width → hex_digits width n ≡ hex_digits (width - 1) (n / 16) ++ digit_char (n % 16) ∷ []
hex_digits_more zero n some = absurd (omega arith)
hex_digits_more (suc width) n some = let less : width ≡ suc width - 1 = omega arith in ap (λ (w : ℕ). hex_digits w (n / 16) ++ digit_char (n % 16) ∷ []) less

pub digits_pushed : (old mid new : List ℕ) (width n digit : ℕ) → (width ≡ 0 → ⊥) → mid ≡ old ++ hex_digits (width - 1) (n / 16) → digit ≡ digit_char (n % 16) → new ≡ mid ++ digit ∷ [] → new ≡ old ++ hex_digits width n
digits_pushed old mid new width n digit some front last whole =
    let more : 0 < width = omega arith in
    let before = hex_digits (width - 1) (n / 16) in
    whole ∙ ap (λ l. l ++ digit ∷ []) front ∙ append_assoc old before (digit ∷ []) ∙ ap (λ d. old ++ (before ++ d ∷ [])) last ∙ ap (λ l. old ++ l) (sym (hex_digits_more width n more))

digits_lack : (width n : ℕ) → Lacks 10 (hex_digits width n)
digits_lack zero n = tt
digits_lack (suc width) n = lacks-append 10 (hex_digits width (n / 16)) (digit_char (n % 16) ∷ []) (digits_lack width (n / 16)) (digit_is_no_end (n % 16), tt)

length-hex_digits : (width n : ℕ) → length (hex_digits width n) ≡ width
length-hex_digits zero n = refl
length-hex_digits (suc width) n = omega (arith, length-append (hex_digits width (n / 16)) (digit_char (n % 16) ∷ []), length-hex_digits width (n / 16))

is_digit : (d : ℕ) → d < 16 → is_ascii_hexdigit (digit_char d) ≡ true
is_digit d low = grind (arith, common_steps, nat_tests)

all_digits : (width n : ℕ) → list_all is_ascii_hexdigit (hex_digits width n) ≡ true
all_digits zero n = refl
all_digits (suc width) n =
    let last : is_ascii_hexdigit (digit_char (n % 16)) ≡ true = is_digit (n % 16) (mod-lt n (omega arith)) in
    list_all-append is_ascii_hexdigit (hex_digits width (n / 16)) (digit_char (n % 16) ∷ []) ∙ rw (all_digits width (n / 16), last) refl

digits_value-hex_digits : (width n : ℕ) → n < 16 ^ width → digits_value 16 (hex_digits width n) ≡ n
digits_value-hex_digits zero n fits = let least : n < 1 = fits in omega arith
digits_value-hex_digits (suc width) n fits =
    let room : n < 16 ^ width * 16 = rw (← pow-suc 16 width) fits in
    let high : n / 16 < 16 ^ width = (div-lt_iff_lt-mul {k = 16} {x = n} {y = 16 ^ width} (omega arith)).1 room in
    let low : n % 16 < 16 = mod-lt n (omega arith) in
    let ih : digits_value 16 (hex_digits width (n / 16)) ≡ n / 16 = digits_value-hex_digits width (n / 16) high in
    let last : digit_value (digit_char (n % 16)) ≡ n % 16 = digit_value-digit_char (n % 16) (omega arith) in
    let whole : n / 16 * 16 + n % 16 ≡ n = div-add-mod' n 16 in
    digits_value_push 16 (hex_digits width (n / 16)) (digit_char (n % 16)) ∙ ap (λ (m : ℕ). m * 16 + digit_value (digit_char (n % 16))) ih ∙ ap (λ (m : ℕ). n / 16 * 16 + m) last ∙ whole

pub nonce_lacks : (n : ℕ) → Lacks 10 (nonce_digits n)
unfolding nonce_digits
nonce_lacks n = digits_lack 32 n

reads : (ds : List ℕ) (n : ℕ) → length ds ≡ 32 → list_all is_ascii_hexdigit ds ≡ true → digits_value 16 ds ≡ n → nonce_of ds ≡ Some n
reads ds n many all value = rw (eq-eqb (length ds) 32 many, all, value) refl

pub nonce_reads : (n : ℕ) → n < 2 ^ 128 → nonce_of (nonce_digits n) ≡ Some n
unfolding nonce_digits
nonce_reads n fits = reads (hex_digits 32 n) n (length-hex_digits 32 n) (all_digits 32 n) (digits_value-hex_digits 32 n fits)
