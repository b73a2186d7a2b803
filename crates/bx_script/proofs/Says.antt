-- What is kept of a line means the same as the line.
use Rattle.std.proofs.Common.{◌≡◌, ℕ, zero, suc, ◌+◌, ◌-◌, ◌*◌, ◌^◌, ◌<◌, ◌≤◌, ◌&&◌, ◌⊎◌, inl, inr, Bool, true, false, eqb, ltb, cond, List, [], ◌∷◌, ◌++◌, length, take, refl, sym, ap, subst, ◌∙◌, arith, Option, Some, None, take_all, eqb-true, fold, lit≤, le_trans, length-take-le}
use Rattle.std.proofs.lemmas.{Grind.common_steps, List.take-append-le, Bool.lt-ltb, Bool.ltb-true, Bool.ltb-false, Bool.le-ltb, Bool.Decides.nat_tests}
use Rattle.std.specs.{Prelude.codes, Prelude.nat_eq, List.starts_with, Str.Parse.digits_value, Str.Parse.digits_value_after, Char.digit_value, List.before_first, List.after_first}
use Rattle.bx_advice.specs.declared.limit.TheConstants.{BODY_LIMIT}
use Rattle.bx_message.specs.Fields.{number_of, is_digits}
use Rattle.bx_script.specs.Words.{is_space, Bad, Dialect, Recorded, Script, command, line_by, line_of, noted_by, timed_line, without_zeros, kept_with, keep_byte}
use Rattle.bx_script.specs.declared.kept.TheConstants.{KEPT_LIMIT}
use Rattle.bx_script.proofs.Keeping.{keeps_room, keeps_behind_zero, strips, IsStripped}
use Rattle.bx_script.proofs.Cuts.{Lacks, lacks_taken, after_all, before_it, after_it, before_past, after_past, Parted, parted}

-- ---- Numbers with many digits

value_grows : (n : ℕ) (ds : List ℕ) → n ≤ digits_value_after 10 n ds
value_grows n [] = omega arith
value_grows n (d ∷ ds) = omega (arith, value_grows (n * 10 + digit_value d) ds)

abbrev with_zeros : ℕ → ℕ → ℕ
with_zeros zero n = n
with_zeros (suc k) n = with_zeros k (n * 10)

with_zeros-le : (k n m : ℕ) → n ≤ m → with_zeros k n ≤ with_zeros k m
with_zeros-le zero n m h = h
with_zeros-le (suc k) n m h = with_zeros-le k (n * 10) (m * 10) (omega arith)

value_is_large : (k n : ℕ) (ds : List ℕ) → k ≤ length ds → with_zeros k n ≤ digits_value_after 10 n ds
value_is_large zero n ds h = value_grows n ds
value_is_large (suc k) n [] h = absurd (omega arith)
value_is_large (suc k) n (d ∷ ds) h =
    let low = with_zeros-le k (n * 10) (n * 10 + digit_value d) (omega arith) in
    let rest = value_is_large k (n * 10 + digit_value d) ds (omega arith) in
    omega arith

first_digit : (d : ℕ) → eqb d 48 ≡ false → 1 ≤ digit_value d
first_digit d h = grind (arith, nat_tests)

none_by_test : (a b : Bool) (n : ℕ) → b ≡ false → cond (a && b) (Some n) None ≡ None
none_by_test a b n h = grind (arith, common_steps)

large_is_none : (m : List ℕ) → 2 ^ 64 ≤ digits_value 10 m → number_of m ≡ None
large_is_none m h = none_by_test (is_digits m) (ltb (digits_value 10 m) (2 ^ 64)) (digits_value 10 m) (le-ltb _ _ h)

abbrev pub IsNormal : List ℕ → Type 0
IsNormal [] = Unit {0}
IsNormal (x ∷ []) = Unit {0}
IsNormal (x ∷ y ∷ ys) = (eqb x 48 ≡ false) ⊎ (eqb y 48 ≡ false)

twenty_digits : (n : ℕ) (ds : List ℕ) → 1 ≤ n → 20 ≤ length ds → 2 ^ 64 ≤ digits_value_after 10 n ds
twenty_digits n ds some long =
    let low : with_zeros 20 1 ≤ with_zeros 20 n = with_zeros-le 20 1 n some in
    let high : with_zeros 20 n ≤ digits_value_after 10 n ds = value_is_large 20 n ds long in
    let big : 2 ^ 64 ≤ with_zeros 20 1 = lit≤ tt in
    le_trans big (le_trans low high)

pub many_digits : (m : List ℕ) → IsNormal m → 21 < length m → number_of m ≡ None
many_digits (x ∷ y ∷ m) (inl first) long =
    let some : 1 ≤ 0 * 10 + digit_value x = omega (arith, first_digit x first) in
    large_is_none (x ∷ y ∷ m) (twenty_digits (0 * 10 + digit_value x) (y ∷ m) some (omega arith))
many_digits (x ∷ y ∷ m) (inr second) long =
    let some : 1 ≤ (0 * 10 + digit_value x) * 10 + digit_value y = omega (arith, first_digit y second) in
    large_is_none (x ∷ y ∷ m) (twenty_digits ((0 * 10 + digit_value x) * 10 + digit_value y) m some (omega arith))
many_digits _ h long = absurd (omega arith)

-- ---- Long lines

too_many : (digits : List ℕ) → BODY_LIMIT < length digits → eqb (length digits) 32 ≡ false
too_many digits many = grind (arith, common_steps, nat_tests)

cut_command : (d : Dialect) (moment n : ℕ) (rest : List ℕ) → BODY_LIMIT + 2 < n → n < length rest → command d moment (take n rest) ≡ command d moment rest
cut_command Script moment (suc (suc (suc n))) (a ∷ b ∷ c ∷ rest) long within =
    let short : BODY_LIMIT < length (c ∷ take n rest) = omega (arith, length-take-le n rest (omega arith)) in
    let whole : BODY_LIMIT < length (c ∷ rest) = omega arith in
    rw (lt-ltb BODY_LIMIT (length (c ∷ take n rest)) short, lt-ltb BODY_LIMIT (length (c ∷ rest)) whole)
cut_command Recorded moment (suc (suc (suc n))) (a ∷ b ∷ c ∷ rest) long within =
    let short : BODY_LIMIT < length (c ∷ take n rest) = omega (arith, length-take-le n rest (omega arith)) in
    let whole : BODY_LIMIT < length (c ∷ rest) = omega arith in
    rw (lt-ltb BODY_LIMIT (length (c ∷ take n rest)) short, lt-ltb BODY_LIMIT (length (c ∷ rest)) whole, too_many (c ∷ take n rest) short, too_many (c ∷ rest) whole)
cut_command _ moment _ _ long within = absurd (omega arith)

no_command : (d : Dialect) (o : Option ℕ) → line_by d o [] ≡ Bad
no_command d None = refl
no_command Script (Some moment) = refl
no_command Recorded (Some moment) = refl

no_space : (d : Dialect) (text : List ℕ) → Lacks 32 text → timed_line d text ≡ Bad
no_space d text lacks = ap (line_by d (number_of (before_first is_space text))) (after_all 32 text lacks) ∙ no_command d _

at_space : (d : Dialect) (m r : List ℕ) → Lacks 32 m → timed_line d (m ++ 32 ∷ r) ≡ line_by d (number_of m) r
at_space d m r lacks =
    ap (λ l. line_by d (number_of l) (after_first is_space (m ++ 32 ∷ r))) (before_it 32 m r lacks) ∙ ap (line_by d (number_of m)) (after_it 32 m r lacks)

front_is_normal : (m r : List ℕ) → IsNormal (m ++ r) → IsNormal m
front_is_normal (x ∷ y ∷ m) r h = h
front_is_normal _ r h = tt

cut_rest : (d : Dialect) (m r : List ℕ) (n : ℕ) → IsNormal m → BODY_LIMIT + 24 < n + length m → line_by d (number_of m) (take n r) ≡ line_by d (number_of m) r
cut_rest d m r n normal long = by_length (ltb 21 (length m)) refl
  where
    by_number : (o : Option ℕ) → BODY_LIMIT + 2 < n → n < length r → line_by d o (take n r) ≡ line_by d o r
    by_number None room within = refl
    by_number (Some moment) room within = cut_command d moment n r room within

    by_room : (b : Bool) → ltb n (length r) ≡ b → BODY_LIMIT + 2 < n → line_by d (number_of m) (take n r) ≡ line_by d (number_of m) r
    by_room true e room = by_number (number_of m) room (ltb-true _ _ e)
    by_room false e room = ap (line_by d (number_of m)) (take_all n r (ltb-false _ _ e))

    by_length : (b : Bool) → ltb 21 (length m) ≡ b → line_by d (number_of m) (take n r) ≡ line_by d (number_of m) r
    by_length true e =
        let none = many_digits m normal (ltb-true _ _ e) in
        ap (λ o. line_by d o (take n r)) none ∙ sym (ap (λ o. line_by d o r) none)
    by_length false e = by_room (ltb n (length r)) refl (omega (arith, ltb-false _ _ e))

cut_in_rest : (limit : ℕ) (m r : List ℕ) → length m < limit → take limit (m ++ 32 ∷ r) ≡ m ++ 32 ∷ take (limit - length m - 1) r
cut_in_rest limit [] r h = let room : limit ≡ suc (limit - 0 - 1) = omega arith in ap (λ n. take n (32 ∷ r)) room
cut_in_rest limit (x ∷ m) r h =
    let room : limit ≡ suc (limit - 1) = omega arith in
    let same : limit - 1 - length m - 1 ≡ limit - length (x ∷ m) - 1 = omega arith in
    ap (λ n. take n (x ∷ (m ++ 32 ∷ r))) room ∙ ap (λ l. x ∷ l) (cut_in_rest (limit - 1) m r (omega arith)) ∙ ap (λ n. x ∷ (m ++ 32 ∷ take n r)) same

cut_by : (d : Dialect) (limit : ℕ) (m r : List ℕ) → BODY_LIMIT + 32 ≤ limit → IsNormal m → Lacks 32 m → (b : Bool) → ltb (length m) limit ≡ b
    → timed_line d (take limit (m ++ 32 ∷ r)) ≡ timed_line d (m ++ 32 ∷ r)
cut_by d limit m r large normal lacks true e =
    let within : length m < limit = ltb-true _ _ e in
    ap (timed_line d) (cut_in_rest limit m r within) ∙ at_space d m (take (limit - length m - 1) r) lacks
    ∙ cut_rest d m r (limit - length m - 1) normal (omega arith) ∙ sym (at_space d m r lacks)
cut_by d limit m r large normal lacks false e =
    let past : limit ≤ length m = ltb-false _ _ e in
    ap (timed_line d) (take-append-le limit m (32 ∷ r) past) ∙ no_space d (take limit m) (lacks_taken 32 limit m lacks)
    ∙ sym (at_space d m r lacks ∙ ap (λ o. line_by d o r) (many_digits m normal (omega arith)))

cut_timed : (d : Dialect) (limit : ℕ) (text : List ℕ) → BODY_LIMIT + 32 ≤ limit → IsNormal text → timed_line d (take limit text) ≡ timed_line d text
cut_timed d limit text room normal = by_space (parted 32 text)
  where
    by_space : Lacks 32 text ⊎ Parted 32 text → timed_line d (take limit text) ≡ timed_line d text
    by_space (inl lacks) = no_space d (take limit text) (lacks_taken 32 limit text lacks) ∙ sym (no_space d text lacks)
    by_space (inr p) =
        let front = front_is_normal p.front (32 ∷ p.back) (subst IsNormal p.whole normal) in
        ap (λ l. timed_line d (take limit l)) p.whole ∙ cut_by d limit p.front p.back room front p.lacks (ltb (length p.front) limit) refl ∙ sym (ap (timed_line d) p.whole)

-- ---- Notes

cut_note : (n : ℕ) (note : List ℕ) → BODY_LIMIT < n → noted_by (take n note) ≡ noted_by note
cut_note n note room = by_room (ltb n (length note)) refl
  where
    by_room : (b : Bool) → ltb n (length note) ≡ b → noted_by (take n note) ≡ noted_by note
    by_room true e =
        let within : n < length note = ltb-true _ _ e in
        let short : BODY_LIMIT < length (take n note) = omega (arith, length-take-le n note (omega arith)) in
        let whole : BODY_LIMIT < length note = omega arith in
        rw (lt-ltb BODY_LIMIT (length (take n note)) short, lt-ltb BODY_LIMIT (length note) whole) refl
    by_room false e = ap noted_by (take_all n note (ltb-false _ _ e))

pub cut_says : (d : Dialect) (limit : ℕ) (text : List ℕ) → BODY_LIMIT + 32 ≤ limit → IsNormal text → line_of d (take limit text) ≡ line_of d text
cut_says Script limit text room normal = cut_timed Script limit text room normal
cut_says Recorded (suc (suc n)) (a ∷ b ∷ rest) room normal =
    let is_note : Bool = starts_with nat_eq (a ∷ b ∷ rest) (codes "A ") in
    ap (λ l. cond is_note l (timed_line Recorded (a ∷ b ∷ take n rest))) (cut_note n rest (omega arith))
    ∙ ap (cond is_note (noted_by rest)) (cut_timed Recorded (suc (suc n)) (a ∷ b ∷ rest) room normal)
cut_says Recorded limit [] room normal = ap (line_of Recorded) (take_all limit [] (omega arith))
cut_says Recorded limit (a ∷ []) room normal = ap (line_of Recorded) (take_all limit (a ∷ []) (omega arith))
cut_says Recorded _ (a ∷ b ∷ rest) room normal = absurd (omega arith)

-- ---- Zeros

zero_more : (m : List ℕ) → number_of (48 ∷ 48 ∷ m) ≡ number_of (48 ∷ m)
zero_more m =
    let two : 0 < length (48 ∷ 48 ∷ m) = omega arith in
    let one : 0 < length (48 ∷ m) = omega arith in
    rw (lt-ltb 0 (length (48 ∷ 48 ∷ m)) two, lt-ltb 0 (length (48 ∷ m)) one) refl

two_zeros : (d : Dialect) (xs : List ℕ) → timed_line d (48 ∷ 48 ∷ xs) ≡ timed_line d (48 ∷ xs)
two_zeros d xs =
    let once = before_past 32 48 xs refl in
    let twice = before_past 32 48 (48 ∷ xs) refl ∙ ap (λ l. 48 ∷ l) once in
    ap (λ l. line_by d (number_of l) (after_first is_space (48 ∷ 48 ∷ xs))) twice
    ∙ ap (line_by d (number_of (48 ∷ 48 ∷ before_first is_space xs))) (after_past 32 48 (48 ∷ xs) refl)
    ∙ ap (λ o. line_by d o (after_first is_space (48 ∷ xs))) (zero_more (before_first is_space xs))
    ∙ sym (ap (λ l. line_by d (number_of l) (after_first is_space (48 ∷ xs))) once)

zeros_timed : (d : Dialect) (xs : List ℕ) → timed_line d (48 ∷ without_zeros xs) ≡ timed_line d (48 ∷ xs)
zeros_timed d [] = refl
zeros_timed d (x ∷ xs) = grind (arith, common_steps, zeros_timed d xs, two_zeros d xs, eqb-true)

zeros_say : (d : Dialect) (xs : List ℕ) → line_of d (48 ∷ without_zeros xs) ≡ line_of d (48 ∷ xs)
zeros_say Script xs = zeros_timed Script xs
zeros_say Recorded xs = zeros_timed Recorded xs

-- ---- What is kept

stripped_is_normal : (xs : List ℕ) → IsStripped xs → IsNormal (48 ∷ xs)
stripped_is_normal xs h = grind (arith, common_steps)

other_is_normal : (x : ℕ) (xs : List ℕ) → eqb x 48 ≡ false → IsNormal (x ∷ xs)
other_is_normal x xs h = grind (arith, common_steps)

kept_behind : (d : Dialect) (limit x : ℕ) (xs : List ℕ) → BODY_LIMIT + 32 ≤ limit → (b : Bool) → eqb x 48 ≡ b → line_of d (fold (keep_byte limit) (x ∷ []) xs) ≡ line_of d (x ∷ xs)
kept_behind d limit x xs room true e =
    let zero_is = eqb-true x 48 e in
    let low : limit ≡ suc (limit - 1) = omega arith in
    let whole = without_zeros xs in
    ap (λ y. line_of d (fold (keep_byte limit) (y ∷ []) xs)) zero_is ∙ ap (line_of d) (keeps_behind_zero limit xs (omega arith) ∙ sym (ap (λ n. take n (48 ∷ whole)) low))
    ∙ cut_says d limit (48 ∷ whole) room (stripped_is_normal whole (strips xs)) ∙ zeros_say d xs ∙ ap (λ y. line_of d (y ∷ xs)) (sym zero_is)
kept_behind d limit x xs room false e =
    let low : limit ≡ suc (limit - 1) = omega arith in
    ap (line_of d) (keeps_room limit (x ∷ []) xs e (omega arith) ∙ sym (ap (λ n. take n (x ∷ xs)) low)) ∙ cut_says d limit (x ∷ xs) room (other_is_normal x xs e)

pub kept_says : (d : Dialect) (line : List ℕ) → line_of d (kept_with [] line) ≡ line_of d line
kept_says d [] = refl
kept_says d (x ∷ xs) = kept_behind d KEPT_LIMIT x xs (lit≤ tt) (eqb x 48) refl
