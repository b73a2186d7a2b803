-- Reading the number in a client id results in the number of its session.
use Rattle.std.proofs.Common.{◌≡◌, ℕ, zero, suc, ◌+◌, ◌*◌, ◌/◌, ◌%◌, ◌^◌, ◌<◌, ◌≤◌, Bool, true, false, List, [], ◌∷◌, length, drop, refl, sym, ap, ◌∙◌, arith, length-append}
use Rattle.std.specs.Prelude.{if◌then◌else◌, ◌==◌, ◌&&◌, Option, Some, None}
use Rattle.std.specs.{Str.bytes_eq, Char.digit_char}
use Rattle.std.proofs.lemmas.{Slice.Eq.bytes_eq-Decides, Grind.common_steps, Bool.Decides.nat_tests, Nat.div-add-mod', List.Sums.fold-append, Bool.eqb-false}
use Rattle.std.proofs.Math.Nat.{pow-suc, div-lt_iff_lt-mul, mod-lt, mod-eq_of_lt}
use Rattle.std.proofs.Math.Seq.{drop-append_seam}
use Rattle.bx_entry.specs.Registry.{Registered, hex_digits, client_id, live_with_id}
use Rattle.bx_roster.specs.Tables.{IsNamed, IsTable, AllLive, known_of, client_and_ack_of}
use Rattle.bx_roster.proofs.Tables.{IsTable-bounds}
use Rattle.bx_registry.specs.Words.{digit_value, with_digit, hex_value, number_in, IsSender}

digit_value-char : (d : ℕ) → d < 16 → digit_value (digit_char d) ≡ d
digit_value-char d lt = grind (arith, common_steps, nat_tests)

pub length-hex_digits : (width n : ℕ) → length (hex_digits width n) ≡ width
length-hex_digits zero n = refl
length-hex_digits (suc width) n = omega (arith, length-append (hex_digits width (n / 16)) (digit_char (n % 16) ∷ []), length-hex_digits width (n / 16))

pub hex_value-digits : (width n : ℕ) → n < 16 ^ width → n < 2 ^ 64 → hex_value (hex_digits width n) ≡ n
hex_value-digits zero n fits small = let least : n < 1 = fits in omega arith
hex_value-digits (suc width) n fits small =
    let room : n < 16 ^ width * 16 = rw (← pow-suc 16 width) fits in
    let high : n / 16 < 16 ^ width = (div-lt_iff_lt-mul {k = 16} {x = n} {y = 16 ^ width} (omega arith)).1 room in
    let whole : n / 16 * 16 + n % 16 ≡ n = div-add-mod' n 16 in
    let digit : n % 16 < 16 = mod-lt n (omega arith) in
    let ih : hex_value (hex_digits width (n / 16)) ≡ n / 16 = hex_value-digits width (n / 16) high (omega arith) in
    let low : n / 16 * 16 % 2 ^ 64 ≡ n / 16 * 16 = mod-eq_of_lt (omega arith) in
    let all : (n / 16 * 16 + n % 16) % 2 ^ 64 ≡ n / 16 * 16 + n % 16 = mod-eq_of_lt (omega arith) in
    fold-append with_digit 0 (hex_digits width (n / 16)) (digit_char (n % 16) ∷ [])
    ∙ ap (λ (m : ℕ). (m * 16 % 2 ^ 64 + digit_value (digit_char (n % 16))) % 2 ^ 64) ih
    ∙ ap (λ (m : ℕ). (m + digit_value (digit_char (n % 16))) % 2 ^ 64) low
    ∙ ap (λ (m : ℕ). (n / 16 * 16 + m) % 2 ^ 64) (digit_value-char (n % 16) digit)
    ∙ all ∙ whole

pub number_in-named : (r : Registered) → IsNamed r → r.number < 2 ^ 64 → number_in r.client ≡ r.number
number_in-named r named small = ap hex_value named ∙ hex_value-digits 16 r.number (omega arith) small

pub drop-client_id : (nonce number : ℕ) → drop 32 (client_id nonce number) ≡ hex_digits 16 number
drop-client_id nonce number = grind (arith, common_steps, length-hex_digits, drop-append_seam)

-- ---- A client id names its session

number-of : (low high : ℕ) (r : Registered) (rs : List Registered) (text : List ℕ) → IsTable low high (r ∷ rs) → high < 2 ^ 64 → bytes_eq r.client text ≡ true → number_in text ≡ r.number
number-of low high r rs text t small e =
    let same : r.client ≡ text = (bytes_eq-Decides r.client text).0 e in
    let up : r.number ≤ high = IsTable-bounds r.number high rs t.2 in
    ap number_in (sym same) ∙ number_in-named r t.1 (omega arith)

found-next : (r : Registered) (rest : Option Registered) (text : List ℕ) → r.live ≡ true → (b : Bool) → bytes_eq r.client text ≡ b → (if r.live && bytes_eq r.client text then Some r else rest) ≡ (if b then Some r else rest)
found-next r rest text lives b e = ap (λ (c : Bool). if c && bytes_eq r.client text then Some r else rest) lives ∙ ap (λ (c : Bool). if c then Some r else rest) e

not-same : (client text : List ℕ) → bytes_eq client text ≡ false → client ≡ text → ⊥
not-same client text e same = grind (arith, common_steps, bytes_eq-Decides)

of-some : (known k : List ℕ × Bool) → Some known ≡ Some k → known ≡ k
of-some known k e = cc

pub found-none : (low high : ℕ) (rs : List Registered) (text : List ℕ) → IsTable low high rs → high < 2 ^ 64 → AllLive rs → number_in text ≤ low → live_with_id rs text ≡ None
found-none low high [] text t small all le = refl
found-none low high (r ∷ rs) text t small all le =
    grind (arith, common_steps, found-none r.number high rs text t.2 small all.1, number-of low high r rs text t small)

abbrev pub Finds : List Registered → List ℕ → Option (List ℕ × Bool) → Type 0
Finds rs text known = ((k : List ℕ × Bool) → known ≡ Some k → k.0 ≡ text → IsSender (live_with_id rs text) (number_in text) text k.1)
    × (((k : List ℕ × Bool) → known ≡ Some k → k.0 ≡ text → ⊥) → live_with_id rs text ≡ None)

finds-by : (low high : ℕ) (r : Registered) (rs : List Registered) (text : List ℕ) → IsTable low high (r ∷ rs) → high < 2 ^ 64 → AllLive (r ∷ rs) →
    Finds rs text (client_and_ack_of (number_in text) rs) → (b : Bool) → bytes_eq r.client text ≡ b → (c : Bool) → (r.number == number_in text) ≡ c →
    Finds (r ∷ rs) text (if c then Some (known_of r) else client_and_ack_of (number_in text) rs)
finds-by low high r rs text t small all ih true e true f =
    let same : r.client ≡ text = (bytes_eq-Decides r.client text).0 e in
    let here : live_with_id (r ∷ rs) text ≡ Some r = found-next r (live_with_id rs text) text all.0 true e in (
      (λ k known is. rw here (sym (number-of low high r rs text t small e), same, ap (λ (x : List ℕ × Bool). x.1) (of-some (known_of r) k known))),
      (λ other. absurd (other (known_of r) refl same)),
    )
finds-by low high r rs text t small all ih true e false f = absurd (eqb-false r.number (number_in text) f (sym (number-of low high r rs text t small e)))
finds-by low high r rs text t small all ih false e true f = grind (arith, common_steps, found-next, not-same, of-some, found-none)
finds-by low high r rs text t small all ih false e false f = grind (arith, common_steps, found-next)

pub finds : (low high : ℕ) (rs : List Registered) (text : List ℕ) → IsTable low high rs → high < 2 ^ 64 → AllLive rs → Finds rs text (client_and_ack_of (number_in text) rs)
finds low high [] text t small all = ((λ k known is. cc), (λ other. refl))
finds low high (r ∷ rs) text t small all =
    finds-by low high r rs text t small all (finds r.number high rs text t.2 small all.1) (bytes_eq r.client text) refl (r.number == number_in text) refl
