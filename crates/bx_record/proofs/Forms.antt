-- Proves that a form is written one document at a time, and how long it is.
use Rattle.std.proofs.Common.{◌≡◌, ℕ, ◌+◌, ◌-◌, ◌<◌, ◌≤◌, ◌||◌, Bool, true, false, cond, eqb, List, [], ◌∷◌, ◌++◌, length, map, take, drop, get_or, refl, sym, ap, ◌∙◌, subst, arith, append_assoc, append-nil, length-append, take-append-drop, take_all}
use Rattle.std.proofs.lemmas.List.{take_more, map-append, length-map, length-take-le}
use Rattle.std.proofs.lemmas.List.Sums.{sum_by-cons, sum_by_more_le}
use Rattle.std.specs.List.{join_with_byte, sum_by}
use Rattle.percent_encoding.specs.Percent.{percent_encode_byte}
use Rattle.form_urlencoded.specs.Form.{byte_serialize, is_unchanged, serialize_byte}
use Rattle.form_urlencoded.proofs.FormLemmas.{byte_serialize-nil, byte_serialize-cons, byte_serialize-append}
use Rattle.bx_advice.specs.declared.limit.TheConstants.{BODY_LIMIT}
use Rattle.bx_record.specs.Record.{form_of, parameter_of}

-- ---- The form

pub form_of_none : form_of [] ≡ []
unfolding form_of
form_of_none = refl

pub joined-push : (c : ℕ) (ps : List (List ℕ)) (p : List ℕ) → 0 < length ps → join_with_byte c (ps ++ p ∷ []) ≡ join_with_byte c ps ++ (c ∷ p)
joined-push c [] p some = absurd (omega arith)
joined-push c (x ∷ []) p some = refl
joined-push c (x ∷ y ∷ ps) p some = ap (λ t. x ++ (c ∷ t)) (joined-push c (y ∷ ps) p (omega arith)) ∙ sym (append_assoc x (c ∷ join_with_byte c (y ∷ ps)) (c ∷ p))

form_of_first : (ds : List (List ℕ)) → 0 < length ds → form_of (take 1 ds) ≡ parameter_of (get_or ds 0 [])
unfolding form_of
form_of_first [] some = absurd (omega arith)
form_of_first (d ∷ ds) some = refl

form_of_more : (ds : List (List ℕ)) (i : ℕ) → i < length ds → 0 < i → form_of (take (i + 1) ds) ≡ form_of (take i ds) ++ (38 ∷ parameter_of (get_or ds i []))
unfolding form_of
form_of_more ds i within later =
    let d = get_or ds i [] in
    let some : 0 < length (map parameter_of (take i ds)) = omega (arith, length-map (take i ds) parameter_of, length-take-le i ds (omega arith)) in
    ap (λ (t : List (List ℕ)). join_with_byte 38 (map parameter_of t)) (take_more ds i [] within)
    ∙ ap (join_with_byte 38) (map-append parameter_of (take i ds) (d ∷ []))
    ∙ joined-push 38 (map parameter_of (take i ds)) (parameter_of d) some

pub first_pushed : (ds : List (List ℕ)) (i : ℕ) (old mid d : List ℕ) → d ≡ get_or ds i [] → i < length ds → i ≤ 0 → mid ≡ old ++ form_of (take i ds) → mid ++ parameter_of d ≡ old ++ form_of (take (i + 1) ds)
first_pushed ds i old mid d is inside first so_far =
    let start : i ≡ 0 = omega arith in
    let some : 0 < length ds = omega arith in
    let none : form_of (take i ds) ≡ [] = ap (λ k. form_of (take k ds)) start ∙ form_of_none in
    ap (λ t. t ++ parameter_of d) (so_far ∙ ap (λ t. old ++ t) none ∙ append-nil old)
    ∙ ap (λ t. old ++ parameter_of t) (is ∙ ap (λ k. get_or ds k []) start) ∙ ap (λ t. old ++ t) (sym (form_of_first ds some) ∙ ap (λ k. form_of (take (k + 1) ds)) (sym start))

pub next_pushed : (ds : List (List ℕ)) (i : ℕ) (old mid d : List ℕ) → d ≡ get_or ds i [] → i < length ds → 0 < i → mid ≡ old ++ form_of (take i ds) → (mid ++ 38 ∷ []) ++ parameter_of d ≡ old ++ form_of (take (i + 1) ds)
next_pushed ds i old mid d is inside later so_far =
    append_assoc mid (38 ∷ []) (parameter_of d) ∙ ap (λ t. t ++ (38 ∷ parameter_of d)) so_far ∙ append_assoc old (form_of (take i ds)) (38 ∷ parameter_of d)
    ∙ ap (λ t. old ++ (form_of (take i ds) ++ (38 ∷ parameter_of t))) is ∙ ap (λ t. old ++ t) (sym (form_of_more ds i inside later))

form_is_some : (ds : List (List ℕ)) → 0 < length ds → 0 < length (form_of ds)
unfolding form_of
form_is_some [] some = absurd (omega arith)
form_is_some (d ∷ []) some = omega arith
form_is_some (d ∷ e ∷ ds) some = omega arith

-- ---- The length of the form

abbrev pub weight_of : List ℕ → ℕ
weight_of d = 1 + length (parameter_of d)

length-form_of : (d : List ℕ) (ds : List (List ℕ)) → length (form_of (d ∷ ds)) + 1 ≡ sum_by weight_of (d ∷ ds)
unfolding form_of
length-form_of d [] = omega arith
length-form_of d (e ∷ ds) =
    omega (arith, length-append (byte_serialize d) (38 ∷ join_with_byte 38 (map parameter_of (e ∷ ds))), length-form_of e ds, sum_by-cons weight_of d (e ∷ ds))

weight_of_all : (ds : List (List ℕ)) → 0 < length ds → length (form_of ds) + 1 ≡ sum_by weight_of ds
weight_of_all [] some = absurd (omega arith)
weight_of_all (d ∷ ds) some = length-form_of d ds

pub too_long : (ds : List (List ℕ)) (i room : ℕ) (d : List ℕ) → d ≡ get_or ds i [] → i < length ds → room + sum_by weight_of (take i ds) ≡ BODY_LIMIT + 1 → room < weight_of d → BODY_LIMIT < length (form_of ds)
too_long ds i room d is inside counted less =
    let some : 0 < length ds = omega arith in
    let low : room < weight_of (get_or ds i []) = subst (λ t. room < weight_of t) is less in
    omega (arith, weight_of_all ds some, sum_by_more_le weight_of ds i [] inside)

pub all_counted : (ds : List (List ℕ)) (i room : ℕ) → 0 < length ds → length ds ≤ i → room + sum_by weight_of (take i ds) ≡ BODY_LIMIT + 1
    → (BODY_LIMIT - room ≡ length (form_of ds)) × (BODY_LIMIT - room ≤ BODY_LIMIT)
all_counted ds i room some past counted =
    let all : sum_by weight_of (take i ds) ≡ sum_by weight_of ds = ap (λ (xs : List (List ℕ)). sum_by weight_of xs) (take_all i ds past) in
    let whole : length (form_of ds) + 1 ≡ sum_by weight_of ds = weight_of_all ds some in
    let none : 0 < length (form_of ds) = form_is_some ds some in
    (omega arith, omega arith)

-- ---- The length of a parameter, byte by byte

pub serialized_len : (b : ℕ) → length (serialize_byte b) ≡ cond (is_unchanged b || eqb b 32) 1 3
unfolding percent_encode_byte
serialized_len b = by_tests (is_unchanged b) (eqb b 32)
  where
    by_tests : (p q : Bool) → length (cond p (b ∷ []) (cond q (43 ∷ []) (percent_encode_byte b))) ≡ cond (p || q) 1 3
    by_tests true q = refl
    by_tests false true = refl
    by_tests false false = refl

pub encoded_none : length (byte_serialize []) ≡ 0
encoded_none = ap length byte_serialize-nil

pub encoded_more : (bs : List ℕ) (i : ℕ) → i < length bs → length (byte_serialize (take (i + 1) bs)) ≡ length (byte_serialize (take i bs)) + length (serialize_byte (get_or bs i 0))
encoded_more bs i inside =
    let b = get_or bs i 0 in
    let front = byte_serialize (take i bs) in
    let last : byte_serialize (b ∷ []) ≡ serialize_byte b = byte_serialize-cons b [] ∙ ap (λ t. serialize_byte b ++ t) byte_serialize-nil ∙ append-nil (serialize_byte b) in
    ap (λ t. length (byte_serialize t)) (take_more bs i 0 inside) ∙ ap length (byte_serialize-append (take i bs) (b ∷ []))
    ∙ length-append front (byte_serialize (b ∷ [])) ∙ ap (λ t. length front + length t) last

pub encoded_front : (bs : List ℕ) (k : ℕ) → length (byte_serialize (take k bs)) ≤ length (byte_serialize bs)
encoded_front bs k =
    let whole : length (byte_serialize bs) ≡ length (byte_serialize (take k bs)) + length (byte_serialize (drop k bs)) =
    ap (λ t. length (byte_serialize t)) (sym (take-append-drop k bs)) ∙ ap length (byte_serialize-append (take k bs) (drop k bs)) ∙ length-append (byte_serialize (take k bs)) (byte_serialize (drop k bs)) in
    omega arith

pub no_room : (bs : List ℕ) (i left room : ℕ) → i < length bs → left + (9 + length (byte_serialize (take i bs))) ≡ room → left < length (serialize_byte (get_or bs i 0)) → room < 1 + length (parameter_of bs)
no_room bs i left room inside counted less = omega (arith, encoded_more bs i inside, encoded_front bs (i + 1))
