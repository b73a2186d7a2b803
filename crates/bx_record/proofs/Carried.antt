-- Proves that the documents in a form are read back from it, and that it has no newline.
use Rattle.std.proofs.Common.{◌≡◌, ℕ, ◌<◌, true, false, eqb, cond, List, [], ◌∷◌, ◌++◌, length, map, codes, refl, sym, ap, ◌∙◌, subst, ⊎_elim, arith, append_assoc, append-nil, length-append}
use Rattle.std.specs.{Prelude.filter, List.All, List.AllByRecursion, Str.IsAscii, Str.IsUtf8, Str.bytes_eq, Str.Lossy.utf8_lossy}
use Rattle.std.proofs.lemmas.{Bool.cond-true, Bool.ne_eqb, Bool.lt-ltb, Bool.Decides.nat_tests, Str.IsUtf8-from_ascii, Str.utf8_lossy-IsUtf8, List.Elements.All-nil, List.Elements.All-cons, List.Elements.All-head, List.Elements.All-tail}
use Rattle.form_urlencoded.specs.Form.{append_pair, byte_serialize, decode, extend_pairs, parse, raw_pairs, separator, serialize_pair}
use Rattle.form_urlencoded.proofs.FormLemmas.{All-byte_serialize, IsAscii-byte_serialize, IsBytePair, IsSerializedByte, round_trip}
use Rattle.bx_transport.specs.Forms.{Pair, is_named, text_of, values_among, values_of}
use Rattle.bx_script.proofs.Cuts.{Lacks}
use Rattle.bx_record.specs.Record.{form_of, parameter_of}
use Rattle.bx_record.proofs.{Bytes.utf8_bytes, Digits.lacks-append}

-- ---- The form as `form_urlencoded` writes it

abbrev message_pair : List ℕ → Pair
message_pair d = (codes "message", d)

name_is : byte_serialize (codes "message") ≡ codes "message"
unfolding byte_serialize
name_is = refl

pair_is : (d : List ℕ) → serialize_pair (message_pair d) ≡ parameter_of d
pair_is d = ap (λ name. name ++ (61 ∷ []) ++ byte_serialize d) name_is

abbrev behind : List (List ℕ) → List ℕ
behind [] = []
behind (d ∷ ds) = 38 ∷ (parameter_of d ++ behind ds)

joined : (d : List ℕ) (ds : List (List ℕ)) → form_of (d ∷ ds) ≡ parameter_of d ++ behind ds
unfolding form_of
joined d [] = sym (append-nil (parameter_of d))
joined d (e ∷ ds) = ap (λ t. parameter_of d ++ (38 ∷ t)) (joined e ds)

one_more : (form d : List ℕ) → 0 < length form → append_pair form (codes "message") d ≡ form ++ (38 ∷ parameter_of d)
one_more form d some =
    let parted : separator form ≡ 38 ∷ [] = cond-true _ _ _ (lt-ltb 0 (length form) some) in
    ap (λ s. form ++ s ++ serialize_pair (message_pair d)) parted ∙ append_assoc form (38 ∷ []) (serialize_pair (message_pair d)) ∙ ap (λ p. form ++ (38 ∷ p)) (pair_is d)

extended : (form : List ℕ) (ds : List (List ℕ)) → 0 < length form → extend_pairs form (map message_pair ds) ≡ form ++ behind ds
extended form [] some = sym (append-nil form)
extended form (d ∷ ds) some =
    let next = one_more form d some in
    let longer : 0 < length (append_pair form (codes "message") d) = omega (arith, ap length next, length-append form (38 ∷ parameter_of d)) in
    extended (append_pair form (codes "message") d) ds longer ∙ ap (λ t. t ++ behind ds) next ∙ append_assoc form (38 ∷ parameter_of d) (behind ds)

form_is : (d : List ℕ) (ds : List (List ℕ)) → extend_pairs [] (map message_pair (d ∷ ds)) ≡ form_of (d ∷ ds)
form_is d ds =
    let some : 0 < length (serialize_pair (message_pair d)) = omega (arith, ap length (pair_is d)) in
    extended (serialize_pair (message_pair d)) ds some ∙ ap (λ t. t ++ behind ds) (pair_is d) ∙ sym (joined d ds)

-- ---- Reading the form

name_utf8 : IsUtf8 (codes "message")
name_utf8 = IsUtf8-from_ascii (codes "message") (subst IsAscii name_is (IsAscii-byte_serialize (codes "message")))

pairs_are_bytes : (ds : List (List ℕ)) → AllByRecursion IsUtf8 ds → All IsBytePair (map message_pair ds)
pairs_are_bytes [] h = All-nil IsBytePair
pairs_are_bytes (d ∷ ds) h =
    All-cons IsBytePair (message_pair d) (map message_pair ds) (utf8_bytes (codes "message") name_utf8, utf8_bytes d h.0) (pairs_are_bytes ds h.1)

parsed : (d : List ℕ) (ds : List (List ℕ)) → AllByRecursion IsUtf8 (d ∷ ds) → parse (form_of (d ∷ ds)) ≡ map message_pair (d ∷ ds)
parsed d ds h = ap parse (sym (form_is d ds)) ∙ round_trip (map message_pair (d ∷ ds)) (pairs_are_bytes (d ∷ ds) h)

abbrev decoded_pair : Pair → Pair
decoded_pair (name, value) = (decode name, decode value)

named : (p : Pair) → decode p.0 ≡ codes "message" → is_named (codes "message") p ≡ true
named p e = ap (λ t. bytes_eq (utf8_lossy t) (codes "message")) e ∙ ap (λ t. bytes_eq t (codes "message")) (utf8_lossy-IsUtf8 (codes "message") name_utf8)

valued : (p : Pair) (d : List ℕ) → IsUtf8 d → decode p.1 ≡ d → text_of p.1 ≡ d
valued p d u e = ap utf8_lossy e ∙ utf8_lossy-IsUtf8 d u

record SamePairs (p : Pair) (d : List ℕ) (ps : List Pair) (ds : List (List ℕ)) : Type 0 where
  name : decode p.0 ≡ codes "message"
  value : decode p.1 ≡ d
  rest : map decoded_pair ps ≡ map message_pair ds

same_pairs : (p : Pair) (d : List ℕ) (ps : List Pair) (ds : List (List ℕ)) → map decoded_pair (p ∷ ps) ≡ map message_pair (d ∷ ds) → SamePairs p d ps ds
same_pairs p d ps ds e =
    let heads : decoded_pair p ≡ message_pair d = cc in
    record { name = ap (λ (q : Pair). q.0) heads; value = ap (λ (q : Pair). q.1) heads; rest = cc }

values : (ps : List Pair) (ds : List (List ℕ)) → AllByRecursion IsUtf8 ds → map decoded_pair ps ≡ map message_pair ds → values_among (codes "message") ps ≡ ds
values [] [] h e = refl
values [] (d ∷ ds) h e = cc
values (p ∷ ps) [] h e = cc
values (p ∷ ps) (d ∷ ds) h e =
    let same = same_pairs p d ps ds e in
    ap (λ b. map (λ (pair : Pair). text_of pair.1) (cond b (p ∷ filter (is_named (codes "message")) ps) (filter (is_named (codes "message")) ps))) (named p same.name)
    ∙ ap (λ t. t ∷ values_among (codes "message") ps) (valued p d h.0 same.value) ∙ ap (λ ts. d ∷ ts) (values ps ds h.1 same.rest)

pub carried : (d : List ℕ) (ds : List (List ℕ)) → AllByRecursion IsUtf8 (d ∷ ds) → values_of (codes "message") (form_of (d ∷ ds)) ≡ d ∷ ds
carried d ds h = values (raw_pairs (form_of (d ∷ ds))) (d ∷ ds) h (parsed d ds h)

-- ---- No newline

no_end : (b : ℕ) → IsSerializedByte b → eqb b 10 ≡ false
no_end b h = ne_eqb b 10 (λ e. ⊎_elim (λ kept. grind (arith, nat_tests)) (λ other. grind arith) h.allowed)

serialized_lack : (bs : List ℕ) → All IsSerializedByte bs → Lacks 10 bs
serialized_lack [] h = tt
serialized_lack (b ∷ bs) h = (no_end b (All-head IsSerializedByte b bs h), serialized_lack bs (All-tail IsSerializedByte b bs h))

parameter_lacks : (d : List ℕ) → Lacks 10 (parameter_of d)
parameter_lacks d =
    lacks-append 10 (codes "message=") (byte_serialize d) (refl, (refl, (refl, (refl, (refl, (refl, (refl, (refl, tt)))))))) (serialized_lack (byte_serialize d) (All-byte_serialize d))

behind_lacks : (ds : List (List ℕ)) → Lacks 10 (behind ds)
behind_lacks [] = tt
behind_lacks (d ∷ ds) = (refl, lacks-append 10 (parameter_of d) (behind ds) (parameter_lacks d) (behind_lacks ds))

pub form_lacks : (d : List ℕ) (ds : List (List ℕ)) → Lacks 10 (form_of (d ∷ ds))
form_lacks d ds = subst (Lacks 10) (sym (joined d ds)) (lacks-append 10 (parameter_of d) (behind ds) (parameter_lacks d) (behind_lacks ds))
