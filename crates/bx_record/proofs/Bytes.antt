-- Proves that documents that can be read are UTF-8, and so consist of bytes.
use Rattle.std.proofs.Common.{◌≡◌, ℕ, ◌+◌, ◌/◌, ◌%◌, ◌<◌, ◌||◌, Bool, true, false, ltb, cond, List, [], ◌∷◌, length, map, Option, Some, is_ok, refl, subst, ⊎_elim, arith}
use Rattle.std.proofs.Math.Utf8.{scalar, scalars, scalar_cases, encode, encodes, next}
use Rattle.std.proofs.Math.Nat.{mod-lt}
use Rattle.std.proofs.lemmas.{Bool.cond_both, Bool.ltb-true, Bool.and_parts, Bool.or_parts, Str.IsUtf8-from_is_utf8, List.Elements.All-nil, List.Elements.All-cons, List.Elements.All-append}
use Rattle.std.specs.{List.All, List.AllByRecursion, List.list_any, Str.IsUtf8, Str.is_utf8}
use Rattle.percent_encoding.proofs.PercentLemmas.{IsByte}
use Rattle.bx_names.specs.Faults.{first_case}
use Rattle.bx_cut.specs.Words.{fault, pieces, texts_of}
use Rattle.bx_cut.specs.declared.{error.CutError.CutError, error.CutError.TheVariants.NotJson, document.TheConstants.MAX_MESSAGES}
use Rattle.bx_entry.proofs.RequestLemmas.{let_in-is_ok}
use Rattle.bx_entry.specs.declared.input.{Arrival.Arrival, Refusal.Refusal}
use Rattle.bx_entry.specs.declared.input.Refusal.TheVariants as refusals
use Rattle.bx_entry.specs.Requests.{Cut, arrival_messages, cut_by, cut_of, is_not_json, is_not_object, is_too_many, messages_by, objects_of, request_messages}

-- ---- Characters

few : (c : ℕ) → scalar c ≡ true → c < 1114112
few c h = ⊎_elim (λ low. omega arith) (λ high. high.1) (scalar_cases c h)

one : (b : ℕ) → b < 256 → All IsByte (b ∷ [])
one b small = All-cons IsByte b [] small (All-nil IsByte)

more : (b : ℕ) (bs : List ℕ) → b < 256 → All IsByte bs → All IsByte (b ∷ bs)
more b bs small rest = All-cons IsByte b bs small rest

follows : (bits : ℕ) → next bits < 256
follows bits = let low : bits % 64 < 64 = mod-lt bits (omega arith) in omega arith

character_bytes : (c : ℕ) → scalar c ≡ true → All IsByte (encode c)
unfolding encode
character_bytes c h =
    let all : c < 1114112 = few c h in
    let last : List ℕ = next c ∷ [] in
    let two : List ℕ = next (c / 64) ∷ next c ∷ [] in
    let three : List ℕ = next (c / 4096) ∷ next (c / 64) ∷ next c ∷ [] in
    let of_last : All IsByte last = one (next c) (follows c) in
    let of_two : All IsByte two = more (next (c / 64)) last (follows (c / 64)) of_last in
    let of_three : All IsByte three = more (next (c / 4096)) two (follows (c / 4096)) of_two in
    cond_both (ltb c 128) _ _ (All IsByte)
    (λ e. let low : c < 128 = ltb-true c 128 e in one c (omega arith))
    (λ _. cond_both (ltb c 2048) _ _ (All IsByte)
    (λ e. let low : c < 2048 = ltb-true c 2048 e in more (192 + c / 64) last (omega arith) of_last)
    (λ _. cond_both (ltb c 65536) _ _ (All IsByte)
    (λ e. let low : c < 65536 = ltb-true c 65536 e in more (224 + c / 4096) two (omega arith) of_two)
    (λ _. more (240 + c / 262144) three (omega arith) of_three)))

characters_bytes : (cs : List ℕ) → scalars cs ≡ true → All IsByte (encodes cs)
characters_bytes [] h = All-nil IsByte
characters_bytes (c ∷ cs) h =
    let parts = and_parts (scalar c) (scalars cs) h in
    All-append IsByte (encode c) (encodes cs) (character_bytes c parts.0) (characters_bytes cs parts.1)

pub utf8_bytes : (bs : List ℕ) → IsUtf8 bs → All IsByte bs
utf8_bytes bs (cs, (valid, same)) = subst (All IsByte) same (characters_bytes cs valid)

-- ---- Documents

utf8_by : (d : List ℕ) (other : Option CutError) (b : Bool) → is_utf8 d ≡ b → is_not_json (cut_by (cond b other (Some NotJson)) (pieces d)) ≡ false → IsUtf8 d
utf8_by d other true e h = IsUtf8-from_is_utf8 d e
utf8_by d other false e h = cc

cut_utf8 : (d : List ℕ) → is_not_json (cut_of d) ≡ false → IsUtf8 d
unfolding fault
cut_utf8 d h = utf8_by d _ (is_utf8 d) refl h

each_utf8 : (ds : List (List ℕ)) → list_any is_not_json (map cut_of ds) ≡ false → AllByRecursion IsUtf8 ds
each_utf8 [] h = tt
each_utf8 (d ∷ ds) h =
    let parts = or_parts (is_not_json (cut_of d)) (list_any is_not_json (map cut_of ds)) h in
    (cut_utf8 d parts.0, each_utf8 ds parts.1)

abbrev tail_cases : List Cut → List (Bool × Refusal)
tail_cases cs = (list_any is_not_object cs, refusals.NotObject) ∷ (list_any is_too_many cs || ltb MAX_MESSAGES (length (objects_of cs)), refusals.TooMany) ∷ []

json_by : (cs : List Cut) (others : Option Refusal) (b : Bool) → is_ok (messages_by cs (cond b (Some refusals.NotJson) others)) ≡ true → b ≡ false
json_by cs others true h = cc
json_by cs others false h = refl

readable_utf8 : (ds : List (List ℕ)) → is_ok (request_messages ds) ≡ true → AllByRecursion IsUtf8 ds
readable_utf8 ds h = each_utf8 ds (json_by (map cut_of ds) (first_case (tail_cases (map cut_of ds))) (list_any is_not_json (map cut_of ds)) h)

pub arrival_utf8 : (a : Arrival) → is_ok (arrival_messages a) ≡ true → AllByRecursion IsUtf8 (texts_of a.bodies)
arrival_utf8 a h = readable_utf8 (texts_of a.bodies) (let_in-is_ok a.access (request_messages (texts_of a.bodies)) h)
