-- Objects and arrays that are written piece by piece.
use Rattle.std.proofs.Common.{◌≡◌, ℕ, ◌+◌, ◌<◌, List, [], ◌∷◌, ◌++◌, length, take, map, get_or, refl, sym, ap, ◌∙◌, arith, append_assoc, cond, Result, Ok, Err, OnOk, is_ok, Bool, true, false, not, ◌||◌, ◌==◌, nat_lt, eq-eqb}
use Rattle.std.proofs.lemmas.Bool.{true≢false, ltb-false, and_parts}
use Rattle.std.specs.List.{join_with_byte, list_all}
use Rattle.json.specs.{Run.is_plain, Token.string}
use Rattle.json.specs.Print.{escape, escape_byte, print, print_from, quoted}
use Rattle.json.proofs.Printed.Strings.{escape_byte_plain}
use Rattle.std.proofs.lemmas.List.{append-nil, take_more, map-append, length-map, length-take-le}
use Rattle.bx_message.specs.Objects.{OpenObject, opened, resumed, with_name, with_member, with_members, closed}
use Rattle.bx_message.specs.Texts.{member, object}
use Rattle.bx_advice.specs.Errors.{error_text}
use Rattle.bx_advice.specs.declared.{error.Error.Error, error.Error.TheVariants.UnknownMetaChannel}

-- ---- one token

pub print-string : (text : List ℕ) → print (string text ∷ []) ≡ quoted text
unfolding print_from
print-string text = append-nil (quoted text)

-- ---- members

pub with_name-value : (o : OpenObject) (name value : List ℕ) → with_name o name ++ value ≡ (with_member o (member name value)).text
with_name-value o name value = simp append_assoc

pub resumed-with_name : (o : OpenObject) (name value : List ℕ) → resumed (with_name o name ++ value) ≡ with_member o (member name value)
resumed-with_name o name value = ap resumed (with_name-value o name value)

pub with_members-append : (o : OpenObject) (xs ys : List (List ℕ)) → with_members o (xs ++ ys) ≡ with_members (with_members o xs) ys
with_members-append o [] ys = refl
with_members-append o (x ∷ xs) ys = with_members-append (with_member o x) xs ys

-- Members, each after a comma.
abbrev after_commas : List (List ℕ) → List ℕ
after_commas [] = []
after_commas (m ∷ ms) = 44 ∷ (m ++ after_commas ms)

pub joined : (m : List ℕ) (ms : List (List ℕ)) → join_with_byte 44 (m ∷ ms) ≡ m ++ after_commas ms
joined m [] = sym (append-nil m)
joined m (n ∷ ms) = ap (λ t. m ++ (44 ∷ t)) (joined n ms)

text-with_members : (before : List ℕ) (ms : List (List ℕ)) → (with_members (resumed before) ms).text ≡ before ++ after_commas ms
text-with_members before [] = sym (append-nil before)
text-with_members before (m ∷ ms) = text-with_members (before ++ (44 ∷ m)) ms ∙ append_assoc before (44 ∷ m) (after_commas ms)

pub closed-with_members : (before : List ℕ) (ms : List (List ℕ)) → closed (with_members (opened before) ms) ≡ before ++ object ms
closed-with_members before [] = append_assoc before (123 ∷ []) (125 ∷ [])
closed-with_members before (m ∷ ms) =
    rw (text-with_members ((before ++ 123 ∷ []) ++ m) ms, joined m ms) (simp append_assoc)

-- Evidence that object `o` begins after the bytes `before` and has `members` so far.
pub record Holds (before : List ℕ) (members : List (List ℕ)) (o : OpenObject) : Type 0 where
  pub same : o ≡ with_members (opened before) members

pub none_yet : {before : List ℕ} {o : OpenObject} → o ≡ opened before → Holds before [] o
none_yet e = record { same = e }

pub adding : {before : List ℕ} {members : List (List ℕ)} {o p : OpenObject} (more : List (List ℕ)) → Holds before members o → p ≡ with_members o more → Holds before (members ++ more) p
adding {before} {members} {o} {p} more h e =
    record { same = e ∙ (ap (λ (q : OpenObject). with_members q more) h.same ∙ sym (with_members-append (opened before) members more)) }

pub closed-holds : {before : List ℕ} {members : List (List ℕ)} {o : OpenObject} → Holds before members o → closed o ≡ before ++ object members
closed-holds {before} {members} h = ap closed h.same ∙ closed-with_members before members

-- ---- the values of an array

pub joined-push : (values : List (List ℕ)) (value : List ℕ) → 0 < length values → join_with_byte 44 (values ++ value ∷ []) ≡ join_with_byte 44 values ++ (44 ∷ value)
joined-push [] value h = absurd (omega arith)
joined-push (v ∷ []) value h = refl
joined-push (v ∷ w ∷ vs) value h =
    ap (λ t. v ++ (44 ∷ t)) (joined-push (w ∷ vs) value (omega arith)) ∙ sym (append_assoc v (44 ∷ join_with_byte 44 (w ∷ vs)) (44 ∷ value))

values-more : {X : Type 0} (f : X → List ℕ) (xs : List X) (i : ℕ) (x : X) → i < length xs → x ≡ get_or xs i x → map f (take (i + 1) xs) ≡ map f (take i xs) ++ f x ∷ []
values-more f xs i x h e =
    rw (take_more xs i x h, map-append) (ap (λ y. map f (take i xs) ++ f y ∷ []) (sym e))

pub array-first : {X : Type 0} (f : X → List ℕ) (xs : List X) (i : ℕ) (x : X) (before : List ℕ) → i ≡ 0 → i < length xs → x ≡ get_or xs i x → before ≡ 91 ∷ join_with_byte 44 (map f (take i xs)) → before ++ f x ≡ 91 ∷ join_with_byte 44 (map f (take (i + 1) xs))
array-first f xs i x before none h e b = rw (values-more f xs i x h e, b, none) refl

pub array-more : {X : Type 0} (f : X → List ℕ) (xs : List X) (i : ℕ) (x : X) (before : List ℕ) → 0 < i → i < length xs → x ≡ get_or xs i x → before ≡ 91 ∷ join_with_byte 44 (map f (take i xs)) → (before ++ 44 ∷ []) ++ f x ≡ 91 ∷ join_with_byte 44 (map f (take (i + 1) xs))
array-more f xs i x before some h e b =
    let values = map f (take i xs) in
    let len : length values ≡ i = length-map (take i xs) f ∙ length-take-le i xs (omega arith) in
    let pushed = joined-push values (f x) (omega arith) in
    rw (values-more f xs i x h e, b, pushed) (simp append_assoc)

-- ---- texts that need no escapes

not_stop : (a b c : Bool) → not (a || b || c) ≡ true → (a ≡ false) × (b ≡ false) × (c ≡ false)
not_stop true b c e = cc
not_stop false true c e = cc
not_stop false false true e = cc
not_stop false false false e = (refl, refl, refl)

plain_byte : (x : ℕ) → is_plain x ≡ true → escape_byte x ≡ x ∷ []
plain_byte x e =
    let parts = not_stop (x == 34) (x == 92) (nat_lt x 32) e in
    escape_byte_plain x (λ is. true≢false (sym (eq-eqb x 34 is) ∙ parts.0)) (λ is. true≢false (sym (eq-eqb x 92 is) ∙ parts.1)) (ltb-false x 32 parts.2)

pub escape-plain : (s : List ℕ) → list_all is_plain s ≡ true → escape s ≡ s
escape-plain [] e = refl
escape-plain (x ∷ xs) e =
    let parts = and_parts (is_plain x) (list_all is_plain xs) e in
    ap (λ t. t ++ escape xs) (plain_byte x parts.0) ∙ ap (λ t. x ∷ t) (escape-plain xs parts.1)

pub quoted_plain : (s : List ℕ) → list_all is_plain s ≡ true → quoted s ≡ 34 ∷ (s ++ 34 ∷ [])
quoted_plain s e = ap (λ t. 34 ∷ (t ++ 34 ∷ [])) (escape-plain s e)

pub plain_pushed : (out s : List ℕ) → list_all is_plain s ≡ true → ((out ++ 34 ∷ []) ++ s) ++ 34 ∷ [] ≡ out ++ quoted s
plain_pushed out s e =
    append_assoc (out ++ 34 ∷ []) s (34 ∷ []) ∙ append_assoc out (34 ∷ []) (s ++ 34 ∷ []) ∙ ap (λ t. out ++ t) (sym (quoted_plain s e))

-- ---- the texts of errors need no escapes

pub error_plain : (error : Error) → list_all is_plain (error_text error) ≡ true
error_plain UnknownMetaChannel = refl
error_plain _ = refl

-- ---- appending

pub extended : {X E : Type 0} {now more xs : List X} (was : List X) (r : Result (Unit {0}) E) → more ≡ xs → now ≡ cond (is_ok r) (was ++ more) was → OnOk r (now ≡ was ++ xs)
extended was (Ok u) e h = h ∙ ap (λ t. was ++ t) e
extended was (Err x) e h = tt
