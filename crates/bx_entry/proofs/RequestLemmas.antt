-- Reading messages one by one, what a listener allows, and what a request appends to the list.
use Rattle.std.proofs.Common.{◌≡◌, ℕ, ◌+◌, ◌||◌, Bool, true, false, cond, Result, Ok, Err, is_ok, List, [], ◌∷◌, ◌++◌, length, Option, Some, None, option_map, option_and_then, drop, refl, sym, ap, arith, ◌∙◌}
use Rattle.std.proofs.lemmas.List.{append_assoc}
use Rattle.bx_cut.specs.Pieces.{Object}
use Rattle.bx_message.specs.declared.message.Message.{Message}
use Rattle.bx_message.specs.{Fields.message_in, MessageKinds.is_handshake}
use Rattle.bx_entry.specs.Words.{listed_from, Cut, objects_in, objects_of, all_messages, allows_all, let_in}
use Rattle.bx_entry.specs.declared.{access.Access.Access, access.Access.TheVariants.ReadOnly, access.Access.TheVariants.ReadWrite, input.Refusal.Refusal, input.Refusal.TheVariants.Forbidden}

abbrev pub joined : List Message → Option (List Message) → Option (List Message)
joined xs rest = option_map (λ ms. xs ++ ms) rest

abbrev pub chained : Option (List Message) → Option (List Message) → Option (List Message)
chained first rest = option_and_then (λ ms. joined ms rest) first

one_more_by : (xs : List Message) (m : Message) (rest : Option (List Message)) → joined xs (joined (m ∷ []) rest) ≡ joined (xs ++ m ∷ []) rest
one_more_by xs m None = refl
one_more_by xs m (Some ms) = ap (λ ys. Some ys) (sym (append_assoc xs (m ∷ []) ms))

pub one_more : (xs : List Message) (o : Object) (os : List Object) (m : Message) → message_in o.1 ≡ Some m → joined xs (all_messages (o ∷ os)) ≡ joined (xs ++ m ∷ []) (all_messages os)
one_more xs o os m e =
    ap (λ (read : Option Message). joined xs (option_and_then (λ m. joined (m ∷ []) (all_messages os)) read)) e ∙ one_more_by xs m (all_messages os)

joined-nil : (rest : Option (List Message)) → joined [] rest ≡ rest
joined-nil None = refl
joined-nil (Some ms) = refl

joined-chained : (m : Message) (first rest : Option (List Message)) → joined (m ∷ []) (chained first rest) ≡ chained (joined (m ∷ []) first) rest
joined-chained m None rest = refl
joined-chained m (Some ms) None = refl
joined-chained m (Some ms) (Some ns) = refl

after_first : (read : Option Message) (first rest : Option (List Message)) →
    option_and_then (λ m. joined (m ∷ []) (chained first rest)) read ≡ chained (option_and_then (λ m. joined (m ∷ []) first) read) rest
after_first None first rest = refl
after_first (Some m) first rest = joined-chained m first rest

pub all_messages-append : (xs ys : List Object) → all_messages (xs ++ ys) ≡ chained (all_messages xs) (all_messages ys)
all_messages-append [] ys = sym (joined-nil (all_messages ys))
all_messages-append (o ∷ xs) ys =
    ap (λ (rest : Option (List Message)). option_and_then (λ m. joined (m ∷ []) rest) (message_in o.1)) (all_messages-append xs ys)
    ∙ after_first (message_in o.1) (all_messages xs) (all_messages ys)

some-injective : {xs ys : List Message} → Some xs ≡ Some ys → xs ≡ ys
some-injective e = cc

joined-joined : (old ms new : List Message) (rest : Option (List Message)) → old ++ ms ≡ new → joined old (joined ms rest) ≡ joined new rest
joined-joined old ms new None e = refl
joined-joined old ms new (Some ns) e = ap (λ ys. Some ys) (sym (append_assoc old ms ns) ∙ ap (λ xs. xs ++ ns) e)

chained-more : (old new : List Message) (first rest : Option (List Message)) → joined old first ≡ Some new → joined old (chained first rest) ≡ joined new rest
chained-more old new None rest e = cc
chained-more old new (Some ms) rest e = joined-joined old ms new rest (some-injective e)

pub document_more : (old new : List Message) (os rest : List Object) → joined old (all_messages os) ≡ Some new → joined old (all_messages (os ++ rest)) ≡ joined new (all_messages rest)
document_more old new os rest e = ap (joined old) (all_messages-append os rest) ∙ chained-more old new (all_messages os) (all_messages rest) e

chained-none : (rest : Option (List Message)) (first : Option (List Message)) → first ≡ None → chained first rest ≡ None
chained-none rest first e = ap (λ (f : Option (List Message)). chained f rest) e

pub no_document : (os rest : List Object) → all_messages os ≡ None → all_messages (os ++ rest) ≡ None
no_document os rest e = all_messages-append os rest ∙ chained-none (all_messages rest) (all_messages os) e

pub cut_more : (cs : List Cut) (i : ℕ) (x : Cut) (old new : List Message) → drop i cs ≡ x ∷ drop (i + 1) cs → joined old (all_messages (objects_in x)) ≡ Some new
    → joined old (all_messages (objects_of (drop i cs))) ≡ joined new (all_messages (objects_of (drop (i + 1) cs)))
cut_more cs i x old new e added =
    ap (λ (l : List Cut). joined old (all_messages (objects_of l))) e ∙ document_more old new (objects_in x) (objects_of (drop (i + 1) cs)) added

pub cut_none : (cs : List Cut) (i : ℕ) (x : Cut) (old : List Message) → drop i cs ≡ x ∷ drop (i + 1) cs → all_messages (objects_in x) ≡ None
    → joined old (all_messages (objects_of (drop i cs))) ≡ None
cut_none cs i x old e none =
    ap (λ (l : List Cut). joined old (all_messages (objects_of l))) e ∙ ap (joined old) (no_document (objects_in x) (objects_of (drop (i + 1) cs)) none)

-- ---- Listeners

ok_by : (ns ms : List Message) (b : Bool) → cond b (Ok ns) (Err Forbidden) ≡ Ok ms → ns ≡ ms
ok_by ns ms true e = cc
ok_by ns ms false e = cc

pub let_in-ok : (access : Access) (read : Result (List Message) Refusal) (ms : List Message) → let_in access read ≡ Ok ms → read ≡ Ok ms
let_in-ok ReadWrite read ms e = e
let_in-ok (ReadOnly ps) (Ok ns) ms e = ap (λ xs. Ok xs) (ok_by ns ms (allows_all ps ns) e)
let_in-ok (ReadOnly ps) (Err f) ms e = e

pub let_in-is_ok : (access : Access) (read : Result (List Message) Refusal) → is_ok (let_in access read) ≡ true → is_ok read ≡ true
let_in-is_ok ReadWrite read e = e
let_in-is_ok (ReadOnly ps) (Ok ns) e = refl
let_in-is_ok (ReadOnly ps) (Err f) e = e

-- ---- The elements of a request

pub length-listed : (moment nonce : ℕ) (sole seen : Bool) (ms : List Message) → length (listed_from moment nonce sole seen ms) ≡ length ms
length-listed moment nonce sole seen [] = refl
length-listed moment nonce sole seen (m ∷ ms) = omega (arith, length-listed moment nonce sole (seen || is_handshake m) ms)
