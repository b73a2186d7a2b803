-- Matching by texts: the name must begin with the pattern's text, and the rest decides.
use Rattle.std.proofs.Common.{◌≡◌, ◌≢◌, ℕ, ◌+◌, ◌<◌, ◌==◌, ◌&&◌, Bool, true, false, nat_lt, eqb, IsTrue, List, [], ◌∷◌, ◌++◌, length, take, drop, refl, sym, ap, ◌∙◌, arith, append-nil, cond, get_or, zero, suc, ◌≤◌, Option, Some, None, MatchOption, length-append}
use Rattle.std.specs.{Bool.Decides, Bool.one_answer, List.starts_with, Str.bytes_eq, List.onto_first, Option.option_eq}
use Rattle.std.proofs.lemmas.{Bool.Decides.Decides-eqb, Bool.Decides.Decides-ltb, Slice.Eq.bytes_eq-Decides, Slice.Eq.starts_is, List.append_cancel_left, List.nil_from_length, Bool.false≢true, Bool.and_parts}
use Rattle.bx_names.specs.Words.{is_slash, parts, segments, is_absolute, is_path, path_of, same_segments, matches_by, same_segments-decides}
use Rattle.bx_names.specs.declared.tail.Tail.{Tail}
use Rattle.bx_names.specs.declared.tail.Tail.TheVariants.{Exact, One, Many}
use Rattle.bx_names.proofs.PathLemmas.{segments-append, path_of-append, path_of-segments, parts_some, slash-is}
use Rattle.std.proofs.lemmas.Grind.{common_steps}

-- ---- texts that begin with another

and_true : (a b : Bool) → a ≡ true → b ≡ true → (a && b) ≡ true
and_true a b h1 h2 = grind (arith, common_steps)

false_if : (b : Bool) → (b ≡ true → ⊥) → b ≡ false
false_if b h1 = grind (arith, common_steps)

pub segments_some : (text : List ℕ) → IsTrue (is_absolute text) → 0 < length (segments text)
segments_some text h1 = grind (arith, common_steps, parts_some)

path_of-absolute : (ss : List (List ℕ)) → 0 < length ss → IsTrue (is_absolute (path_of ss))
path_of-absolute [] h = absurd (omega arith)
path_of-absolute (s ∷ ss) h = refl

segments-longer : (own rest : List ℕ) → IsTrue (is_absolute rest) → segments (own ++ rest) ≡ segments own ++ segments rest
segments-longer own rest h1 = grind (arith, common_steps, slash-is, segments-append)

begins_if : (own rest : List (List ℕ)) (name : List (List ℕ)) → name ≡ own ++ rest → starts_with bytes_eq name own ≡ true
begins_if own rest name h = (starts_is bytes_eq-Decides name own (starts_with bytes_eq name own) refl).1 rest h

record Longer (own name : List ℕ) : Type 0 where
  more : List (List ℕ)
  by_segments : segments name ≡ segments own ++ more
  by_text : name ≡ own ++ path_of more

longer : (own name : List ℕ) → IsTrue (is_path own) → IsTrue (is_path name) → starts_with bytes_eq (segments name) (segments own) ≡ true → Longer own name
longer own name own_path name_path h =
    let more = drop (length (segments own)) (segments name) in
    let e = (starts_is bytes_eq-Decides (segments name) (segments own) (starts_with bytes_eq (segments name) (segments own)) refl).0 h in
    record {
      more = more;
      by_segments = e;
      by_text = sym (path_of-segments name name_path) ∙ ap path_of e ∙ path_of-append (segments own) more ∙ ap (λ text. text ++ path_of more) (path_of-segments own own_path);
    }

-- ---- a name that does not begin with the pattern's text

same_text : (own name : List ℕ) → IsTrue (is_path own) → IsTrue (is_path name) → same_segments (segments own) (segments name) ≡ true → own ≡ name
same_text own name own_path name_path h = sym (path_of-segments own own_path) ∙ ap path_of ((same_segments-decides (segments own) (segments name)).0 h) ∙ path_of-segments name name_path

pub matches-miss : (own name : List ℕ) → IsTrue (is_path own) → IsTrue (is_path name) → ((rest : List ℕ) → name ≢ own ++ rest) → (tail : Tail) → matches_by tail (segments own) (segments name) ≡ false
matches-miss own name own_path name_path miss Exact =
    false_if _ (λ h. miss [] (sym (same_text own name own_path name_path h) ∙ sym (append-nil own)))
matches-miss own name own_path name_path miss One =
    false_if _ (λ h. miss _ (longer own name own_path name_path (and_parts (length (segments name) == length (segments own) + 1) _ h).1).by_text)
matches-miss own name own_path name_path miss Many =
    false_if _ (λ h. miss _ (longer own name own_path name_path (and_parts (nat_lt (length (segments own)) (length (segments name))) _ h).1).by_text)

-- ---- a name that begins with the pattern's text

module _ (own name rest : List ℕ) (own_path : IsTrue (is_path own)) (name_path : IsTrue (is_path name)) (is : name ≡ own ++ rest) where
  rest_empty : same_segments (segments own) (segments name) ≡ true → length rest ≡ 0
  rest_empty h = ap length (append_cancel_left own rest [] (sym is ∙ sym (same_text own name own_path name_path h) ∙ sym (append-nil own)))

  same_if_empty : length rest ≡ 0 → same_segments (segments own) (segments name) ≡ true
  same_if_empty h = (same_segments-decides (segments own) (segments name)).1 (ap segments (sym (is ∙ ap (λ text. own ++ text) (nil_from_length rest h) ∙ append-nil own)))

  pub matches-exact : (length rest == 0) ≡ matches_by Exact (segments own) (segments name)
  matches-exact = one_answer (length rest == 0) (same_segments (segments own) (segments name)) (Decides-eqb (length rest) 0) (rest_empty, same_if_empty)

  rest_is : (l : Longer own name) → rest ≡ path_of l.more
  rest_is l = append_cancel_left own rest (path_of l.more) (sym is ∙ l.by_text)

  split_if : IsTrue (is_absolute rest) → segments name ≡ segments own ++ segments rest
  split_if h = ap segments is ∙ segments-longer own rest h

  absolute_if_many : matches_by Many (segments own) (segments name) ≡ true → IsTrue (is_absolute rest)
  absolute_if_many h =
      let fewer = (Decides-ltb (length (segments own)) (length (segments name))).0 (and_parts _ (starts_with bytes_eq (segments name) (segments own)) h).0 in
      let l = longer own name own_path name_path (and_parts (nat_lt (length (segments own)) (length (segments name))) _ h).1 in
      rw (rest_is l) (path_of-absolute l.more (omega (arith, ap length l.by_segments, length-append (segments own) l.more)))

  many_if_absolute : IsTrue (is_absolute rest) → matches_by Many (segments own) (segments name) ≡ true
  many_if_absolute h = grind (arith, common_steps, segments_some, and_true, split_if, length-append, begins_if)

  pub matches-many : is_absolute rest ≡ matches_by Many (segments own) (segments name)
  matches-many = one_answer {P = IsTrue (is_absolute rest)} (is_absolute rest) (matches_by Many (segments own) (segments name)) (λ h. h, λ h. h) (absolute_if_many, many_if_absolute)

  one_is : matches_by One (segments own) (segments name) ≡ true → (is_absolute rest && (length (segments rest) == 1)) ≡ true
  one_is h =
      let count = (Decides-eqb (length (segments name)) (length (segments own) + 1)).0 (and_parts _ (starts_with bytes_eq (segments name) (segments own)) h).0 in
      let l = longer own name own_path name_path (and_parts (length (segments name) == length (segments own) + 1) _ h).1 in
      let single : length l.more ≡ 1 = omega (arith, ap length l.by_segments, length-append (segments own) l.more) in
      let absolute : IsTrue (is_absolute rest) = rw (rest_is l) (path_of-absolute l.more (omega arith)) in
      let same = append_cancel_left (segments own) (segments rest) l.more (sym (split_if absolute) ∙ l.by_segments) in
      and_true (is_absolute rest) (length (segments rest) == 1) absolute ((Decides-eqb (length (segments rest)) 1).1 (ap length same ∙ single))

  one_if : (is_absolute rest && (length (segments rest) == 1)) ≡ true → matches_by One (segments own) (segments name) ≡ true
  one_if h = grind (arith, common_steps, and_parts, and_true, split_if, length-append, begins_if)

  pub matches-one : (is_absolute rest && (length (segments rest) == 1)) ≡ matches_by One (segments own) (segments name)
  matches-one = one_answer {P = matches_by One (segments own) (segments name) ≡ true} (is_absolute rest && (length (segments rest) == 1)) (matches_by One (segments own) (segments name)) (one_if, one_is) (λ h. h, λ h. h)

-- ---- a text with one slash, at its start

-- The last slash of a text is at this index.
abbrev pub IsLastSlash : List ℕ → ℕ → Type 0
IsLastSlash text k = (k < length text) × (get_or text k 0 ≡ 47) × ((i : ℕ) → k < i → i < length text → get_or text i 0 ≢ 47)

whole_step : (x : ℕ) (xs : List ℕ) (ps : List (List ℕ)) (slash : Bool) → (slash ≡ true → ⊥) → ps ≡ xs ∷ [] → cond slash ([] ∷ ps) (onto_first x ps) ≡ (x ∷ xs) ∷ []
whole_step x xs ps slash h1 h2 = grind (arith, common_steps)

parts_one : (xs : List ℕ) → ((i : ℕ) → i < length xs → get_or xs i 0 ≢ 47) → parts xs ≡ xs ∷ []
parts_one [] none = refl
parts_one (x ∷ xs) none = whole_step x xs (parts xs) (is_slash x) (λ slash. none 0 (omega arith) (slash-is x slash)) (parts_one xs (λ i below. none (suc i) (omega arith)))

length-onto_first : (x : ℕ) (ps : List (List ℕ)) → length ps ≤ length (onto_first x ps)
length-onto_first x ps = grind (arith, common_steps)

two_step : (x : ℕ) (ps : List (List ℕ)) (slash : Bool) → 1 < length ps → 1 < length (cond slash ([] ∷ ps) (onto_first x ps))
two_step x ps slash h1 = grind (arith, common_steps, length-onto_first)

parts_two : (xs : List ℕ) (i : ℕ) → i < length xs → get_or xs i 0 ≡ 47 → 1 < length (parts xs)
parts_two [] i below slash = absurd (omega arith)
parts_two (x ∷ xs) zero below slash = let is : is_slash x ≡ true = rw slash refl in rw is (omega (arith, parts_some xs))
parts_two (x ∷ xs) (suc i) below slash = two_step x (parts xs) (is_slash x) (parts_two xs i (omega arith) slash)

slash_at_start : (x : ℕ) (xs : List ℕ) (k : ℕ) → get_or (x ∷ xs) k 0 ≡ 47 → k ≡ 0 → is_slash x ≡ true
slash_at_start x xs k h1 h2 = grind (arith, common_steps)

one_if_first : (text : List ℕ) (k : ℕ) → IsLastSlash text k → k ≡ 0 → (is_absolute text && (length (segments text) == 1)) ≡ true
one_if_first [] k last start = absurd (omega (arith, last.0))
one_if_first (x ∷ xs) k last start =
    let slash : is_slash x ≡ true = slash_at_start x xs k last.1 start in
    and_true (is_slash x) (length (parts xs) == 1) slash (ap (λ ps. length ps == 1) (parts_one xs (λ i below. last.2 (suc i) (omega (arith, start)) (omega arith))))

none_if_later : (text : List ℕ) (k : ℕ) → IsLastSlash text k → (k ≡ 0 → ⊥) → (is_absolute text && (length (segments text) == 1)) ≡ false
none_if_later text k h1 h2 = grind (arith, common_steps, false_if, and_parts, parts_two)

none_if_absent : (text : List ℕ) → ((i : ℕ) → i < length text → get_or text i 0 ≢ 47) → (is_absolute text && (length (segments text) == 1)) ≡ false
none_if_absent text h1 = grind (arith, common_steps, false_if, slash-is, and_parts)

one_by_test : (text : List ℕ) (k : ℕ) (test : Bool) → IsLastSlash text k → Decides test (k ≡ 0) → test ≡ (is_absolute text && (length (segments text) == 1))
one_by_test text k true last is = sym (one_if_first text k last (is.0 refl))
one_by_test text k false last is = sym (none_if_later text k last (λ start. false≢true (is.1 start)))

pub one_by_last_slash : (text : List ℕ) (r : Option ℕ) → MatchOption r ((i : ℕ) → i < length text → get_or text i 0 ≢ 47) (IsLastSlash text) → option_eq eqb r (Some 0) ≡ (is_absolute text && (length (segments text) == 1))
one_by_last_slash text None none = sym (none_if_absent text none)
one_by_last_slash text (Some k) last = one_by_test text k (eqb k 0) last (Decides-eqb k 0)

-- ---- matching of equal patterns and names

pub matches_at : {s t : Tail} {ss ts : List (List ℕ)} {ms ns : List (List ℕ)} → s ≡ t → ss ≡ ts → ms ≡ ns → matches_by s ss ms ≡ matches_by t ts ns
matches_at {s} {t} {ss} {ts} {ms} {ns} p q r = ap (λ x. matches_by x ss ms) p ∙ ap (λ x. matches_by t x ms) q ∙ ap (λ x. matches_by t ts x) r

-- ---- matching as a property of lists

pub exact_decides : (own name : List (List ℕ)) → Decides (matches_by Exact own name) (name ≡ own)
exact_decides own name = let same = same_segments-decides own name in (λ h. sym (same.0 h), λ h. same.1 (sym h))

pub one_decides : (own name : List (List ℕ)) → Decides (matches_by One own name) ((length name ≡ length own + 1) × (take (length own) name ≡ own))
one_decides own name =
    let count = Decides-eqb (length name) (length own + 1) in
    let same = same_segments-decides own (take (length own) name) in (
      λ h. (count.0 (and_parts _ (starts_with bytes_eq name own) h).0, sym (same.0 (and_parts (length name == length own + 1) _ h).1)),
      λ h. and_true (length name == length own + 1) (starts_with bytes_eq name own) (count.1 h.0) (same.1 (sym h.1)),
    )

pub many_decides : (own name : List (List ℕ)) → Decides (matches_by Many own name) ((rest : List (List ℕ)) × (0 < length rest) × (name ≡ own ++ rest))
many_decides own name =
    let count = Decides-ltb (length own) (length name) in
    let starts = starts_is bytes_eq-Decides name own (starts_with bytes_eq name own) refl in (
      λ h.
          let fewer = count.0 (and_parts _ (starts_with bytes_eq name own) h).0 in
          let rest = drop (length own) name in
          let is = starts.0 (and_parts (nat_lt (length own) (length name)) _ h).1 in
          (rest, omega (arith, ap length is, length-append own rest), is),
      λ h. and_true (nat_lt (length own) (length name)) (starts_with bytes_eq name own) (count.1 (omega (arith, h.1, ap length h.2, length-append own h.0))) (starts.1 h.0 h.2),
    )
