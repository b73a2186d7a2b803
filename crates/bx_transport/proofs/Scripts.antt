-- Escapes of separators, from the front of a text.
use Rattle.std.proofs.Common.{◌≡◌, ℕ, ◌+◌, ◌-◌, ◌<◌, ◌⊎◌, inl, inr, Bool, true, false, cond, ◌&&◌, ◌==◌, nat_eq, List, [], ◌∷◌, ◌++◌, length, get_or, take, drop, codes, Some, None, refl, sym, ap, ◌∙◌, arith}
use Rattle.std.proofs.lemmas.{Bool.eqb-true, Bool.false≢true, Bool.and_parts, Option.same_Some}
use Rattle.std.proofs.lemmas.List.{append_assoc, take_all, take_more, drop_more, drop-drop, length-drop}
use Rattle.std.specs.List.{starts_with}
use Rattle.bx_message.specs.Texts.{line_separator, paragraph_separator, script_safe}
use Rattle.bx_transport.specs.Scripts.{escape_at}

-- ---- one byte

abbrev Step : ℕ → List ℕ → Type 0
Step y ys = (script_safe (y ∷ ys) ≡ y ∷ script_safe ys) ⊎ (((226 == y) ≡ true) × (r : List ℕ) × (script_safe (y ∷ ys) ≡ 92 ∷ r))

abbrev pub by_tests : ℕ → List ℕ → Bool → Bool → List ℕ
by_tests y ys a b = cond a (codes "\\u2028" ++ drop 3 (y ∷ script_safe ys)) (cond b (codes "\\u2029" ++ drop 3 (y ∷ script_safe ys)) (y ∷ script_safe ys))

pub safe_by_tests : (y : ℕ) (ys : List ℕ) (a b : Bool) → starts_with nat_eq (y ∷ script_safe ys) line_separator ≡ a → starts_with nat_eq (y ∷ script_safe ys) paragraph_separator ≡ b → script_safe (y ∷ ys) ≡ by_tests y ys a b
safe_by_tests y ys a b e f i = by_tests y ys (e i) (f i)

step : (y : ℕ) (ys : List ℕ) → Step y ys
step y ys = by_case (starts_with nat_eq (y ∷ script_safe ys) line_separator) (starts_with nat_eq (y ∷ script_safe ys) paragraph_separator) refl refl
  where
    by_case : (a b : Bool) → starts_with nat_eq (y ∷ script_safe ys) line_separator ≡ a → starts_with nat_eq (y ∷ script_safe ys) paragraph_separator ≡ b → Step y ys
    by_case true b e f = inr ((and_parts (226 == y) _ e).0, _, safe_by_tests y ys true b e f)
    by_case false true e f = inr ((and_parts (226 == y) _ f).0, _, safe_by_tests y ys false true e f)
    by_case false false e f = inl (safe_by_tests y ys false false e f)

same_start : (c : ℕ) (cs : List ℕ) → (c == 226) ≡ false → (c == 92) ≡ false → ((zs : List ℕ) → starts_with nat_eq (script_safe zs) cs ≡ starts_with nat_eq zs cs) → (xs : List ℕ) → starts_with nat_eq (script_safe xs) (c ∷ cs) ≡ starts_with nat_eq xs (c ∷ cs)
same_start c cs h k more [] = refl
same_start c cs h k more (y ∷ ys) = by_step (step y ys)
  where
    by_step : Step y ys → starts_with nat_eq (script_safe (y ∷ ys)) (c ∷ cs) ≡ starts_with nat_eq (y ∷ ys) (c ∷ cs)
    by_step (inl e) = ap (λ t. starts_with nat_eq t (c ∷ cs)) e ∙ ap (λ b. (c == y) && b) (more ys)
    by_step (inr (e, r, f)) =
        ap (λ t. starts_with nat_eq t (c ∷ cs)) f ∙ ap (λ b. b && starts_with nat_eq r cs) k
        ∙ sym (ap (λ n. (c == n) && starts_with nat_eq ys cs) (sym (eqb-true 226 y e)) ∙ ap (λ b. b && starts_with nat_eq ys cs) h)

same_behind : (d : ℕ) → (d == 226) ≡ false → (d == 92) ≡ false → (xs : List ℕ) → starts_with nat_eq (script_safe xs) (128 ∷ d ∷ []) ≡ starts_with nat_eq xs (128 ∷ d ∷ [])
same_behind d h k = same_start 128 (d ∷ []) refl refl (same_start d [] h k (λ zs. refl))

-- ---- one index of the text

none_here : (a b : Bool) (e f : List ℕ) → cond a (Some e) (cond b (Some f) None) ≡ None → (a ≡ false) × (b ≡ false)
none_here false false e f h = (refl, refl)
none_here _ _ e f h = cc

pub stays : (x : ℕ) (xs : List ℕ) → escape_at (x ∷ xs) ≡ None → script_safe (x ∷ xs) ≡ x ∷ script_safe xs
stays x xs h =
    let parts = none_here (starts_with nat_eq (x ∷ xs) line_separator) (starts_with nat_eq (x ∷ xs) paragraph_separator) (codes "\\u2028") (codes "\\u2029") h in
    let first : starts_with nat_eq (x ∷ script_safe xs) line_separator ≡ false = ap (λ b. (226 == x) && b) (same_behind 168 refl refl xs) ∙ parts.0 in
    let second : starts_with nat_eq (x ∷ script_safe xs) paragraph_separator ≡ false = ap (λ b. (226 == x) && b) (same_behind 169 refl refl xs) ∙ parts.1 in
    safe_by_tests x xs false false first second

-- ---- the next separator

starts_true : (t : List ℕ) (c : ℕ) (cs : List ℕ) → starts_with nat_eq t (c ∷ cs) ≡ true → (r : List ℕ) × (t ≡ c ∷ r) × (starts_with nat_eq r cs ≡ true)
starts_true [] c cs e = absurd (false≢true e)
starts_true (x ∷ xs) c cs e = let parts = and_parts (c == x) (starts_with nat_eq xs cs) e in (xs, ap (λ n. n ∷ xs) (sym (eqb-true c x parts.0)), parts.1)

pub separator_is : (t : List ℕ) (d : ℕ) → starts_with nat_eq t (226 ∷ 128 ∷ d ∷ []) ≡ true → t ≡ 226 ∷ 128 ∷ d ∷ drop 3 t
separator_is t d e =
    let a = starts_true t 226 (128 ∷ d ∷ []) e in
    let b = starts_true a.0 128 (d ∷ []) a.2 in
    let c = starts_true b.0 d [] b.2 in
    let same : t ≡ 226 ∷ 128 ∷ d ∷ c.0 = cc in
    same ∙ ap (λ l. 226 ∷ 128 ∷ d ∷ l) (sym (ap (drop 3) same))

pub escaped : (t e : List ℕ) → escape_at t ≡ Some e → script_safe t ≡ e ++ script_safe (drop 3 t)
escaped t e = by_case (starts_with nat_eq t line_separator) (starts_with nat_eq t paragraph_separator) refl refl
  where
    by_case : (a b : Bool) → starts_with nat_eq t line_separator ≡ a → starts_with nat_eq t paragraph_separator ≡ b → cond a (Some (codes "\\u2028")) (cond b (Some (codes "\\u2029")) None) ≡ Some e
        → script_safe t ≡ e ++ script_safe (drop 3 t)
    by_case true b f g h = ap script_safe (separator_is t 168 f) ∙ ap (λ l. l ++ script_safe (drop 3 t)) (same_Some _ e h)
    by_case false true f g h = ap script_safe (separator_is t 169 g) ∙ ap (λ l. l ++ script_safe (drop 3 t)) (same_Some _ e h)
    by_case false false f g h = cc

-- ---- the whole text

rest_is : (at : ℕ) (text : List ℕ) → take (length text - at) (drop at text) ≡ drop at text
rest_is at text = take_all (length text - at) (drop at text) (omega (arith, length-drop at text))

pub cut_here : (text e : List ℕ) (at : ℕ) → script_safe text ≡ take at text ++ script_safe (drop at text) → Some e ≡ escape_at (take (length text - at) (drop at text)) → script_safe text ≡ take at text ++ (e ++ script_safe (take (length text - (at + 3)) (drop (at + 3) text)))
cut_here text e at h s =
    let here : escape_at (drop at text) ≡ Some e = ap escape_at (sym (rest_is at text)) ∙ sym s in
    let after : drop 3 (drop at text) ≡ take (length text - (at + 3)) (drop (at + 3) text) = drop-drop 3 at text ∙ sym (rest_is (at + 3) text) in
    h ∙ ap (λ l. take at text ++ l) (escaped (drop at text) e here ∙ ap (λ l. e ++ script_safe l) after)

pub goes_on : (text : List ℕ) (at : ℕ) → at < length text → script_safe text ≡ take at text ++ script_safe (drop at text) → None ≡ escape_at (take (length text - at) (drop at text)) → script_safe text ≡ take (at + 1) text ++ script_safe (drop (at + 1) text)
goes_on text at l h s =
    let x = get_or text at 0 in
    let front : drop at text ≡ x ∷ drop (at + 1) text = drop_more text at 0 l in
    let here : escape_at (x ∷ drop (at + 1) text) ≡ None = ap escape_at (sym front ∙ sym (rest_is at text)) ∙ sym s in
    h ∙ ap (λ l. take at text ++ script_safe l) front ∙ ap (λ l. take at text ++ l) (stays x (drop (at + 1) text) here)
    ∙ sym (append_assoc (take at text) (x ∷ []) (script_safe (drop (at + 1) text))) ∙ ap (λ l. l ++ script_safe (drop (at + 1) text)) (sym (take_more text at 0 l))
