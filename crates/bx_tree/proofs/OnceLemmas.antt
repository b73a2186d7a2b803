-- After a change, no pattern occurs twice.
use Rattle.std.proofs.Common.{arith, ◌≡◌, ℕ, suc, ◌<◌, ◌≤◌, length, Bool, true, false, not, ◌&&◌, ◌||◌, cond, Some, List, [], ◌∷◌, ◌++◌, refl, sym, ap, subst, ◌∙◌, append_assoc}
use Rattle.std.specs.List.{All, filter, fold}
use Rattle.std.specs.{Map.keys_of, Map.lookup, Map.remove_entry, Map.values_of, Cmp.nat_cmp_is, Ordering.nat_cmp, BTreeMap.insert_entry, BTreeMap.is_at}
use Rattle.std.specs.declared.cmp.Ordering.TheVariants.{Greater}
use Rattle.std.proofs.lemmas.{Bool.or_parts, List.Folds.list_any-append, List.Sums.fold_more, Grind.common_steps}
use Rattle.bx_names.specs.Words.{Glob, same_glob, same_glob-decides, in_force, with_pattern, without_pattern}
use Rattle.bx_tree.specs.Words.{AreOnce}
use Rattle.bx_tree.proofs.IndexLemmas.{in_force-less, same_glob-sym, without_absent}

-- ---- appended patterns

pub absent_before : (held ps : List Glob) (p : Glob) → AreOnce (held ++ p ∷ ps) → in_force held p ≡ false
absent_before [] ps p once = refl
absent_before (q ∷ held) ps p once =
    let unlike = (or_parts (same_glob q p) (in_force ps q) (or_parts (in_force held q) (same_glob q p || in_force ps q) (sym (list_any-append (same_glob q) held (p ∷ ps)) ∙ once.0)).1).0 in
    rw (same_glob-sym p q ∙ unlike) (absent_before held ps p once.1)

pub once_more : (ps : List Glob) (p : Glob) → AreOnce ps → in_force ps p ≡ false → AreOnce (ps ++ p ∷ [])
once_more [] p once absent = (refl, tt)
once_more (q ∷ ps) p once absent =
    let parts = or_parts (same_glob p q) (in_force ps p) absent in
    let apart : in_force (ps ++ p ∷ []) q ≡ false = list_any-append (same_glob q) ps (p ∷ []) ∙ rw (once.0, same_glob-sym q p, parts.0) refl in
    (apart, once_more ps p once.1 parts.1)

pub all_come : (held ps : List Glob) → AreOnce (held ++ ps) → fold with_pattern held ps ≡ held ++ ps
all_come held [] once = grind (arith, common_steps)
all_come held (p ∷ ps) once =
    let regroup : (held ++ p ∷ []) ++ ps ≡ held ++ p ∷ ps = append_assoc held (p ∷ []) ps in
    rw (absent_before held ps p once) (all_come (held ++ p ∷ []) ps (subst AreOnce (sym regroup) once) ∙ regroup)

-- ---- removed patterns

and_absent : (b c : Bool) → c ≡ false → (b && c) ≡ false
and_absent b c h = grind arith

still_once : (q p : Glob) (ps : List Glob) → in_force ps q ≡ false → AreOnce (without_pattern ps p) → (b : Bool) → same_glob p q ≡ b → AreOnce (without_pattern (q ∷ ps) p)
still_once q p ps absent left true h = rw h left
still_once q p ps absent left false h = rw h (in_force-less ps p q ∙ and_absent (not (same_glob q p)) (in_force ps q) absent, left)

pub once_without : (ps : List Glob) (p : Glob) → AreOnce ps → AreOnce (without_pattern ps p)
once_without [] p once = tt
once_without (q ∷ ps) p once = still_once q p ps once.0 (once_without ps p once.1) (same_glob p q) refl

or_true : (b : Bool) → (b || true) ≡ true
or_true b = grind arith

removed_behind : (q p : Glob) (ps left : List Glob) → in_force ps q ≡ false → in_force ps p ≡ true → left ≡ without_pattern ps p → (b : Bool) → same_glob p q ≡ b → q ∷ left ≡ without_pattern (q ∷ ps) p
removed_behind q p ps left absent here behind true h =
    let is : p ≡ q = (same_glob-decides p q).0 h in
    let same : in_force ps q ≡ true = ap (λ r. in_force ps r) (sym is) ∙ here in
    cc (same, absent)
removed_behind q p ps left absent here behind false h = rw h (ap (λ rs. q ∷ rs) behind)

there_in : (e : ℕ × Glob) (es : List (ℕ × Glob)) (stamp : ℕ) (p : Glob) → (lookup (is_at (nat_cmp stamp)) es ≡ Some p → in_force (values_of es) p ≡ true) → (b : Bool) → cond b (Some e.1) (lookup (is_at (nat_cmp stamp)) es) ≡ Some p → (same_glob p e.1 || in_force (values_of es) p) ≡ true
there_in e es stamp p behind true at =
    let is : e.1 ≡ p = cc in
    rw ((same_glob-decides p e.1).1 (sym is)) refl
there_in e es stamp p behind false at = rw (behind at) (or_true (same_glob p e.1))

there : (es : List (ℕ × Glob)) (stamp : ℕ) (p : Glob) → lookup (is_at (nat_cmp stamp)) es ≡ Some p → in_force (values_of es) p ≡ true
there [] stamp p at = cc
there (e ∷ es) stamp p at = there_in e es stamp p (there es stamp p) (is_at (nat_cmp stamp) e.0) at

removed_in : (e : ℕ × Glob) (es : List (ℕ × Glob)) (stamp : ℕ) (p : Glob) → AreOnce (e.1 ∷ values_of es) → (lookup (is_at (nat_cmp stamp)) es ≡ Some p → values_of (remove_entry (is_at (nat_cmp stamp)) es) ≡ without_pattern (values_of es) p)
    → (b : Bool) → is_at (nat_cmp stamp) e.0 ≡ b → cond b (Some e.1) (lookup (is_at (nat_cmp stamp)) es) ≡ Some p → values_of (cond b es (e ∷ remove_entry (is_at (nat_cmp stamp)) es)) ≡ without_pattern (e.1 ∷ values_of es) p
removed_in e es stamp p once behind true k at =
    let is : e.1 ≡ p = cc in
    rw ((same_glob-decides p e.1).1 (sym is)) (without_absent (values_of es) p (ap (λ r. in_force (values_of es) r) (sym is) ∙ once.0))
removed_in e es stamp p once behind false k at = removed_behind e.1 p (values_of es) (values_of (remove_entry (is_at (nat_cmp stamp)) es)) once.0 (there es stamp p at) (behind at) (same_glob p e.1) refl

pub removed_at : (es : List (ℕ × Glob)) (stamp : ℕ) (p : Glob) → AreOnce (values_of es) → lookup (is_at (nat_cmp stamp)) es ≡ Some p → values_of (remove_entry (is_at (nat_cmp stamp)) es) ≡ without_pattern (values_of es) p
removed_at [] stamp p once at = cc
removed_at (e ∷ es) stamp p once at = removed_in e es stamp p once (λ h. removed_at es stamp p once.1 h) (is_at (nat_cmp stamp) e.0) refl at

pub without_shorter : (ps : List Glob) (p : Glob) → length (without_pattern ps p) ≤ length ps
without_shorter [] p = omega arith
without_shorter (q ∷ qs) p = grind (arith, common_steps, without_shorter qs p)

pub kept_values : (es : List (ℕ × Glob)) (p : Glob) → values_of (filter (λ (e : ℕ × Glob). not (same_glob p e.1)) es) ≡ without_pattern (values_of es) p
kept_values [] p = refl
kept_values (e ∷ es) p = grind (arith, common_steps, kept_values es p)

pub put_last : (es : List (ℕ × Glob)) (stamp : ℕ) (p : Glob) → All (λ (k : ℕ). k < stamp) (keys_of es) → insert_entry nat_cmp es stamp p ≡ es ++ (stamp, p) ∷ []
put_last [] stamp p above = refl
put_last (e ∷ es) stamp p above = rw (sym (nat_cmp_is stamp e.0 Greater (above 0 0 (omega arith)))) (ap (λ l. e ∷ l) (put_last es stamp p (λ k d within. above (suc k) d (omega arith))))

pub values_last : (es : List (ℕ × Glob)) (stamp : ℕ) (p : Glob) → values_of (es ++ (stamp, p) ∷ []) ≡ values_of es ++ p ∷ []
values_last [] stamp p = refl
values_last (e ∷ es) stamp p = ap (λ l. e.1 ∷ l) (values_last es stamp p)

pub once_less : (ps : List Glob) (p : Glob) → AreOnce (ps ++ p ∷ []) → AreOnce ps
once_less [] p once = tt
once_less (q ∷ ps) p once = ((or_parts (in_force ps q) (same_glob q p || false) (sym (list_any-append (same_glob q) ps (p ∷ [])) ∙ once.0)).0, once_less ps p once.1)

pub popped : (es left : List (ℕ × Glob)) (e : ℕ × Glob) → es ≡ left ++ e ∷ [] → AreOnce (values_of es) → AreOnce (values_of left) × (in_force (values_of left) e.1 ≡ false)
popped es left e is once =
    let all : values_of es ≡ values_of left ++ e.1 ∷ [] = ap values_of is ∙ values_last left e.0 e.1 in
    let still = subst AreOnce all once in
    (once_less (values_of left) e.1 still, absent_before (values_of left) [] e.1 still)

pub ruleset taken_out = (fold_more, without_shorter, common_steps)
