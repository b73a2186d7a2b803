-- After a change at one path, no list is empty.
use Rattle.std.proofs.Common.{◌≡◌, ℕ, Bool, true, false, IsTrue, Option, Some, Result, Ok, Err, OnOk, OnErr, List, [], ◌∷◌, length, ◌↔◌, String, string_bytes, refl, ap, ◌∙◌, arith}
use Rattle.std.specs.{Map.update, Map.lookup, Ordering.nat_cmp, String.string_cmp, Cmp.Lexicographic.slice_cmp, Str.bytes_eq}
use Rattle.std.specs.BTreeMap.{BTreeMap, UpdatesBy, get_by_text, is_at}
use Rattle.std.proofs.lemmas.{Map.Text.btree_map_updates_text, Grind.common_steps}
use Rattle.bx_tree.specs.Kept.{is_occupied, is_kept}

pub occupied_if_some : (test : ℕ → Bool) (ns : List (ℕ × ℕ)) (stamp : ℕ) → lookup test ns ≡ Some stamp → is_occupied ns ≡ true
occupied_if_some test [] stamp h = cc
occupied_if_some test (n ∷ ns) stamp h = refl

pub occupied_unless_empty : (ns : List (ℕ × ℕ)) (b : Bool) → (IsTrue b ↔ (length ns ≡ 0)) → b ≡ false → is_occupied ns ≡ true
occupied_unless_empty ns b h1 h2 = grind (arith, common_steps)

pub after_insert : {V E : Type 0} (r : Result V E) (s t : BTreeMap ℕ ℕ) (number stamp : ℕ) → is_occupied s.entries ≡ true → OnOk r (UpdatesBy nat_cmp (nat_cmp number) s t (Some stamp)) → OnErr r (t.entries ≡ s.entries) → is_occupied t.entries ≡ true
after_insert (Ok x) s t number stamp h ok err = occupied_if_some (is_at (nat_cmp number)) t.entries stamp ok.1
after_insert (Err e) s t number stamp h ok err = ap is_occupied err ∙ h

pub kept_after : (path : List ℕ) (before after : List ℕ → Option (BTreeMap ℕ ℕ)) (w : Option (BTreeMap ℕ ℕ)) → ((other : List ℕ) → after other ≡ update bytes_eq before path w other) → is_kept w ≡ true → ((other : List ℕ) → bytes_eq path other ≡ false → is_kept (before other) ≡ true) → (other : List ℕ) → is_kept (after other) ≡ true
kept_after path before after w told own others other = grind (arith, common_steps)

pub after_put : {Y V E : Type 0} (r : Result V E) (path : List ℕ) (m n : BTreeMap (String Y) (BTreeMap ℕ ℕ)) (list : BTreeMap ℕ ℕ) → is_occupied list.entries ≡ true → ((other : List ℕ) → is_kept (get_by_text m other) ≡ true) → OnOk r (UpdatesBy string_cmp (λ k. slice_cmp nat_cmp path (string_bytes k)) m n (Some list)) → OnErr r (n.entries ≡ m.entries) → (other : List ℕ) → is_kept (get_by_text n other) ≡ true
after_put (Ok x) path m n list own others ok err = kept_after path (get_by_text m) (get_by_text n) (Some list) (btree_map_updates_text path m n (Some list) ok) own (λ other e. others other)
after_put (Err e) path m n list own others ok err = λ other. ap (λ es. is_kept (lookup (is_at (λ k. slice_cmp nat_cmp other (string_bytes k))) es)) err ∙ others other
