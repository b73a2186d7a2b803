-- Which bodies are valid documents, by the values that they read as.
use Rattle.std.proofs.Common.{◌≡◌, ℕ, suc, ◌<◌, ◌≤◌, Bool, true, false, cond, ◌&&◌, nat_lt, List, [], ◌∷◌, length, Some, None, is_some, refl, sym, ap, ◌∙◌, arith}
use Rattle.std.proofs.lemmas.{Bool.lt-ltb, Bool.le-ltb, Str.is_utf8-from_IsUtf8, Str.IsUtf8-from_is_utf8, Grind.common_steps}
use Rattle.std.specs.{List.list_all, Str.IsUtf8, Str.is_utf8}
use Rattle.serde_json.specs.{Read.read, Data.Data, Events.items_len, Find.as_array, Find.as_object, View.view, View.items_view}
use Rattle.serde_json.specs.declared.value.Value.{Value}
use Rattle.bx_cut.specs.Faults.{all_objects, array_fault, value_fault, fault}
use Rattle.bx_cut.specs.declared.error.CutError.TheVariants.{NotJson, NotObject, TooMany}

-- ---- a value

abbrev is_object : Value → Bool
is_object v = is_some (as_object (view v))

all_objects-view : (vs : List Value) → list_all is_object vs ≡ all_objects (items_view vs)
all_objects-view [] = refl
all_objects-view (v ∷ vs) = ap (λ b. is_object v && b) (all_objects-view vs)

items_len-view : (vs : List Value) → items_len (items_view vs) ≡ length vs
items_len-view [] = refl
items_len-view (v ∷ vs) = ap suc (items_len-view vs)

module _ (d : Data) where
  module _ (none : is_some (as_object d) ≡ false) where
    module _ (vs : List Value) (there : Some (items_view vs) ≡ as_array d) where
      in_array : value_fault (Some d) ≡ array_fault (Some (items_view vs))
      in_array = ap (λ b. cond b None (array_fault (as_array d))) none ∙ ap array_fault (sym there)

      pub other_item : list_all is_object vs ≡ false → value_fault (Some d) ≡ Some NotObject
      other_item h = in_array ∙ ap (λ b. cond b (cond (nat_lt 256 (items_len (items_view vs))) (Some TooMany) None) (Some NotObject)) (sym (all_objects-view vs) ∙ h)

      all_pass : list_all is_object vs ≡ true → value_fault (Some d) ≡ cond (nat_lt 256 (length vs)) (Some TooMany) None
      all_pass h = grind (arith, common_steps, in_array, all_objects-view, items_len-view)

      pub too_many : list_all is_object vs ≡ true → 256 < length vs → value_fault (Some d) ≡ Some TooMany
      too_many h l = all_pass h ∙ ap (λ b. cond b (Some TooMany) None) (lt-ltb 256 (length vs) l)

      pub within : list_all is_object vs ≡ true → length vs ≤ 256 → value_fault (Some d) ≡ None
      within h l = all_pass h ∙ ap (λ b. cond b (Some TooMany) None) (le-ltb 256 (length vs) l)

-- ---- the whole body

pub fault-text : (body : List ℕ) → IsUtf8 body → fault body ≡ value_fault (read body)
unfolding fault
fault-text body u = ap (λ b. cond b (value_fault (read body)) (Some NotJson)) (is_utf8-from_IsUtf8 body u)

pub fault-no_text : (body : List ℕ) → (IsUtf8 body → ⊥) → fault body ≡ Some NotJson
unfolding fault
fault-no_text body n = ap (λ b. cond b (value_fault (read body)) (Some NotJson)) (is_false (is_utf8 body) (IsUtf8-from_is_utf8 body))
  where
    is_false : (b : Bool) → (b ≡ true → IsUtf8 body) → b ≡ false
    is_false b h1 = grind (arith, common_steps)

pub ruleset faults = (other_item, too_many, within, common_steps)
