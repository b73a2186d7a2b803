-- The last member with a given key, found in a loop over the members.
use Rattle.std.proofs.Common.{◌≡◌, ℕ, Bool, cond, List, [], ◌∷◌, ◌++◌, Option, Some, option_map, refl, sym, ap, ◌∙◌, arith}
use Rattle.std.proofs.lemmas.{Bool.false≢true, Slice.Eq.bytes_eq-Decides, Grind.common_steps}
use Rattle.std.specs.{Bool.IsTrue, Borrow.Bor, Option.unwrap_or}
use Rattle.bx_cut.specs.Words.{Member, split_value, then_more, separated, listed, is_name, last_member, elements_inside, spelled}

pub last_member-append : (name : List ℕ) (ms : List Member) (m : Member) → last_member name (ms ++ m ∷ []) ≡ cond (is_name name (spelled m.0)) (Some m.1) (last_member name ms)
last_member-append name [] m = refl
last_member-append name (x ∷ xs) m = grind (arith, common_steps, last_member-append name xs m)

named : (name : List ℕ) (o : Option (List ℕ)) (b : Bool) → (IsTrue b → o ≡ Some name) → (o ≡ Some name → IsTrue b) → is_name name o ≡ b
named name o b h1 h2 = grind (arith, common_steps, bytes_eq-Decides, false≢true)

pub spelled-name : (name value : List ℕ) (b : Bool) → (IsTrue b → spelled value ≡ Some name) × (spelled value ≡ Some name → IsTrue b) → is_name name (spelled value) ≡ b
spelled-name name value b h = named name (spelled value) b h.0 h.1

pub rest_or_nothing : (o : Option (Bor (List ℕ))) (d r : Bor (List ℕ)) → d.now ≡ [] → r ≡ unwrap_or o d → (listed split_value r.now).0 ≡ elements_inside (option_map (λ x. x.now) o)
unfolding separated
rest_or_nothing o d r h1 h2 = grind (arith, common_steps)

pub then_elements : (t : List ℕ) (o : Option (List ℕ)) → (then_more split_value (listed split_value) t o).0 ≡ elements_inside o
then_elements t o = grind (arith, common_steps)

pub one_more : (name : List ℕ) (seen : List Member) (m : Member) (before after : Option (List ℕ)) (b : Bool) → (IsTrue b → spelled m.0 ≡ Some name) × (spelled m.0 ≡ Some name → IsTrue b) → before ≡ last_member name seen
    → after ≡ cond b (Some m.1) before → after ≡ last_member name (seen ++ m ∷ [])
one_more name seen m before after b h e f =
    let test = spelled-name name m.0 b h in
    f ∙ ap (cond b (Some m.1)) e ∙ ap (λ (x : Bool). cond x (Some m.1) (last_member name seen)) (sym test) ∙ sym (last_member-append name seen m)
