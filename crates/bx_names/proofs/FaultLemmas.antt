-- Properties of a text without a fault.
use Rattle.std.proofs.Common.{◌≡◌, ℕ, ◌≤◌, Bool, true, false, cond, IsTrue, Option, Some, None, Ok, List, length, arith, refl}
use Rattle.std.specs.List.{list_any}
use Rattle.bx_names.specs.Words.{segments, is_absolute, is_path, path_fault, read_by, read_name, read_pattern, has_star}
use Rattle.bx_names.specs.declared.{error.NameError.NameError, tail.Tail.TheVariants.Exact}
use Rattle.std.proofs.lemmas.Grind.{common_steps}
use Rattle.bx_names.proofs.{PathLemmas.path_from_absolute, PathLemmas.path_of-segments, GlobLemmas.glob_of-plain, GlobLemmas.glob_text-glob_of}

past_case : {E : Type 0} (test : Bool) (fault : E) (others : Option E) → cond test (Some fault) others ≡ None → (test ≡ false) × (others ≡ None)
past_case true fault others h = (cc, cc)
past_case false fault others h = (refl, h)

-- The text begins with a slash and has at most 256 bytes and 32 segments. This holds of each text
-- without a fault as a name or a pattern.
pub record IsSound (text : List ℕ) : Type 0 where
  pub absolute : IsTrue (is_absolute text)
  pub short : length text ≤ 256
  pub shallow : length (segments text) ≤ 32

pub starless : (text : List ℕ) (own : List (List ℕ)) → path_fault text own ≡ None → list_any has_star own ≡ false
starless text own h = grind (arith, common_steps, past_case)

pub sound_text : (text : List ℕ) (own : List (List ℕ)) → path_fault text own ≡ None → IsSound text
sound_text text own h = grind (arith, common_steps)

pub read_by-ok : {V : Type 0} (fault : Option NameError) (v w : V) → read_by fault v ≡ Ok w → (fault ≡ None) × (v ≡ w)
read_by-ok None v w h = (refl, cc)
read_by-ok (Some fault) v w h = (cc, cc)

-- The `text` is a path with the segments `name`. This holds if `text` parses as the name with these
-- segments.
pub record IsNameText (text : List ℕ) (name : List (List ℕ)) : Type 0 where
  pub path : IsTrue (is_path text)
  pub is : segments text ≡ name

pub name_text : (text : List ℕ) (name : List (List ℕ)) → read_name text ≡ Ok name → IsNameText text name
name_text text name h = grind (arith, common_steps)

pub name_as_pattern : (text : List ℕ) (name : List (List ℕ)) → read_name text ≡ Ok name → read_pattern text ≡ Ok (record { segments = name; tail = Exact })
name_as_pattern text name h = grind (arith, common_steps, read_by-ok, glob_of-plain, starless)

pub ruleset sound = (sound_text, path_from_absolute, path_of-segments, glob_text-glob_of, common_steps)
