-- What messages and members are, by the grammar of `serde_json`.
use Rattle.std.specs.Prelude.{◌≡◌, ℕ, List, [], ◌∷◌, ◌++◌, length, Some, false, option_and_then, IfSome, ⊤, ◌⊎◌}
use Rattle.std.specs.List.{prefix_len}
use Rattle.json.specs.Word.{is_space}
use Rattle.serde_json.specs.Data.{Data, array, object, Items, no_items, item}
use Rattle.serde_json.specs.{Find.get, Read.read}
use Rattle.bx_cut.specs.Cut.{past_blank}
use Rattle.bx_cut.specs.Pieces.{Object, members, last_member}

-- The text does not begin with whitespace.
abbrev pub BeginsBare : List ℕ → Type 0
BeginsBare t = past_blank t ≡ t

-- The text does not end with whitespace.
abbrev pub EndsBare : List ℕ → Type 0
EndsBare t = (front : List ℕ) (last : ℕ) → t ≡ front ++ (last ∷ []) → is_space last ≡ false

-- The text neither begins nor ends with whitespace.
abbrev pub IsBare : List ℕ → Type 0
IsBare t = BeginsBare t × EndsBare t

-- The text of `o` parses as `d`, and the members of `o` are those of its text. For each name, the
-- value of the last member with that key parses as the one that `get` finds in `d`. Neither the
-- text nor a value has whitespace around it.
pub record IsObjectOf (o : Object) (d : Data) : Type 0 where
  pub reads : read o.0 ≡ Some d
  pub trim : IsBare o.0
  pub own : o.1 ≡ members o.0
  pub finds : (name : List ℕ) → option_and_then read (last_member name o.1) ≡ get name d
  pub bare : (name : List ℕ) → IfSome (last_member name o.1) IsBare

abbrev pub AreObjectsOf : List Object → Items → Type 0
AreObjectsOf [] no_items = ⊤
AreObjectsOf (o ∷ os) (item d ds) = IsObjectOf o d × AreObjectsOf os ds
AreObjectsOf _ _ = ⊥

abbrev pub IsOnlyObject : List Object → Data → Type 0
IsOnlyObject (o ∷ []) d = IsObjectOf o d
IsOnlyObject _ d = ⊥

-- If the value is an array, the messages parse as its elements, in order. If it is an object, the
-- one message parses as this object. Nothing is claimed about other values.
abbrev pub ArePiecesOf : List Object → Data → Type 0
ArePiecesOf os (array ds) = AreObjectsOf os ds
ArePiecesOf os (object ms) = IsOnlyObject os (object ms)
ArePiecesOf os _ = ⊤

-- ---- Nested values

abbrev pub AreTextsOf : List (List ℕ) → Items → Type 0
AreTextsOf [] no_items = ⊤
AreTextsOf (v ∷ vs) (item d ds) = (read v ≡ Some d) × IsBare v × AreTextsOf vs ds
AreTextsOf _ _ = ⊥

-- The texts parse as the elements of an array, in order, and have no whitespace around them. There
-- are none for any other value.
abbrev pub AreElementsOf : List (List ℕ) → Data → Type 0
AreElementsOf vs (array ds) = AreTextsOf vs ds
AreElementsOf vs _ = vs ≡ []

-- ---- Positions of the messages

abbrev pub IsBlank : List ℕ → Type 0
IsBlank w = prefix_len is_space w ≡ length w

-- The text is a closing bracket with whitespace around it.
abbrev pub IsShut : List ℕ → Type 0
IsShut t = (w : List ℕ) × (rest : List ℕ) × (t ≡ w ++ (93 ∷ rest)) × IsBlank w × IsBlank rest

-- The text is the messages in order, followed by the closing bracket. Before the first message is
-- only whitespace, and before each later one only a comma and whitespace.
abbrev mutual
  pub StandsIn : List Object → List ℕ → Type 0
  StandsIn [] t = IsShut t
  StandsIn (o ∷ os) t = (w : List ℕ) × (rest : List ℕ) × (t ≡ w ++ (o.0 ++ rest)) × IsBlank w × GoesOnIn os rest

  pub GoesOnIn : List Object → List ℕ → Type 0
  GoesOnIn [] t = IsShut t
  GoesOnIn (o ∷ os) t = (w : List ℕ) × (rest : List ℕ) × (t ≡ w ++ (44 ∷ rest)) × IsBlank w × (v : List ℕ) × (more : List ℕ) × (rest ≡ v ++ (o.0 ++ more)) × IsBlank v × GoesOnIn os more

-- The text is an array of the messages, in order, between an opening and a closing bracket. Around
-- the brackets, messages and commas is only whitespace.
abbrev pub IsBracketed : List Object → List ℕ → Type 0
IsBracketed os t = (w : List ℕ) × (rest : List ℕ) × (t ≡ w ++ (91 ∷ rest)) × IsBlank w × StandsIn os rest

-- The text is one message with whitespace around it.
abbrev pub IsAlone : List Object → List ℕ → Type 0
IsAlone (o ∷ []) t = (w : List ℕ) × (rest : List ℕ) × (t ≡ w ++ (o.0 ++ rest)) × IsBlank w × IsBlank rest
IsAlone _ t = ⊥

-- The messages are slices of the document, in order: the elements of its array, or its one object.
abbrev pub LieIn : List Object → List ℕ → Type 0
LieIn os t = IsBracketed os t ⊎ IsAlone os t
