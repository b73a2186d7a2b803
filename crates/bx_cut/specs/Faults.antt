-- Which documents are rejected, and why.
use Rattle.std.specs.Prelude.{ℕ, List, Bool, true, cond, ◌&&◌, nat_lt, is_some, Option, Some, None}
use Rattle.std.specs.Str.{is_utf8}
use Rattle.serde_json.specs.Data.{Data, Items, no_items, item}
use Rattle.serde_json.specs.{Events.items_len, Find.as_array, Find.as_object, Read.read}
use Rattle.bx_cut.specs.declared.{document.TheConstants.MAX_MESSAGES, error.CutError.CutError}
use Rattle.bx_cut.specs.declared.error.CutError.TheVariants.{NotJson, NotObject, TooMany}

abbrev pub all_objects : Items → Bool
all_objects no_items = true
all_objects (item d ds) = is_some (as_object d) && all_objects ds

-- The fault of an array with these elements, if any: `NotObject` or `TooMany`. With `None`, the
-- fault of a value that is neither an array nor an object: `NotObject`.
abbrev pub array_fault : Option Items → Option CutError
array_fault None = Some NotObject
array_fault (Some ds) = cond (all_objects ds) (cond (nat_lt MAX_MESSAGES (items_len ds)) (Some TooMany) None) (Some NotObject)

abbrev pub value_fault : Option Data → Option CutError
value_fault None = Some NotJson
value_fault (Some d) = cond (is_some (as_object d)) None (array_fault (as_array d))

-- The first fault of a document with the bytes `body`, if any: `NotJson`, `NotObject` or `TooMany`.
unfoldable pub fault : List ℕ → Option CutError
fault body = cond (is_utf8 body) (value_fault (read body)) (Some NotJson)
