-- A JSON object while it is written.
use Rattle.std.specs.Prelude.{ℕ, List, [], ◌∷◌, ◌++◌, Bool, true, false, if◌then◌else◌, codes, refl}
use Rattle.std.specs.Coded.{Coded, code_by, coded×, coded_list, coded_ℕ, coded_bool}
use Rattle.json.specs.Print.{quoted}
use Rattle.bx_message.specs.declared.object.Name.{Name}
use Rattle.bx_message.specs.declared.object.Name.TheVariants.{Ack, Advice, Channel, ClientId, Data, Error, Ext, Id, Interval, Reconnect, Subscription, Successful, SupportedConnectionTypes, Timeout, Version}

-- A JSON object while it is written: all bytes so far, and whether it has no member yet.
pub record OpenObject : Type 0 where
  pub text : List ℕ
  pub is_empty : Bool

-- An open object is encoded as the pair of its fields.
abbrev pub open_object_code : Coded OpenObject
open_object_code =
    code_by (List ℕ × Bool) (coded× (coded_list coded_ℕ) coded_bool) (λ o. (o.text, o.is_empty)) (λ p. record { text = p.0; is_empty = p.1 }) (λ _. refl)

-- A new object after the bytes `before`.
abbrev pub opened : List ℕ → OpenObject
opened before = record { text = before ++ 123 ∷ []; is_empty = true }

-- The comma before the next member, or no byte if that member is the first.
abbrev pub separator : OpenObject → List ℕ
separator o = if o.is_empty then [] else 44 ∷ []

-- The bytes so far, then a comma if the object has members, and the quoted `name` and a colon.
abbrev pub with_name : OpenObject → List ℕ → List ℕ
with_name o name = o.text ++ (separator o ++ (quoted name ++ 58 ∷ []))

-- The object after a member was written. `text`: the bytes so far.
abbrev pub resumed : List ℕ → OpenObject
resumed text = record { text = text; is_empty = false }

-- The object with one more member. `member`: the text of that member.
abbrev pub with_member : OpenObject → List ℕ → OpenObject
with_member o member = resumed (o.text ++ (separator o ++ member))

-- The object with more members, in order. Each is given by its text.
abbrev pub with_members : OpenObject → List (List ℕ) → OpenObject
with_members o [] = o
with_members o (m ∷ ms) = with_members (with_member o m) ms

-- All bytes of an object that is finished: those so far and its closing brace.
abbrev pub closed : OpenObject → List ℕ
closed o = o.text ++ 125 ∷ []

-- The name of a member as it is in JSON, without quotation marks.
abbrev pub name_text : Name → List ℕ
name_text Ack = codes "ack"
name_text Advice = codes "advice"
name_text Channel = codes "channel"
name_text ClientId = codes "clientId"
name_text Data = codes "data"
name_text Error = codes "error"
name_text Ext = codes "ext"
name_text Id = codes "id"
name_text Interval = codes "interval"
name_text Reconnect = codes "reconnect"
name_text Subscription = codes "subscription"
name_text Successful = codes "successful"
name_text SupportedConnectionTypes = codes "supportedConnectionTypes"
name_text Timeout = codes "timeout"
name_text Version = codes "version"
