-- The size of an event's text if its channel needs no escapes.
use Rattle.std.proofs.Common.{◌≡◌, ℕ, ◌+◌, true, List, [], ◌∷◌, ◌++◌, length, codes, Option, Some, None, ap, ◌∙◌, arith}
use Rattle.std.specs.List.{list_all}
use Rattle.std.proofs.lemmas.{Grind.common_steps, List.length-append}
use Rattle.json.specs.{Run.is_plain, Print.escape_byte, Print.quoted}
use Rattle.bx_message.specs.declared.event.Event.{Event}
use Rattle.bx_message.specs.Events.{member, object, raw_member, event_size}
use Rattle.bx_message.proofs.ObjectLemmas.{quoted_plain}

abbrev sized : List ℕ → List ℕ → Option (List ℕ) → ℕ
sized channel payload id = length (object (member (codes "channel") channel ∷ (member (codes "data") payload ∷ raw_member (codes "id") id)))

without : (channel payload : List ℕ) → sized (34 ∷ (channel ++ 34 ∷ [])) payload None ≡ length channel + length payload + 22
unfolding escape_byte
without channel payload = grind (arith, common_steps, length-append)

within : (channel payload id : List ℕ) → sized (34 ∷ (channel ++ 34 ∷ [])) payload (Some id) ≡ length channel + length payload + 22 + length id + 6
unfolding escape_byte
within channel payload id = grind (arith, common_steps, length-append)

pub size_without_id : (e : Event) → list_all is_plain e.channel ≡ true → e.id ≡ None → event_size e ≡ length e.channel + length e.payload + 22
unfolding event_size
size_without_id e plain none =
    ap (λ (id : Option (List ℕ)). sized (quoted e.channel) e.payload id) none ∙ ap (λ (c : List ℕ). sized c e.payload None) (quoted_plain e.channel plain) ∙ without e.channel e.payload

pub size_with_id : (e : Event) (id : List ℕ) → list_all is_plain e.channel ≡ true → e.id ≡ Some id → event_size e ≡ length e.channel + length e.payload + 22 + length id + 6
unfolding event_size
size_with_id e id plain some =
    ap (λ (given : Option (List ℕ)). sized (quoted e.channel) e.payload given) some ∙ ap (λ (c : List ℕ). sized c e.payload (Some id)) (quoted_plain e.channel plain) ∙ within e.channel e.payload id
