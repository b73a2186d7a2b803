-- What judging a message results in.
use Rattle.std.specs.Prelude.{ℕ, ◌≡◌, ⊤, Bool, true, false, List, [], ◌∷◌, fold, is_some, option_to_list, Option}
use Rattle.std.specs.List.{list_any}
use Rattle.bx_names.specs.Faults.{name_fault, pattern_fault}
use Rattle.bx_advice.specs.declared.config.Config.{Config}
use Rattle.bx_message.specs.declared.{message.Message.Message, message.TextMember.TextMember, message_kind.MessageKind.MessageKind}
use Rattle.bx_message.specs.declared.message_kind.MessageKind.TheVariants as message_kinds
use Rattle.bx_entry.specs.declared.entry.{Rider.Rider, Slot.Slot}
use Rattle.bx_entry.specs.Placings.{Setup}
use Rattle.bx_entry.specs.Registry.{PlaceSlot, Verdict, needs_session, slot_with}
use Rattle.bx_roster.specs.Words.{Members, edited, CanEditEach}
use Rattle.bx_roster.specs.declared.{edit.Edit.Edit, edit.Edit.TheVariants.Extend, edit.Edit.TheVariants.Close}
use Rattle.bx_registry.specs.{Rolls.members_after, Slots.given_by}
use Rattle.bx_registry.specs.declared.judge.MessageOutcome.{MessageOutcome}

-- The edit for an accepted message of session `number`. A disconnect closes the session; any other
-- message extends its due moment to `due`.
abbrev pub edit_for : MessageKind → ℕ → ℕ → Edit
edit_for message_kinds.Disconnect number due = Close number
edit_for _ number due = Extend number due

-- Whether a message of this kind, other than a handshake, must name a live session. Only a publish
-- without a client id need not, if `--anonymous` is set.
abbrev pub is_needed : Config → MessageKind → TextMember → Bool
is_needed config message_kinds.Publish client = needs_session config client
is_needed config _ client = true

-- The outcome `j` has the senders, entry kind, rider and slot of the verdict `o` on a message at
-- `place`. Its edit, if any, can be made to the sessions `ms`, and changes them as the verdict
-- does.
pub record IsVerdict (setup : Setup) (ms : Members) (place : ℕ) (o : Verdict) (j : MessageOutcome) : Type 0 where
  pub members : fold edited ms (option_to_list j.edit) ≡ members_after ms o
  pub can : CanEditEach ms (option_to_list j.edit)
  pub behind : j.senders ≡ o.state.senders
  pub what : j.kind ≡ o.kind
  pub rider : j.rides ≡ o.rides
  pub answer : given_by setup place o.slot ≡ j.slot ∷ []

-- `rides` is `rider`. `slot` is that of `answer` for a message at `place` or, if there is a rider,
-- the ticket for the answer of the rider's session.
pub record IsRidden (setup : Setup) (place : ℕ) (rider : Option Rider) (answer : PlaceSlot) (rides : Option Rider) (slot : Slot) : Type 0 where
  pub same : rides ≡ rider
  pub answered : given_by setup place (slot_with rider answer) ≡ slot ∷ []

-- Whether some text is not a valid pattern.
abbrev pub has_fault : List (List ℕ) → Bool
has_fault texts = list_any (λ text. is_some (pattern_fault text)) texts

-- The patterns of a subscription or an unsubscription, and the channel of a publish, are valid.
-- Nothing is claimed of other messages.
abbrev pub AreReadable : MessageKind → Message → Type 0
AreReadable message_kinds.Subscribe message = has_fault message.texts ≡ false
AreReadable message_kinds.Unsubscribe message = has_fault message.texts ≡ false
AreReadable message_kinds.Publish message = is_some (name_fault message.channel) ≡ false
AreReadable _ message = ⊤
