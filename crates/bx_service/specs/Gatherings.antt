-- The items that answer a request, and why a request is not admitted.
use Rattle.std.specs.Prelude.{ℕ, ◌≡◌, ◌⊎◌, ◌<◌, false, List, [], ◌∷◌, ◌++◌, map, take, Option, option_and_then, Some, None, Result, Ok, Err}
use Rattle.std.specs.{List.AllByRecursion, List.AllByRecursion-prop, Coded.Unit-prop}
use Rattle.std.proofs.Props.{props}
use mathlib.Core.List.{IsPrefix}
use Rattle.bx_advice.specs.declared.config.Config.{Config}
use Rattle.bx_registry.specs.Slots.{admitted_slots}
use Rattle.bx_entry.specs.Words.{ReadInput, added_by, let_in, read_by, request_messages}
use Rattle.bx_entry.specs.declared.access.Access.{Access}
use Rattle.bx_entry.specs.declared.entry.{Slot.Slot, Ticket.Ticket}
use Rattle.bx_entry.specs.declared.entry.Slot.TheVariants.{Ready, Waiting}
use Rattle.bx_held.specs.Waiting.{IsUnknown}
use Rattle.bx_held.specs.declared.held.PendingAnswer.{PendingAnswer}
use Rattle.bx_hub.specs.Faults.{IsStopped}
use Rattle.bx_hub.specs.Held.{answer_over}
use Rattle.bx_hub.specs.Lags.{IsLagging}
use Rattle.bx_hub.specs.Posts.{IsAdmittedAt, IsRejected}
use Rattle.bx_hub.specs.declared.fault.PostFault.{PostFault}
use Rattle.bx_hub.specs.declared.fault.PostFault.TheVariants.{Memory}
use Rattle.bx_hub.specs.declared.parsed_request.rejection.Rejection.{Rejection}
use Rattle.bx_message.specs.declared.{reply.Answer.Answer, reply.Item.Item}
use Rattle.bx_message.specs.declared.reply.Item.TheVariants.{EventItem, ReplyItem}
use Rattle.bx_entry.specs.Placings.{Setup}
use Rattle.bx_service.specs.declared.{backend.Answered.Answered, backend.Unanswered.Unanswered, gathering.Missing.Missing}
use Rattle.bx_service.specs.declared.backend.Unanswered.TheVariants as unanswered
use Rattle.bx_service.specs.declared.gathering.Missing.TheVariants as missing
use Rattle.bx_service.specs.declared.witness.{HubWitness.HubWitness, Lack.Lack, Stamp.Stamp}
use Rattle.bx_service.specs.declared.witness.HubWitness.TheVariants.{Answering, Lacking, Rejecting}
use Rattle.bx_service.specs.declared.witness.Lack.TheVariants.{Stopped, Unknown}
use Rattle.bx_window.specs.Steps.{list_of}
use Rattle.bx_window.specs.declared.law.LogStep.{LogStep}
use Rattle.bx_window.specs.declared.law.LogId as LogId

-- If the slot waits, its ticket's place is below `end`.
abbrev pub IsBelow : ℕ → Slot → Type 0
IsBelow end (Ready reply) = Unit {0}
IsBelow end (Waiting ticket) = ticket.place < end

-- The places of all waiting slots' tickets are below `end`.
abbrev pub AreBelow : ℕ → List Slot → Type 0
AreBelow end slots = AllByRecursion (IsBelow end) slots

below-prop : (end : ℕ) (slot : Slot) → IsProp (IsBelow end slot)
below-prop end (Ready reply) = Unit-prop
below-prop end (Waiting ticket) = Prim.hlevel props

pub are_below-prop : (end : ℕ) (slots : List Slot) → IsProp (AreBelow end slots)
are_below-prop end slots = AllByRecursion-prop (IsBelow end) (below-prop end) slots

-- The items of an answer: its events, then its reply.
abbrev pub items_of : Answer → List Item
items_of a = map EventItem a.events ++ ReplyItem a.reply ∷ []

-- The slots whose items are to come: that of the pending answer, if any, and then `slots`.
abbrev pub left_in : {L : Type 0} {g : LogId.Ghosts L} → Option (PendingAnswer L g) → List Slot → List Slot
left_in None slots = slots
left_in (Some held) slots = Waiting held.ticket ∷ slots

-- No poll has returned an output of the pending answer, if there is one.
abbrev pub IsUnfinished : {L : Type 0} {g : LogId.Ghosts L} → Option (PendingAnswer L g) → Type 0
IsUnfinished None = Unit {0}
IsUnfinished (Some held) = held.is_done ≡ false

pub is_unfinished-prop : {L : Type 0} {g : LogId.Ghosts L} (held : Option (PendingAnswer L g)) → IsProp (IsUnfinished held)
is_unfinished-prop None = Unit-prop
is_unfinished-prop (Some held) = Prim.hlevel props

-- One of the slots waits under `ticket`.
abbrev pub IsAwaited : Ticket → List Slot → Type 0
IsAwaited ticket [] = ⊥
IsAwaited ticket (Ready reply ∷ slots) = IsAwaited ticket slots
IsAwaited ticket (Waiting other ∷ slots) = (ticket ≡ other) ⊎ IsAwaited ticket slots

module _ (config : Config) (front : List LogStep) where
  -- `there`, followed by the items of each slot, in order: its reply, or the answer that a
  -- single-threaded server gives with the list of `front`. `None` if that list does not yet have
  -- the entry that an answer depends on.
  abbrev pub items_after : List Item → List Slot → Option (List Item)
  items_after there [] = Some there
  items_after there (Ready reply ∷ slots) = items_after (there ++ ReplyItem reply ∷ []) slots
  items_after there (Waiting ticket ∷ slots) = option_and_then (λ a. items_after (there ++ items_of a) slots) (answer_over config front ticket.place)

-- A future had collected `there`, with `slots` left. It now has collected `more`, with `rest` left.
-- Its pass grew from `seen` to `now`. Over each front that extends `now`, all items are the same.
pub record IsOnWay (config : Config) (seen : List LogStep) (there : List Item) (slots : List Slot) (now : List LogStep) (more : List Item) (rest : List Slot) : Type 0 where
  pub grows : IsPrefix seen now
  pub same : (front : List LogStep) → IsPrefix now front → items_after config front there slots ≡ items_after config front more rest
  pub awaited : (ticket : Ticket) → IsAwaited ticket rest → IsAwaited ticket slots

module _ {L : Type 0} (shards : ℕ) where
  -- The evidence shows that the hub gives no answer under `ticket`: a fault stopped its shard, or
  -- no connect or rider is known under it. `front`: what a pass has then seen.
  abbrev pub IsLack : Ticket → List LogStep → Lack L → Type 0
  IsLack ticket front (Stopped evidence) = (evidence.ticket.value ≡ ticket) × IsStopped evidence.fault ticket.shard front
  IsLack ticket front (Unknown evidence) = IsUnknown shards ticket evidence

  -- An answer of `slots` is missing, as the evidence shows, or memory ran out.
  abbrev pub IsMissing : List Slot → Missing L → Type 0
  IsMissing slots (missing.Answer ticket front lack) = IsAwaited ticket slots × IsLack ticket front lack
  IsMissing slots missing.Memory = Unit {0}

-- The items that a single-threaded server gives for `input`. Its entries stand at `first` in the
-- list of `posted`, which determines the replies at once. The list of `seen` determines the answers
-- to connects and riders. `None` if an answer is not given by then.
abbrev pub response_items : Setup → ReadInput → ℕ → List LogStep → List LogStep → Option (List Item)
response_items setup input first posted seen =
    items_after setup.config seen [] (admitted_slots setup (take first (list_of posted)) (added_by input))

-- The request with `documents` and this stamp, as a listener with `access` reads it.
abbrev pub request_of : Access → Stamp → List (List ℕ) → ReadInput
request_of access stamp documents = read_by stamp.moment stamp.nonce (let_in access (request_messages documents))

-- `first`, the place of a request's first message, or `None` if the request has no slots.
abbrev pub place_of : ℕ → List Slot → Option ℕ
place_of first [] = None
place_of first (slot ∷ slots) = Some first

module _ {L : Type 0} {g : LogId.Ghosts L} (config : Config) (stamp : Stamp) (first : ℕ) (posted seen : List LogStep) where
  -- The witness of a future that has collected `there`, and has `slots` left, shows that `items`
  -- are all items. The witness has the future's stamp, its place `first` and the pass `posted`. Its
  -- other pass has seen what the future's pass has seen, `seen`, or more.
  abbrev pub AreGathered : List Item → List Slot → List Item → HubWitness L g → Type 0
  AreGathered there slots items (Answering s f p now) =
      (s ≡ stamp) × (f ≡ first) × (p ≡ posted) × IsPrefix seen now × (items_after config now there slots ≡ Some items)
  AreGathered there slots items (Lacking s f p now ticket lack) = ⊥
  AreGathered there slots items (Rejecting s now rejection) = ⊥

  -- The witness of such a future shows that the answer to one of its `slots` is missing.
  abbrev pub IsMissed : List Slot → HubWitness L g → Type 0
  IsMissed slots (Answering s f p now) = ⊥
  IsMissed slots (Lacking s f p now ticket lack) =
      (s ≡ stamp) × (f ≡ first) × (p ≡ posted) × IsAwaited ticket slots × IsLack config.shards ticket now lack
  IsMissed slots (Rejecting s now rejection) = ⊥

  -- Such a future may have this output: all items, a missing answer, or the error that memory ran
  -- out.
  abbrev pub Gathers : List Item → List Slot → Result (Answered (HubWitness L g)) (Unanswered (HubWitness L g)) → Type 0
  Gathers there slots (Ok answered) = AreGathered there slots answered.items.items answered.witness
  Gathers there slots (Err (unanswered.Unavailable witness)) = IsMissed slots witness
  Gathers there slots (Err unanswered.Memory) = Unit {0}

module _ (tells draws : ℕ → Type 0) where
  -- The clock told the moment of the stamp, and its nonce was drawn.
  pub record IsStamped (stamp : Stamp) : Type 0 where
    pub told : tells stamp.moment
    pub drawn : draws stamp.nonce

  module _ (access : Access) where
    -- The request with `documents` and the stamp was admitted at place `first`, as the pass
    -- `posted` shows. The pass `seen` has seen as much or more. `items` are those that a
    -- single-threaded server gives for the request.
    pub record IsAnsweredOver (setup : Setup) (documents : List (List ℕ)) (items : List Item) (stamp : Stamp) (first : ℕ) (posted seen : List LogStep) : Type 0 where
      pub source : IsStamped stamp
      pub admitted : IsAdmittedAt (request_of access stamp documents) first [] posted
      pub longer : IsPrefix posted seen
      pub given : response_items setup (request_of access stamp documents) first posted seen ≡ Some items

    module _ {L : Type 0} where
      -- The request with `documents` and the stamp was admitted at place `first`, as the pass
      -- `posted` shows. One of its messages waits under `ticket`, and the hub gives no answer.
      -- `seen`: the pass after the poll for the answer.
      pub record IsUnansweredOver (setup : Setup) (documents : List (List ℕ)) (stamp : Stamp) (first : ℕ) (posted seen : List LogStep) (ticket : Ticket) (lack : Lack L) : Type 0 where
        pub source : IsStamped stamp
        pub admitted : IsAdmittedAt (request_of access stamp documents) first [] posted
        pub awaited : IsAwaited ticket (admitted_slots setup (take first (list_of posted)) (added_by (request_of access stamp documents)))
        pub lacks : IsLack setup.config.shards ticket seen lack

    module _ {L : Type 0} {g : LogId.Ghosts L} where
      -- The hub, which accepts up to `most` messages in a request, rejected the request with
      -- `documents` and the stamp because of `fault`. `seen`: what the pass of the call had then
      -- seen. The rejection also shows whether the hub was closed.
      pub record IsRejectedOver (most : ℕ) (documents : List (List ℕ)) (fault : PostFault) (stamp : Stamp) (seen : List LogStep) (rejection : Rejection L g) : Type 0 where
        pub source : IsStamped stamp
        pub named : rejection.fault ≡ fault
        pub refused : IsRejected most (request_of access stamp documents) fault seen
        pub lags : IsLagging fault rejection.lag seen

      -- The witness shows that `items` answer the request with `documents`.
      abbrev pub IsAnsweredWith : Setup → List (List ℕ) → List Item → HubWitness L g → Type 0
      IsAnsweredWith setup documents items (Answering stamp first posted seen) = IsAnsweredOver setup documents items stamp first posted seen
      IsAnsweredWith setup documents items (Lacking stamp first posted seen ticket lack) = ⊥
      IsAnsweredWith setup documents items (Rejecting stamp seen rejection) = ⊥

      -- The witness shows that the hub gives no answer to the request with `documents`.
      abbrev pub IsUnansweredWith : Setup → List (List ℕ) → HubWitness L g → Type 0
      IsUnansweredWith setup documents (Answering stamp first posted seen) = ⊥
      IsUnansweredWith setup documents (Lacking stamp first posted seen ticket lack) = IsUnansweredOver setup documents stamp first posted seen ticket lack
      IsUnansweredWith setup documents (Rejecting stamp seen rejection) = ⊥

      -- The output answers the request with `documents`, as its witness shows, or is the error that
      -- memory ran out.
      abbrev pub IsAnsweredBy : Setup → List (List ℕ) → Result (Answered (HubWitness L g)) (Unanswered (HubWitness L g)) → Type 0
      IsAnsweredBy setup documents (Ok answered) = IsAnsweredWith setup documents answered.items.items answered.witness
      IsAnsweredBy setup documents (Err (unanswered.Unavailable witness)) = IsUnansweredWith setup documents witness
      IsAnsweredBy setup documents (Err unanswered.Memory) = Unit {0}

      -- The witness shows that the hub rejected the request with `documents` because of `fault`.
      -- Without a witness, memory ran out before the hub was asked.
      abbrev pub IsRejectedBy : ℕ → List (List ℕ) → PostFault → Option (HubWitness L g) → Type 0
      IsRejectedBy most documents fault None = fault ≡ Memory
      IsRejectedBy most documents fault (Some (Answering stamp first posted seen)) = ⊥
      IsRejectedBy most documents fault (Some (Lacking stamp first posted seen ticket lack)) = ⊥
      IsRejectedBy most documents fault (Some (Rejecting stamp seen rejection)) = IsRejectedOver most documents fault stamp seen rejection
