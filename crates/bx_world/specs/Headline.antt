-- What a world guarantees for every schedule, first state, number of shards and placing.
use Rattle.std.specs.Prelude.{ℕ, ◌+◌, ◌≡◌, ◌<◌, ◌≤◌, ◌⊎◌, ◌==◌, false, List, [], ◌∷◌, ◌++◌, length, take, drop, find, Some, ⊤}
use Rattle.bx_advice.specs.declared.config.Config.{Config}
use Rattle.bx_message.specs.declared.reply.Answer.{Answer}
use Rattle.bx_message.specs.declared.reply.AckReply.TheVariants.{AckNumber}
use Rattle.bx_entry.specs.Words.{Listed, ReadInput, Request, added_by, read_input, Waiting, entries, Filed, batch, session, answer, events_of}
use Rattle.bx_entry.specs.declared.{entry.Slot.Slot, entry.Ticket.Ticket, input.Input.Input}
use Rattle.bx_entry.specs.declared.entry.Slot.TheVariants as answers
use Rattle.bx_theory.specs.Fronts.{AsksAgain, done_at, session_before, slot_at}
use Rattle.bx_theory.specs.Fronts as fronts
use Rattle.bx_theory.specs.Laws.{AllBelow}
use Rattle.bx_entry.specs.Placings.{Setup}
use Rattle.bx_world.specs.Worlds.{WorldState, Runs}
use Rattle.bx_world.specs.Schedules.{admitted_in, EachTook, EachNew, taken_places}
use Rattle.bx_world.specs.declared.step.{Step.Step, StepOut.StepOut}
use Rattle.bx_world.specs.declared.step.Step.TheVariants.{Admit, Apply, Take}
use Rattle.bx_world.specs.declared.step.StepOut.TheVariants.{Admitted, Taken}

-- ---- Immediate replies

-- `t` is the ticket for the connect or rider at `here`: it has the place `here` and the shard of
-- the session.
pub record IsTicket (setup : Setup) (list : List Listed) (here : ℕ) (t : Ticket) : Type 0 where
  pub session : ℕ
  pub waits : slot_at setup.config list here ≡ Some (Waiting session)
  pub place : t.place ≡ here
  pub shard : t.shard ≡ setup.placing session setup.shards

-- The slot is right for the message at `place`. If the slot has a reply, the definition `answer`
-- gives this reply, at once and without events. Otherwise the slot has the ticket of the message.
abbrev pub IsSlot : Setup → List Listed → ℕ → Slot → Type 0
IsSlot setup list place (answers.Ready reply) = answer setup.config list place ≡ Some (record { place = place; events = []; reply = reply })
IsSlot setup list place (answers.Waiting ticket) = IsTicket setup list place ticket

-- Each slot of a list is right for its message, as `IsSlot` defines. The first message is at
-- `place`, and the others follow in order.
abbrev pub EachSlot : Setup → List Listed → ℕ → List Slot → Type 0
EachSlot setup list place [] = ⊤
EachSlot setup list place (slot ∷ slots) = IsSlot setup list place slot × EachSlot setup list (place + 1) slots

-- The number of messages in an input. It is 0 for a tick, and for a request that cannot be read.
abbrev pub asked_by : ReadInput → ℕ
asked_by (Request moment nonce messages) = length messages
asked_by _ = 0

-- The messages or the tick of the admitted `input` are in `list` from place `first` on. `slots` has
-- the right slot for each message, in order.
pub record IsAdmitted (setup : Setup) (list : List Listed) (input : ReadInput) (first : ℕ) (slots : List Slot) : Type 0 where
  pub listed : take (length (added_by input)) (drop first list) ≡ added_by input
  pub many : length slots ≡ asked_by input
  pub each : EachSlot setup list first slots

-- If the output is an admission, the input is in the list, and the output has the right slot for
-- each of the input's messages.
abbrev pub RepliedBy : Setup → List Listed → Input → StepOut → Type 0
RepliedBy setup list input (Admitted first slots) = IsAdmitted setup list (read_input input) first slots
RepliedBy setup list input _ = ⊤

-- If the step is an admission that succeeds, its input is in the list. The output then has the
-- right slot for each message of the input.
abbrev pub Replied : Setup → List Listed → Step → StepOut → Type 0
Replied setup list (Admit input) out = RepliedBy setup list input out
Replied setup list (Apply shard) out = ⊤
Replied setup list (Take ticket) out = ⊤

-- For each admission of a schedule that succeeds, the input is in the list. The output of the
-- admission has the right slot for each message of the input.
abbrev pub EachReplied : Setup → List Listed → List Step → List StepOut → Type 0
EachReplied setup list [] outs = ⊤
EachReplied setup list (step ∷ steps) [] = ⊤
EachReplied setup list (step ∷ steps) (out ∷ outs) = Replied setup list step out × EachReplied setup list steps outs

-- Under every schedule, each immediate reply is that of a server that handles one message at a
-- time.
abbrev pub RepliesAreAnswers : Type 0
RepliesAreAnswers = (setup : Setup) (first : WorldState) (steps : List Step) (outs : List StepOut) (last : WorldState) → 0 < setup.config.limits.batch →
    Runs setup first steps outs last → EachReplied setup last.list steps outs

-- ---- Taken answers

-- The output is a taken answer, which is `answer`.
abbrev pub GaveIn : Answer → StepOut → Type 0
GaveIn answer (Taken (Some a)) = a ≡ answer
GaveIn answer _ = ⊥

-- The step took `answer`, the answer to the connect or rider at `place`.
abbrev pub GaveBy : ℕ → Answer → Step → StepOut → Type 0
GaveBy place answer (Take t) out = (t.place ≡ place) × GaveIn answer out
GaveBy place answer _ out = ⊥

-- Some step of the schedule took `answer`, the answer to the connect or rider at `place`.
abbrev pub Gave : List Step → List StepOut → ℕ → Answer → Type 0
Gave [] outs place answer = ⊥
Gave (step ∷ steps) [] place answer = ⊥
Gave (step ∷ steps) (out ∷ outs) place answer = GaveBy place answer step out ⊎ Gave steps outs place answer

-- ---- Repeated acknowledgements

-- In the list, the connect at `place` gets the outstanding batch again (`repeated`): the events and
-- the number of the answer to an earlier connect, the one at `former`. Answers that the schedule
-- takes for the two connects have that number and those events.
pub record GivenAgain (config : Config) (list : List Listed) (steps : List Step) (outs : List StepOut) (number place : ℕ) : Type 0 where
  pub repeated : fronts.GivenAgain config list number place
  pub given : (a : Answer) → Gave steps outs place a → a.events ≡ events_of (batch (session_before config list number place))
  pub numbered : (a : Answer) → Gave steps outs repeated.former a → a.reply.ack ≡ AckNumber (session_before config list number place).num
  pub numbered_again : (a : Answer) → Gave steps outs place a → a.reply.ack ≡ AckNumber (session_before config list number place).num
  pub same : (a b : Answer) → Gave steps outs repeated.former a → Gave steps outs place b → b.events ≡ a.events

-- Under every schedule, a connect that acknowledges nothing new gets the outstanding batch again.
abbrev pub BatchesRepeat : Type 0
BatchesRepeat = (setup : Setup) (first : WorldState) (steps : List Step) (outs : List StepOut) (last : WorldState) → 0 < setup.config.limits.batch →
    Runs setup first steps outs last → (number place : ℕ) → AsksAgain setup.config last.list number place → GivenAgain setup.config last.list steps outs number place

-- ---- No event again

-- `a` is the answer that session `number` filed for the connect or rider at `connect`. Each event
-- of `a` was published after every event that was already acknowledged or, if the session does not
-- acknowledge, sent.
pub record GivenLater (config : Config) (list : List Listed) (number connect : ℕ) (a : Answer) : Type 0 where
  pub filed : Filed
  pub found : find (λ (f : Filed). f.connect == connect) (session config number (entries config list)).answers ≡ Some filed
  pub given : a ≡ record { events = events_of filed.publications; reply = filed.reply }
  pub later : (n : ℕ) → n ≤ filed.place → AllBelow (take (done_at config list number n) (session config number (entries config list)).events) filed.publications

-- Under every schedule, no taken answer has an event that was acknowledged before it or, if the
-- session does not acknowledge, sent before it.
abbrev pub NoneGivenAgain : Type 0
NoneGivenAgain = (setup : Setup) (first : WorldState) (steps : List Step) (outs : List StepOut) (last : WorldState) → 0 < setup.config.limits.batch →
    Runs setup first steps outs last → (number place : ℕ) (a : Answer) → slot_at setup.config last.list place ≡ Some (Waiting number) → Gave steps outs place a →
    GivenLater setup.config last.list number place a

-- `a` and `b` are the answers that session `number` filed for the connects or riders at `connect`
-- and `later`. All events of `a` were published before those of `b`.
pub record GivenApart (config : Config) (list : List Listed) (number : ℕ) (connect later : ℕ) (a b : Answer) : Type 0 where
  pub filed : Filed
  pub next : Filed
  pub found : find (λ (f : Filed). f.connect == connect) (session config number (entries config list)).answers ≡ Some filed
  pub found_next : find (λ (f : Filed). f.connect == later) (session config number (entries config list)).answers ≡ Some next
  pub given : a ≡ record { events = events_of filed.publications; reply = filed.reply }
  pub given_next : b ≡ record { events = events_of next.publications; reply = next.reply }
  pub apart : AllBelow filed.publications next.publications

-- Under every schedule, no event is in two answers of a session that does not acknowledge.
abbrev pub PlainGivenOnce : Type 0
PlainGivenOnce = (setup : Setup) (first : WorldState) (steps : List Step) (outs : List StepOut) (last : WorldState) → 0 < setup.config.limits.batch →
    Runs setup first steps outs last → (number place later : ℕ) (a b : Answer) → place < later → (session setup.config number (entries setup.config last.list)).ack ≡ false →
    slot_at setup.config last.list place ≡ Some (Waiting number) → slot_at setup.config last.list later ≡ Some (Waiting number) → Gave steps outs place a → Gave steps outs later b →
    GivenApart setup.config last.list number place later a b

-- ---- The theorem

-- A schedule that runs from the world `first` to the world `last` has the results of a server that
-- handles one message at a time.
pub record AsOneThread (setup : Setup) (first : WorldState) (steps : List Step) (outs : List StepOut) (last : WorldState) : Type 0 where
  -- The list grows by what was admitted, in order.
  pub list : last.list ≡ first.list ++ admitted_in steps outs
  -- Each taken answer is that of a server that handles one message at a time.
  pub taken : EachTook setup.config last.list steps outs
  -- Each immediate reply is that of a server that handles one message at a time.
  pub replied : EachReplied setup last.list steps outs
  -- No answer is taken twice.
  pub once : EachNew first.taken (taken_places steps outs)
  -- A connect that acknowledges nothing new gets the outstanding batch again.
  pub again : (number place : ℕ) → AsksAgain setup.config last.list number place → GivenAgain setup.config last.list steps outs number place
  -- The number of a session's events that are never sent again does not fall.
  pub done : (number m n : ℕ) → m ≤ n → (session_before setup.config last.list number m).done ≤ (session_before setup.config last.list number n).done
  -- Events that were acknowledged or, if the session does not acknowledge, sent are never sent
  -- again.
  pub never : (number place : ℕ) (a : Answer) → slot_at setup.config last.list place ≡ Some (Waiting number) → Gave steps outs place a → GivenLater setup.config last.list number place a
  -- No event is in two answers of a session that does not acknowledge.
  pub apart : (number place later : ℕ) (a b : Answer) → place < later → (session setup.config number (entries setup.config last.list)).ack ≡ false →
      slot_at setup.config last.list place ≡ Some (Waiting number) → slot_at setup.config last.list later ≡ Some (Waiting number) → Gave steps outs place a → Gave steps outs later b →
      GivenApart setup.config last.list number place later a b

-- For every schedule, number of shards and placing, a world gives what a server gives that handles
-- one message at a time.
abbrev pub Headline : Type 0
Headline = (setup : Setup) (first : WorldState) (steps : List Step) (outs : List StepOut) (last : WorldState) → 0 < setup.config.limits.batch →
    Runs setup first steps outs last → AsOneThread setup first steps outs last
