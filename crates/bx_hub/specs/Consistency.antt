-- Calls of a hub as their callers see them, and one thread that executes them one after another.
use Rattle.std.specs.Prelude.{ℕ, ◌≡◌, ◌≢◌, ◌⊎◌, ◌+◌, ◌<◌, Bool, List, [], ◌∷◌, ◌++◌, length, take, cond, nat_le, option_map, Some, None, IsPermutation, ⊤}
use Rattle.std.specs.List.{AllByRecursion, filter, flat_map}
use mathlib.Core.List.{IsPrefix}
use Rattle.bx_message.specs.declared.reply.Answer.{Answer}
use Rattle.bx_registry.specs.Slots.{admitted_slots}
use Rattle.bx_entry.specs.Inputs.{added_by, refusal_of}
use Rattle.bx_entry.specs.Placings.{Setup}
use Rattle.bx_entry.specs.Words.{Listed, answer, read_input}
use Rattle.bx_entry.specs.declared.{entry.Slot.Slot, input.Arrival.Arrival, input.Input.Input, input.Refusal.Refusal}
use Rattle.bx_entry.specs.declared.input.Input.TheVariants as inputs
use Rattle.bx_hub.specs.{Held.answer_over, Posts.AreSlotsAt, Posts.IsAdmittedAt}
use Rattle.bx_shard.specs.Words.{given_of}
use Rattle.bx_window.specs.Steps.{list_of}
use Rattle.bx_window.specs.declared.law.LogStep.{LogStep}

-- ---- What callers see

-- What a call returned. `Posted`: a post is admitted, with its first message at place `first`.
-- `Ticked`: a tick is admitted at `place`. `Rejected`: the rules reject a post or a tick.
-- `Answered`: a poll took the answer to the connect or rider at `place`.
pub data Outcome : Type 0 where
  Posted : (arrival : Arrival) → (first : ℕ) → (slots : List Slot) → Outcome
  Ticked : (moment : ℕ) → (place : ℕ) → Outcome
  Rejected : (input : Input) → (refusal : Refusal) → Outcome
  Answered : (place : ℕ) → (answer : Answer) → Outcome

-- A call: what its pass had seen before it and after it, and what it returned.
pub record Call : Type 0 where
  pub before : List LogStep
  pub after : List LogStep
  pub outcome : Outcome

-- What the hub's clauses guarantee of a call that returned the outcome. `Posted`: `admitted` and
-- `slots` of `Hub::post`. `Ticked`: `admitted` of `Hub::tick`. `Rejected`: `refused` of both,
-- unless the log has 2^62 steps. `Answered`: `answer` of `Hub::poll_answer`.
abbrev pub IsPromised : Setup → List LogStep → List LogStep → Outcome → Type 0
IsPromised setup before after (Posted arrival first slots) =
    IsAdmittedAt (read_input (inputs.Post arrival)) first before after × AreSlotsAt setup (read_input (inputs.Post arrival)) first after slots
IsPromised setup before after (Ticked moment place) = IsAdmittedAt (read_input (inputs.Tick moment)) place before after
IsPromised setup before after (Rejected input refusal) = refusal_of (length (list_of after)) (read_input input) ≡ Some refusal
IsPromised setup before after (Answered place a) = answer_over setup.config after place ≡ Some a

-- A call of a hub, by its clauses. `seen`: a pass only grows. `one`: all passes are fronts of one
-- log. `log` is the longest of them, which `Front::longer` returns.
pub record IsCall (setup : Setup) (log : List LogStep) (c : Call) : Type 0 where
  pub seen : IsPrefix c.before c.after
  pub one : IsPrefix c.after log
  pub promised : IsPromised setup c.before c.after c.outcome

-- Before `d`, the pass of its caller had seen all that the pass of `c` had seen in the end. So the
-- caller of `d` made `c` itself, was told of it, or has seen it by a call of its own.
abbrev pub Knows : Call → Call → Type 0
Knows d c = IsPrefix c.after d.before

-- The elements that a call appended to the list.
abbrev pub appended : Outcome → List Listed
appended (Posted arrival first slots) = added_by (read_input (inputs.Post arrival))
appended (Ticked moment place) = added_by (read_input (inputs.Tick moment))
appended _ = []

-- Each of the first elements differs from each of the others.
abbrev pub AllDiffer : List Listed → List Listed → Type 0
AllDiffer xs ys = AllByRecursion (λ x. AllByRecursion (λ y. x ≢ y) ys) xs

-- Two requests with different nonces append different elements.
abbrev pub NoncesDiffer : Type 0
NoncesDiffer = (a b : Arrival) → a.nonce ≢ b.nonce → AllDiffer (added_by (read_input (inputs.Post a))) (added_by (read_input (inputs.Post b)))

-- Two ticks with different moments append different elements.
abbrev pub MomentsDiffer : Type 0
MomentsDiffer = (m n : ℕ) → m ≢ n → AllDiffer (added_by (read_input (inputs.Tick m))) (added_by (read_input (inputs.Tick n)))

-- One of the callers knew the other's call, or the calls appended different elements.
abbrev pub AreDistinct : Call → Call → Type 0
AreDistinct c d = (Knows c d ⊎ Knows d c) ⊎ AllDiffer (appended c.outcome) (appended d.outcome)

-- Each two of the calls are distinct in this sense.
abbrev pub AreAllDistinct : List Call → Type 0
AreAllDistinct [] = ⊤
AreAllDistinct (c ∷ cs) = AllByRecursion (AreDistinct c) cs × AreAllDistinct cs

-- Calls of any callers of one hub, in any order, such as that in which they were made.
pub record IsHistory (setup : Setup) (log : List LogStep) (calls : List Call) : Type 0 where
  pub each : AllByRecursion (IsCall setup log) calls
  pub distinct : AreAllDistinct calls

-- The caller of each call knew the call before it. This holds of the calls of one caller in the
-- order in which it made them, and of calls whose callers told each other.
abbrev pub InTurn : List Call → Type 0
InTurn [] = ⊤
InTurn (c ∷ []) = ⊤
InTurn (c ∷ d ∷ cs) = Knows d c × InTurn (d ∷ cs)

-- ---- The order

-- The place at which a call takes effect: that of its first element. A call that appends nothing
-- takes effect at the end of what its pass has then seen.
abbrev pub effect_place : List LogStep → Outcome → ℕ
effect_place after (Posted arrival first slots) = first
effect_place after (Ticked moment place) = place
effect_place after _ = length (list_of after)

-- The length of the list just before the call takes effect.
abbrev pub start_of : Call → ℕ
start_of c = effect_place c.after c.outcome

-- The length of the list just after the call takes effect.
abbrev pub end_of : Call → ℕ
end_of c = start_of c + length (appended c.outcome)

-- Whether `c` is at the place of `d` or before it, by the middle of the start and the end of each.
abbrev pub is_before : Call → Call → Bool
is_before c d = nat_le (start_of c + end_of c) (start_of d + end_of d)

-- Calls in the order of their places, and one more call `c`, which is put before calls at its
-- place.
abbrev pub inserted : Call → List Call → List Call
inserted c [] = c ∷ []
inserted c (d ∷ ds) = cond (is_before c d) (c ∷ d ∷ ds) (d ∷ inserted c ds)

-- Calls in the order of the places at which they take effect. Calls at one place keep their order.
abbrev pub in_order : List Call → List Call
in_order [] = []
in_order (c ∷ cs) = inserted c (in_order cs)

-- ---- One thread

-- A server with a single thread, which has the list `list`, returns this outcome.
abbrev pub IsReturned : Setup → List Listed → Outcome → Type 0
IsReturned setup list (Posted arrival first slots) =
    (refusal_of (length list) (read_input (inputs.Post arrival)) ≡ None) × (first ≡ length list) × (slots ≡ admitted_slots setup list (added_by (read_input (inputs.Post arrival))))
IsReturned setup list (Ticked moment place) = (refusal_of (length list) (read_input (inputs.Tick moment)) ≡ None) × (place ≡ length list)
IsReturned setup list (Rejected input refusal) = refusal_of (length list) (read_input input) ≡ Some refusal
IsReturned setup list (Answered place a) = option_map given_of (answer setup.config list place) ≡ Some a

-- The list that a call finds: what its pass has seen in the end, without the call's own elements.
abbrev pub found : Call → List Listed
found c = take (start_of c) (list_of c.after)

-- A single thread has the list `list`. `others`: calls that are left out of the history may append
-- to it. `returned`: the thread then executes `c`, which returns its outcome. `appends`: the list
-- is then what the caller's pass has seen, and has just the elements of `c` more.
pub record IsNext (setup : Setup) (list : List Listed) (c : Call) : Type 0 where
  pub others : IsPrefix list (found c)
  pub returned : IsReturned setup (found c) c.outcome
  pub appends : list_of c.after ≡ found c ++ appended c.outcome

-- A single thread with the list `list` executes the calls one after another.
abbrev pub Executes : Setup → List Listed → List Call → Type 0
Executes setup list [] = ⊤
Executes setup list (c ∷ cs) = IsNext setup list c × Executes setup (list_of c.after) cs

-- What was answered is still the answer by all that any caller has seen.
abbrev pub Stays : Setup → List LogStep → Outcome → Type 0
Stays setup log (Answered place a) = answer_over setup.config log place ≡ Some a
Stays setup log _ = ⊤

-- ---- The law

-- `sequence` has the calls in an order in which a single thread returns the same.
pub record IsSequential (setup : Setup) (log : List LogStep) (calls sequence : List Call) : Type 0 where
  -- The sequence has the same calls.
  pub same : IsPermutation calls sequence
  -- A single thread that executes them in this order returns what each of them returned.
  pub executes : Executes setup [] sequence
  -- Calls that were made in turn keep their order, whichever calls are picked: those of a caller,
  -- or those of callers who told each other.
  pub turn : (is_picked : Call → Bool) → InTurn (filter is_picked calls) → filter is_picked sequence ≡ filter is_picked calls
  -- If the calls appended as many elements as the list has, they appended the list, in this order.
  pub whole : length (flat_map (λ (c : Call). appended c.outcome) calls) ≡ length (list_of log) → list_of log ≡ flat_map (λ (c : Call). appended c.outcome) sequence
  -- No answer is taken back.
  pub stays : AllByRecursion (λ (c : Call). Stays setup log c.outcome) calls

-- Posts, ticks and polls are sequentially consistent, in the order of their places. The limit of a
-- batch must be at least one event.
abbrev pub SequentiallyConsistent : Type 0
SequentiallyConsistent = (setup : Setup) (log : List LogStep) (calls : List Call) → 0 < setup.config.limits.batch → IsHistory setup log calls → IsSequential setup log calls (in_order calls)
