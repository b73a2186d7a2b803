-- The invariant of a round's state is a proposition, since the state determines all data in the
-- invariant.
use Rattle.std.specs.Prelude.{ℕ, ◌+◌, ◌≡◌, List, [], ◌∷◌, ◌++◌, Some}
use Rattle.std.specs.Coded.{×_prop, Unit-prop}
use Rattle.std.proofs.Common.{refl, sym, ap, ◌∙◌}
use Rattle.std.proofs.Props.{props}
use Rattle.std.proofs.lemmas.List.{same_from_push}
use mathlib.Core.HLevel.{Σ_prop_path}
use Rattle.bx_advice.specs.declared.config.Config.{Config}
use Rattle.bx_entry.specs.Words.{ReadInput, Listed, Waiting}
use Rattle.bx_entry.specs.Runs as runs
use Rattle.bx_entry.specs.declared.{Placing.Ghosts, entry.Slot.Slot, entry.Ticket.Ticket}
use Rattle.bx_entry.specs.declared.entry.Slot.TheVariants as answers
use Rattle.bx_message.specs.declared.reply.Answer.{Answer}
use Rattle.bx_entry.specs.Placings.{Setup}
use Rattle.bx_world.specs.Words.{EachSlot, IsSlot, IsTicket, slot_at, WorldState}
use Rattle.bx_fanout.specs.HeldInputs.{Row}
use Rattle.bx_fanout.specs.CurrentInputs.{AreAnswers}
use Rattle.bx_fanout.specs.RoundStates.{IsConsistent}
use Rattle.bx_fanout.specs.Stages.{IsCollecting, IsTakenIn, IsStaged}
use Rattle.bx_fanout.specs.declared.{current_input.CurrentInput.CurrentInput, stage.Stage.Stage, round_state.RoundState.RoundState}
use Rattle.bx_fanout.specs.declared.stage.Stage.TheVariants.{Collecting, Complete, Idle}

-- ---- Determined data

-- If `P x` is a proposition for each `x`, and `P` holds for at most one `x`, then the pairs of an
-- `x` and a proof of `P x` are a proposition.
one-prop : {A : Type 0} (P : A → Type 0) → ((x : A) → IsProp (P x)) → ((x y : A) → P x → P y → x ≡ y) → IsProp ((x : A) × P x)
one-prop P each same u v = Σ_prop_path each (same u.0 v.0 u.1 v.1)

-- `A` is a proposition if `B` is one, and each value of `A`, mapped to `B` and back, is unchanged.
back-prop : {A B : Type 0} (to : A → B) (from : B → A) → ((x : A) → from (to x) ≡ x) → IsProp B → IsProp A
back-prop to from back fact x y = sym (back x) ∙ ap from (fact (to x) (to y)) ∙ back y

-- ---- Answers and slots

answers-prop : (config : Config) (list : List Listed) (place : ℕ) (answers : List Answer) → IsProp (AreAnswers config list place answers)
answers-prop config list place [] = Unit-prop
answers-prop config list place (a ∷ answers) = ×_prop (hlevel props) (answers-prop config list (place + 1) answers)

-- The message at `here` waits for an answer from the shard of `session`, under the ticket `t`.
abbrev Tickets : Setup → List Listed → ℕ → Ticket → ℕ → Type 0
Tickets setup list here t session = (slot_at setup.config list here ≡ Some (Waiting session)) × (t.place ≡ here) × (t.shard ≡ setup.placing session setup.shards)

same-session : (m n : ℕ) → Some (Waiting m) ≡ Some (Waiting n) → m ≡ n
same-session m n e = cc

ticket-prop : (setup : Setup) (list : List Listed) (here : ℕ) (t : Ticket) → IsProp (IsTicket setup list here t)
ticket-prop setup list here t = back-prop {B = (session : ℕ) × Tickets setup list here t session}
    (λ k. (k.session, (k.waits, k.place, k.shard)))
    (λ p. record { session = p.0; waits = p.1.0; place = p.1.1; shard = p.1.2 })
    (λ k. refl)
    (one-prop (Tickets setup list here t) (λ session. hlevel props) (λ m n p q. same-session m n (sym p.0 ∙ q.0)))

slot-prop : (setup : Setup) (list : List Listed) (place : ℕ) (slot : Slot) → IsProp (IsSlot setup list place slot)
slot-prop setup list place (answers.Ready reply) = hlevel props
slot-prop setup list place (answers.Waiting ticket) = ticket-prop setup list place ticket

slots-prop : (setup : Setup) (list : List Listed) (place : ℕ) (slots : List Slot) → IsProp (EachSlot setup list place slots)
slots-prop setup list place [] = Unit-prop
slots-prop setup list place (slot ∷ slots) = ×_prop (slot-prop setup list place slot) (slots-prop setup list (place + 1) slots)

-- ---- The last input

-- A list of inputs determines its last input and the inputs before the last one.
same-ends : (xs ys : List ReadInput) (x y : ReadInput) → xs ++ x ∷ [] ≡ ys ++ y ∷ [] → ◌≡◌ {A = List ReadInput × ReadInput} (xs, x) (ys, y)
same-ends xs ys x y e = let same = same_from_push xs ys x y e in λ i. (same.0 i, same.1 i)

collecting-prop : (setup : Setup) (inputs : List ReadInput) (input : ReadInput) (w : WorldState) (rows : List Row) (n : CurrentInput) (added : List runs.Out) → IsProp (IsCollecting setup inputs input w rows n added)
collecting-prop setup inputs input w rows n added = hlevel (answers-prop, slots-prop, props)

abbrev TakesIn : Setup → List ReadInput → WorldState → List Row → CurrentInput → List runs.Out → List ReadInput × ReadInput → Type 0
TakesIn setup inputs w rows n added ends = (inputs ≡ ends.0 ++ ends.1 ∷ []) × IsCollecting setup ends.0 ends.1 w rows n added

intake-prop : (setup : Setup) (inputs : List ReadInput) (w : WorldState) (rows : List Row) (n : CurrentInput) (added : List runs.Out) → IsProp (IsTakenIn setup inputs w rows n added)
intake-prop setup inputs w rows n added = back-prop {B = (ends : List ReadInput × ReadInput) × TakesIn setup inputs w rows n added ends}
    (λ d. ((d.earlier, d.last), (d.are, d.collecting)))
    (λ p. record { earlier = p.0.0; last = p.0.1; are = p.1.0; collecting = p.1.1 })
    (λ d. refl)
    (one-prop (TakesIn setup inputs w rows n added)
    (λ ends. hlevel (collecting-prop, props))
    (λ a b p q. same-ends a.0 b.0 a.1 b.1 (sym p.0 ∙ q.0)))

-- ---- The whole state

staged-prop : (setup : Setup) (inputs : List ReadInput) (w : WorldState) (rows : List Row) (stage : Stage) (added : List runs.Out) → IsProp (IsStaged setup inputs w rows stage added)
staged-prop setup inputs w rows Idle added = hlevel props
staged-prop setup inputs w rows (Collecting n) added = intake-prop setup inputs w rows n added
staged-prop setup inputs w rows (Complete n) added = hlevel props

pub consistent-prop : {P : Type 0} {g : Ghosts P} (p : RoundState P g) → IsProp (IsConsistent p)
consistent-prop p = hlevel (staged-prop, props)
