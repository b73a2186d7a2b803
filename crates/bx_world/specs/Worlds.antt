-- A world of shards, step by step: admission, application and taking.
use Rattle.std.specs.Prelude.{if◌then◌else◌, ℕ, find, ◌+◌, ◌==◌, ◌||◌, ◌&&◌, ◌≡◌, ◌⊎◌, not, Bool, true, false, List, [], ◌∷◌, ◌++◌, length, replicate, nat_lt, slice_get, slice_index, slice_set, Option, Some, None, option_map}
use Rattle.bx_entry.specs.Words.{Listed, ReadInput, added_by, refusal_of, read_input, entries, Filed, PlacedAnswer, answer_of}
use Rattle.bx_entry.specs.declared.{entry.Entry.Entry, entry.Ticket.Ticket, input.Input.Input, input.Refusal.Refusal}
use Rattle.bx_registry.specs.Slots.{admitted_slots}
use Rattle.bx_registry.specs.declared.plan.Plan.{Plan}
use Rattle.bx_shard.specs.Words.{given_of, Setup, shard_at, takes_no_memory}
use Rattle.bx_world.specs.declared.step.{Step.Step, StepOut.StepOut}
use Rattle.bx_world.specs.declared.step.Step.TheVariants.{Admit, Apply, Take}
use Rattle.bx_world.specs.declared.step.StepOut.TheVariants.{Admitted, NotAdmitted, Applied, Level, Taken, OutOfMemory}

-- ---- The world

-- The state of a world: the list, how many entries each shard has applied, and the places of the
-- taken answers.
pub record WorldState : Type 0 where
  pub list : List Listed
  pub applied : List ℕ
  pub taken : List ℕ

-- A world with an empty list, without applied entries or taken answers.
abbrev pub new_world : Setup → WorldState
new_world setup = record { list = []; applied = replicate setup.shards 0; taken = [] }

-- ---- Outputs

-- Whether a shard has applied the whole list, or does not exist.
abbrev pub is_level : WorldState → ℕ → Bool
is_level w shard = not (nat_lt shard (length w.applied)) || (slice_index w.applied shard == length w.list)

-- The answer filed under a ticket, if the ticket's shard exists and has such an answer that was not
-- taken.
abbrev pub filed_under : Setup → WorldState → Ticket → Option PlacedAnswer
filed_under setup w t =
    if nat_lt t.shard (length w.applied)
    then option_map answer_of (find (λ (f : Filed). f.connect == t.place) (shard_at setup w.list w.taken t.shard (slice_index w.applied t.shard)).filed)
    else None

-- The output of an admission. The last argument is why the input is rejected, if it is.
abbrev pub output_admit : Setup → WorldState → ReadInput → Option Refusal → StepOut
output_admit setup w input None = Admitted (length w.list) (admitted_slots setup w.list (added_by input))
output_admit setup w input (Some refusal) = NotAdmitted refusal

-- The plan is right for an input that the list accepts: it has the elements that the input adds,
-- and their slots.
pub record IsPlanned (setup : Setup) (list : List Listed) (input : Input) (plan : Plan) : Type 0 where
  pub accepted : refusal_of (length list) (read_input input) ≡ None
  pub elements : plan.elements ≡ added_by (read_input input)
  pub slots : plan.slots ≡ admitted_slots setup list plan.elements

-- The output of a step if there is enough memory.
abbrev pub output : Setup → WorldState → Step → StepOut
output setup w (Admit input) = output_admit setup w (read_input input) (refusal_of (length w.list) (read_input input))
output setup w (Apply shard) = if is_level w shard then Level else Applied
output setup w (Take ticket) = Taken (option_map given_of (filed_under setup w ticket))

-- ---- Steps

-- The world after a step, given its output. An admission that succeeds makes the list longer, an
-- application advances its shard, and a taken answer is recorded. Otherwise the world is unchanged.
abbrev pub after : WorldState → Step → StepOut → WorldState
after w (Admit input) (Admitted first slots) = record w { list = w.list ++ added_by (read_input input) }
after w (Apply shard) Applied = record w { applied = slice_set w.applied shard (slice_index w.applied shard + 1) }
after w (Take ticket) (Taken (Some answer)) = record w { taken = w.taken ++ ticket.place ∷ [] }
after w step out = w

-- The entry that a shard applies next, or `None` if it has applied the whole list.
abbrev pub next_entry : Setup → WorldState → ℕ → Option Entry
next_entry setup w shard = slice_get (entries setup.config w.list) (slice_index w.applied shard)

-- Whether applying an entry, if there is one, may allocate. A disconnect, a rejected message, a
-- tick, and an unsubscription that is not a rider do not.
abbrev pub may_take_memory : Option Entry → Bool
may_take_memory None = false
may_take_memory (Some e) = not (takes_no_memory e)

-- Whether memory may run out for a step: an admission, or the application of an entry that may
-- allocate.
abbrev pub may_refuse : Setup → WorldState → Step → Bool
may_refuse setup w (Admit input) = true
may_refuse setup w (Apply shard) = not (is_level w shard) && may_take_memory (next_entry setup w shard)
may_refuse setup w (Take ticket) = false

-- The step may give the output: it is that with enough memory or, if memory may run out for the
-- step, `OutOfMemory`.
abbrev pub IsOutput : Setup → WorldState → Step → StepOut → Type 0
IsOutput setup w step out = (out ≡ output setup w step) ⊎ ((may_refuse setup w step ≡ true) × (out ≡ OutOfMemory))

-- From `w`, the steps may give the outputs, one for each step, and lead to the world `last`.
abbrev pub Runs : Setup → WorldState → List Step → List StepOut → WorldState → Type 0
Runs setup w [] [] last = last ≡ w
Runs setup w (step ∷ steps) (out ∷ outs) last = IsOutput setup w step out × Runs setup (after w step out) steps outs last
Runs setup w [] (out ∷ outs) last = ⊥
Runs setup w (step ∷ steps) [] last = ⊥
