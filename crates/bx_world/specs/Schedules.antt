-- What holds for every schedule and placing, at whatever steps memory runs out.
use Rattle.std.specs.Prelude.{ℕ, ◌≡◌, ◌<◌, ◌==◌, false, List, [], ◌∷◌, ◌++◌, length, find, slice_get, slice_index, option_map, Some, ⊤}
use Rattle.bx_advice.specs.declared.config.Config.{Config}
use Rattle.bx_entry.specs.Words.{added_by, Listed, read_input, Judged, Waiting, registry, Filed, PlacedAnswer, answer, answer_of}
use Rattle.bx_entry.specs.declared.{input.Input.Input, entry.Ticket.Ticket}
use Rattle.bx_shard.specs.Words.{Setup, is_taken, shard_at, given_of}
use Rattle.bx_world.specs.Worlds.{WorldState, IsOutput, Runs}
use Rattle.bx_world.specs.declared.step.{Step.Step, StepOut.StepOut}
use Rattle.bx_world.specs.declared.step.Step.TheVariants.{Admit, Take}
use Rattle.bx_world.specs.declared.step.StepOut.TheVariants.{Admitted, Taken}

-- ---- The list

-- What an input adds to the list, given the output: nothing if the input was not admitted.
abbrev pub added_as : Input → StepOut → List Listed
added_as input (Admitted first slots) = added_by (read_input input)
added_as input _ = []

-- What a step adds to the list, given its output. Only an admission that succeeds adds to the list.
abbrev pub added_in : Step → StepOut → List Listed
added_in (Admit input) out = added_as input out
added_in _ out = []

-- What the steps add to the list, in order.
abbrev pub admitted_in : List Step → List StepOut → List Listed
admitted_in [] outs = []
admitted_in (step ∷ steps) [] = []
admitted_in (step ∷ steps) (out ∷ outs) = added_in step out ++ admitted_in steps outs

-- The list grows by exactly what was admitted, in order.
abbrev pub ListIsAdmitted : Type 0
ListIsAdmitted = (setup : Setup) (first : WorldState) (steps : List Step) (outs : List StepOut) (last : WorldState) → Runs setup first steps outs last →
    last.list ≡ first.list ++ admitted_in steps outs

-- ---- Taken answers

-- If the output is a taken answer, the answer is right for the message at the ticket's place. A
-- server that handles the messages of `list` one at a time gives the same answer.
abbrev pub TookBy : Config → List Listed → Ticket → StepOut → Type 0
TookBy config list t (Taken (Some a)) = option_map given_of (answer config list t.place) ≡ Some a
TookBy config list t _ = ⊤

-- If the step took an answer, it is the one that a server gives that handles the messages of `list`
-- one at a time.
abbrev pub Took : Config → List Listed → Step → StepOut → Type 0
Took config list (Take t) out = TookBy config list t out
Took config list _ out = ⊤

-- Each taken answer is the one that a server gives that handles the messages of `list` one at a
-- time.
abbrev pub EachTook : Config → List Listed → List Step → List StepOut → Type 0
EachTook config list [] outs = ⊤
EachTook config list (step ∷ steps) [] = ⊤
EachTook config list (step ∷ steps) (out ∷ outs) = Took config list step out × EachTook config list steps outs

-- Under every schedule, each taken answer is that of a server that handles one message at a time.
abbrev pub TakesAreAnswers : Type 0
TakesAreAnswers = (setup : Setup) (first : WorldState) (steps : List Step) (outs : List StepOut) (last : WorldState) → 0 < setup.config.limits.batch →
    Runs setup first steps outs last → EachTook setup.config last.list steps outs

-- Once a session's shard has applied the entry that answers a connect or rider, the answer is filed
-- in that shard until it is taken.
abbrev pub AnswersAreFiled : Type 0
AnswersAreFiled = (setup : Setup) (list : List Listed) (taken : List ℕ) (n place number : ℕ) (a : PlacedAnswer) → 0 < setup.config.limits.batch →
    option_map (λ (j : Judged). j.slot) (slice_get (registry setup.config list).judged place) ≡ Some (Waiting number) →
    answer setup.config list place ≡ Some a → a.place < n → is_taken taken place ≡ false →
    option_map answer_of (find (λ (f : Filed). f.connect == place) (shard_at setup list taken (setup.placing number setup.shards) n).filed) ≡ Some a

-- `Take` returns a filed answer that was not taken, even if memory has run out.
abbrev pub AnswersCanBeTaken : Type 0
AnswersCanBeTaken = (setup : Setup) (w : WorldState) (t : Ticket) (number : ℕ) (a : PlacedAnswer) (out : StepOut) → 0 < setup.config.limits.batch →
    option_map (λ (j : Judged). j.slot) (slice_get (registry setup.config w.list).judged t.place) ≡ Some (Waiting number) →
    t.shard ≡ setup.placing number setup.shards → t.shard < length w.applied →
    answer setup.config w.list t.place ≡ Some a → a.place < slice_index w.applied t.shard → is_taken w.taken t.place ≡ false →
    IsOutput setup w (Take t) out → out ≡ Taken (Some (given_of a))

-- ---- No answer twice

-- The list of just `place` if the output is a taken answer, and otherwise the empty list.
abbrev pub taken_as : ℕ → StepOut → List ℕ
taken_as place (Taken (Some a)) = place ∷ []
taken_as place _ = []

-- The list of just the ticket's place if the step took an answer, and otherwise the empty list.
abbrev pub taken_by : Step → StepOut → List ℕ
taken_by (Take t) out = taken_as t.place out
taken_by _ out = []

-- The places of the tickets for which the steps took answers, in order.
abbrev pub taken_places : List Step → List StepOut → List ℕ
taken_places [] outs = []
taken_places (step ∷ steps) [] = []
taken_places (step ∷ steps) (out ∷ outs) = taken_by step out ++ taken_places steps outs

-- In a list of places, no place occurs twice or is in `seen`.
abbrev pub EachNew : List ℕ → List ℕ → Type 0
EachNew seen [] = ⊤
EachNew seen (p ∷ ps) = (is_taken seen p ≡ false) × EachNew (seen ++ p ∷ []) ps

-- Under every schedule, no answer is taken twice. An answer that was taken before the schedule is
-- not taken again.
abbrev pub NoneTakenTwice : Type 0
NoneTakenTwice = (setup : Setup) (first : WorldState) (steps : List Step) (outs : List StepOut) (last : WorldState) → Runs setup first steps outs last →
    EachNew first.taken (taken_places steps outs)

-- ---- Consecutive schedules

-- If a schedule ends in the world in which another begins, the steps of both, in order, are a
-- schedule.
abbrev pub SchedulesCompose : Type 0
SchedulesCompose = (setup : Setup) (first middle last : WorldState) (steps more : List Step) (outs given : List StepOut) →
    Runs setup first steps outs middle → Runs setup middle more given last → Runs setup first (steps ++ more) (outs ++ given) last
