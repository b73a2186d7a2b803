-- The stages of a round's last input.
use Rattle.std.specs.Prelude.{ℕ, ◌+◌, ◌≡◌, Bool, true, false, List, [], ◌∷◌, ◌++◌, filter, length, map, None}
use Rattle.std.specs.List.{AllByRecursion}
use Rattle.bx_entry.specs.Words.{ReadInput, outs, places_of, taken_in}
use Rattle.bx_entry.specs.Runs as runs
use Rattle.bx_entry.specs.Placings.{Setup}
use Rattle.bx_shard.specs.Shards.{is_taken}
use Rattle.bx_world.specs.Worlds.{WorldState}
use Rattle.bx_fanout.specs.HeldInputs.{Row, outs_of, waits}
use Rattle.bx_fanout.specs.CurrentInputs.{IsCollected, NoneTakenFrom, out_of}
use Rattle.bx_theory.specs.Opens.{Numbered, newest, open_after}
use Rattle.bx_fanout.specs.declared.{current_input.CurrentInput.CurrentInput, out.Out.Out, stage.Stage.Stage}
use Rattle.bx_fanout.specs.declared.stage.Stage.TheVariants.{Collecting, Complete, Idle}

-- The out of the code in the form of `Out` of the definitions in `bx_entry`.
abbrev pub seen_out : Out → runs.Out
seen_out o = record { input = o.input; result = o.result }

-- An incomplete input as a held connect without an answer.
abbrev pub bare : Numbered → Row
bare o = (o.intake.first, record { number = o.number; answer = None })

-- No answer to the first message of an input in `os` was taken.
abbrev pub AllUntaken : List ℕ → List Numbered → Type 0
AllUntaken taken os = AllByRecursion (λ (o : Numbered). is_taken taken o.intake.first ≡ false) os

-- The answers to `input`, which comes after `inputs`, are being collected in `n`. `rows` are the
-- incomplete inputs among `inputs`, held without an answer. No answer to their first messages was
-- taken. `added` are the outs of the complete inputs among `inputs`.
pub record IsCollecting (setup : Setup) (inputs : List ReadInput) (input : ReadInput) (w : WorldState) (rows : List Row) (n : CurrentInput) (added : List runs.Out) : Type 0 where
  pub list : w.list ≡ (taken_in (inputs ++ input ∷ [])).list
  pub number : n.number ≡ length inputs
  pub first : n.first ≡ length (taken_in inputs).list
  pub refusal : n.refusal ≡ (newest inputs input).intake.refusal
  pub items : n.items.items ≡ []
  pub many : length n.answers.items + length n.slots.items ≡ length (places_of (newest inputs input).intake input)
  pub collected : IsCollected setup w n
  pub held : rows ≡ map bare (open_after setup.config inputs)
  pub untaken : AllUntaken w.taken (open_after setup.config inputs)
  pub outs_before : added ≡ outs setup.config inputs

-- All answers that the list gives to `inputs` are collected. The outs of the answered connects in
-- `rows`, followed by `own`, are left to append to `added`. The other connects in `rows` are the
-- incomplete inputs. No answer to their first messages, or to a place after the list, was taken.
pub record IsGiving (setup : Setup) (inputs : List ReadInput) (w : WorldState) (rows : List Row) (own : List runs.Out) (added : List runs.Out) : Type 0 where
  pub list : w.list ≡ (taken_in inputs).list
  pub rest : filter waits rows ≡ map bare (open_after setup.config inputs)
  pub untaken : AllUntaken w.taken (open_after setup.config inputs)
  pub fresh : NoneTakenFrom (length w.list) w.taken
  pub left : added ++ map seen_out (outs_of rows) ++ own ≡ outs setup.config inputs

-- The answers to the last of `inputs` are being collected in `n`.
pub record IsTakenIn (setup : Setup) (inputs : List ReadInput) (w : WorldState) (rows : List Row) (n : CurrentInput) (added : List runs.Out) : Type 0 where
  pub earlier : List ReadInput
  pub last : ReadInput
  pub are : inputs ≡ earlier ++ last ∷ []
  pub collecting : IsCollecting setup earlier last w rows n added

-- Whether the answers to the last input are being collected.
abbrev pub is_collecting : Stage → Bool
is_collecting Idle = false
is_collecting (Collecting n) = true
is_collecting (Complete n) = false

-- Whether all answers to the last input are collected, and its out is not appended yet.
abbrev pub is_complete : Stage → Bool
is_complete Idle = false
is_complete (Collecting n) = false
is_complete (Complete n) = true

-- The last input's out if it is left to append, and otherwise no out.
abbrev pub own : Stage → List Out
own Idle = []
own (Collecting n) = []
own (Complete n) = out_of n ∷ []

-- The first of the outs that were left to append were appended to `before`, resulting in `after`.
-- The other outs are still left. The waiting connects are unchanged, and so is whether answers to
-- the last input are being collected.
pub record GivesOut (rows : List Row) (stage : Stage) (before after : List Out) (rows' : List Row) (stage' : Stage) : Type 0 where
  pub more : List Out
  pub behind : after ≡ before ++ more
  pub given : outs_of rows ++ own stage ≡ more ++ (outs_of rows' ++ own stage')
  pub others : filter waits rows' ≡ filter waits rows
  pub collecting : is_collecting stage' ≡ is_collecting stage

-- In the stage `Collecting`, answers to the last of `inputs` are left to collect. In `Idle` and in
-- `Complete`, all are collected. In `Complete`, the last input's own out is left to append.
abbrev pub IsStaged : Setup → List ReadInput → WorldState → List Row → Stage → List runs.Out → Type 0
IsStaged setup inputs w rows Idle added = IsGiving setup inputs w rows [] added
IsStaged setup inputs w rows (Collecting n) added = IsTakenIn setup inputs w rows n added
IsStaged setup inputs w rows (Complete n) added = IsGiving setup inputs w rows (seen_out (out_of n) ∷ []) added
