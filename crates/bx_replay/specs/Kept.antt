-- What is kept of inputs until their outs are printed.
use Rattle.std.specs.Prelude.{ℕ, ◌≡◌, ◌==◌, IsSome, None, ⊤, if◌then◌else◌, map, [], ◌∷◌, List, flat_map, option_map, slice_get, string_bytes, Option, Some}
use Rattle.std.specs.Io.KnownBytes.{Appends}
use Rattle.bx_replay.specs.declared.kept.PendingLine.{PendingLine}
use Rattle.bx_script.specs.Words.{Numbered, held_text, is_tick}
use Rattle.bx_entry.specs.Runs.{Out}
use Rattle.bx_fanout.specs.declared.out.Out as fanout
use Rattle.bx_theory.specs.Lines.{outs_text}

-- `a` has the line number and the callback of input `i` of `numbered`, and whether it is a tick.
pub record IsKept (numbered : List Numbered) (i : ℕ) (a : PendingLine) : Type 0 where
  pub one : Numbered
  pub there : slice_get numbered i ≡ Some one
  pub line : a.line ≡ one.line
  pub callback : option_map string_bytes a.callback ≡ one.callback
  pub tick : a.tick ≡ is_tick one.input

-- Whatever `kept` has at a number `i` is the line number, callback and kind of input `i` of
-- `numbered`.
abbrev pub AreKept : List Numbered → (ℕ → Option PendingLine) → Type 0
AreKept numbered kept = (i : ℕ) (a : PendingLine) → kept i ≡ Some a → IsKept numbered i a

-- The output `after` is `before` followed by the text of the outs `os`. What is then kept, `new`,
-- belongs to inputs of `numbered`.
pub record PrintsOuts (numbered : List Numbered) (os : List Out) (before after : Option (List ℕ)) (new : ℕ → Option PendingLine) : Type 0 where
  pub kept : AreKept numbered new
  pub appends : Appends before after (outs_text numbered os)

-- What is printed for held inputs, given their numbers.
abbrev pub held_texts : List Numbered → List ℕ → List ℕ
held_texts numbered is = flat_map (λ index. held_text (slice_get numbered index)) is

-- What is kept, except for input `i`.
abbrev pub without : ℕ → (ℕ → Option PendingLine) → ℕ → Option PendingLine
without i kept j = if j == i then None else kept j

-- Something is kept of each input in the list, and no input is in the list twice.
abbrev pub AllKept : (ℕ → Option PendingLine) → List ℕ → Type 0
AllKept kept [] = ⊤
AllKept kept (i ∷ is) = IsSome (kept i) × AllKept (without i kept) is

-- The number of each out's input, in order.
abbrev pub inputs_given : List fanout.Out → List ℕ
inputs_given os = map (λ (o : fanout.Out). o.input) os

-- `kept` has each input of `is`, and no input is in `is` twice. `kept` has no input with the next
-- number, `count`.
pub record Keeps (kept : ℕ → Option PendingLine) (is : List ℕ) (count : ℕ) : Type 0 where
  pub all : AllKept kept is
  pub none : kept count ≡ None
