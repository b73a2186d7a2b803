-- How many batches a session forms.
use Rattle.std.specs.Prelude.{ℕ, ◌+◌, ◌≤◌, List, length}
use Rattle.bx_advice.specs.declared.config.Config.{Config}
use Rattle.bx_entry.specs.Words.{Kept, kept_step, session}
use Rattle.bx_entry.specs.declared.entry.Entry.{Entry}

-- A session forms at most one batch for each entry.
abbrev pub NumbersStep : Type 0
NumbersStep = (config : Config) (k : Kept) (e : Entry) → (kept_step config k e).num ≤ k.num + 1

-- A session forms no more batches than there are entries.
abbrev pub NumbersCount : Type 0
NumbersCount = (config : Config) (number : ℕ) (es : List Entry) → (session config number es).num ≤ length es
