-- Lists of ticks at moment 0, which close no sessions.
use Rattle.std.specs.Prelude.{ℕ, zero, suc, ◌+◌, List, [], ◌∷◌, None}
use Rattle.bx_entry.specs.Listing.{Listed, Tick}
use Rattle.bx_entry.specs.declared.entry.Entry.{Entry}
use Rattle.bx_entry.specs.declared.entry.EntryKind.TheVariants as kinds

-- A list of a given number of ticks, each at moment 0.
abbrev pub ticks : ℕ → List Listed
ticks zero = []
ticks (suc n) = Tick 0 ∷ ticks n

-- The entry, at `place`, of a tick at moment 0 that closes no sessions.
abbrev pub tick_at : ℕ → Entry
tick_at place = record { place = place; moment = 0; kind = kinds.Tick []; rides = None }

-- The entries of a given number of ticks at moment 0, at consecutive places from `place` on.
abbrev pub tick_entries : ℕ → ℕ → List Entry
tick_entries place zero = []
tick_entries place (suc n) = tick_at place ∷ tick_entries (place + 1) n
