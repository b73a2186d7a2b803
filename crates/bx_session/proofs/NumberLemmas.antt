-- A session forms no more batches than there are entries.
use Rattle.std.proofs.Common.{ℕ, ◌+◌, ◌≤◌, Option, List, [], ◌∷◌, length, fold, arith}
use Rattle.std.proofs.lemmas.Grind.{common_steps}
use Rattle.bx_advice.specs.declared.config.Config.{Config}
use Rattle.bx_entry.specs.declared.entry.{Entry.Entry, EntryKind.EntryKind, Rider.Rider}
use Rattle.bx_entry.specs.Words.{Session, unopened, step_by, ridden_by, rider_of, step, session, Kept, resumed, kept_step}

step_n : (config : Config) (place moment : ℕ) (t : Session) (kind : EntryKind) → (step_by config place moment t kind).num ≤ t.num + 1
step_n config place moment t kind = grind (arith, common_steps)

ridden_n : (config : Config) (place : ℕ) (rides : Option Rider) (t : Session) → (ridden_by config place t rides).num ≤ t.num
ridden_n config place rides t = grind (arith, common_steps)

entry_n : (config : Config) (t : Session) (e : Entry) → (step config t e).num ≤ t.num + 1
entry_n config t e = omega (arith, step_n config e.place e.moment t e.kind, ridden_n config e.place (rider_of e.kind e.rides) (step_by config e.place e.moment t e.kind))

pub entry_forms_at_most_one_batch : (config : Config) (k : Kept) (e : Entry) → (kept_step config k e).num ≤ k.num + 1
entry_forms_at_most_one_batch config k e = entry_n config (resumed k) e

run_n : (config : Config) (s : Session) (es : List Entry) → (fold (step config) s es).num ≤ s.num + length es
run_n config s [] = omega arith
run_n config s (e ∷ es) = omega (arith, entry_n config s e, run_n config (step config s e) es)

pub batches_at_most_entries : (config : Config) (number : ℕ) (es : List Entry) → (session config number es).num ≤ length es
batches_at_most_entries config number es = omega (arith, run_n config (unopened number) es)
