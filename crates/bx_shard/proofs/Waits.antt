-- The slots of connects and riders wait for their sessions.
use Rattle.std.proofs.Common.{arith, ◌≡◌, ℕ, Option, Some, List, slice_get}
use Rattle.bx_advice.specs.declared.config.Config.{Config}
use Rattle.bx_entry.specs.Words.{Listed, PlaceSlot, Waiting, registry, entries_of, rider_of}
use Rattle.bx_entry.specs.declared.entry.{Entry.Entry, EntryKind.EntryKind, Rider.Rider}
use Rattle.bx_shard.specs.States.{connecting, riding}
use Rattle.bx_theory.proofs.Waits.{RidesBy, WaitsAt, WaitsBy, all_waits, judged_at}

-- ---- the slot of a connect

slot_waits : (slot : PlaceSlot) (k : EntryKind) (m : ℕ) → WaitsBy slot k → connecting k ≡ Some m → slot ≡ Waiting m
slot_waits slot k m w h = grind arith

pub connect_waits : (config : Config) (xs : List Listed) (n m : ℕ) (e : Entry) → slice_get (entries_of (registry config xs)) n ≡ Some e → connecting e.kind ≡ Some m → WaitsAt (registry config xs).judged m n
connect_waits config xs n m e h k =
    judged_at (λ x i. connecting x.kind ≡ Some i) (λ j i w c. slot_waits j.slot j.entry.kind i w.0 c) (registry config xs).judged n m e (all_waits config xs) h k

-- ---- the slot of a rider

ride_waits : (slot : PlaceSlot) (kind : EntryKind) (rides : Option Rider) (m : ℕ) → RidesBy slot rides → riding (rider_of kind rides) ≡ Some m → slot ≡ Waiting m
ride_waits slot kind rides m w h = grind arith

pub rider_waits : (config : Config) (xs : List Listed) (n m : ℕ) (e : Entry) → slice_get (entries_of (registry config xs)) n ≡ Some e → riding (rider_of e.kind e.rides) ≡ Some m → WaitsAt (registry config xs).judged m n
rider_waits config xs n m e h k =
    judged_at (λ x i. riding (rider_of x.kind x.rides) ≡ Some i) (λ j i w r. ride_waits j.slot j.entry.kind j.entry.rides i w.1 r) (registry config xs).judged n m e (all_waits config xs) h k
