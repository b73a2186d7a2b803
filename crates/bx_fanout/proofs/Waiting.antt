-- Proves which input numbers the held connects without an answer have.
use Rattle.std.proofs.Common.{◌≡◌, ℕ, Bool, true, false, List, [], ◌∷◌, map, filter, refl, ap, cond}
use Rattle.std.specs.Prelude.{is_none}
use Rattle.std.specs.Map.{values_of}
use Rattle.bx_fanout.specs.HeldInputs.{Row, numbers, waits}
use Rattle.bx_fanout.specs.declared.held_inputs.HeldInput.{HeldInput}

abbrev pub waiting_in : List HeldInput → List ℕ
waiting_in hs = map (λ (h : HeldInput). h.number) (filter (λ (h : HeldInput). is_none h.answer) hs)

pub waiting-are : (rows : List Row) → waiting_in (values_of rows) ≡ numbers (filter waits rows)
waiting-are [] = refl
waiting-are (row ∷ rows) = by (waiting-are rows) (is_none row.1.answer)
  where
    by : waiting_in (values_of rows) ≡ numbers (filter waits rows) → (b : Bool) →
        map (λ (h : HeldInput). h.number) (cond b (row.1 ∷ filter (λ (h : HeldInput). is_none h.answer) (values_of rows)) (filter (λ (h : HeldInput). is_none h.answer) (values_of rows)))
        ≡ numbers (cond b (row ∷ filter waits rows) (filter waits rows))
    by same true = ap (λ (ns : List ℕ). row.1.number ∷ ns) same
    by same false = same
