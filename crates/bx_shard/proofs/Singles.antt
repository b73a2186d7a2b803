-- Lists with at most one answer.
use Rattle.std.proofs.Common.{Contains, arith, ◌≡◌, ◌⊎◌, inl, inr, [], ◌∷◌, refl}
use Rattle.std.proofs.lemmas.List.Elements.{Contains-push_cases}
use Rattle.bx_session.specs.declared.answered.Answered.{Answered}

pub nowhere : (a : Answered) → Contains [] a → ⊥
nowhere a there = omega (arith, there.1)

pub only_one : (b a : Answered) → Contains (b ∷ []) a → b ≡ a
only_one b a there = by (Contains-push_cases [] b a there)
  where
    by : Contains [] a ⊎ (b ≡ a) → b ≡ a
    by (inl before) = absurd (nowhere a before)
    by (inr same) = same

pub the_one : (a : Answered) → Contains (a ∷ []) a
the_one a = (0, omega arith, refl)
