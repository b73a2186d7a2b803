use Rattle.std.proofs.Common.{◌≡◌, ℕ, ◌<◌, List, [], ◌∷◌, map, length, refl, arith}
use Rattle.std.specs.Prelude.{None}
use Rattle.std.proofs.lemmas.{List.length-map}
use Rattle.bx_replay.specs.Arguments.{positional_in}
use Rattle.bx_replay.proofs.arguments.Arguments.parse_positional.Goals as goal

few : (args : List (List ℕ)) → length args < 5 → None ≡ positional_in args
few [] short = refl
few (a ∷ []) short = refl
few (a ∷ b ∷ []) short = refl
few (a ∷ b ∷ c ∷ []) short = refl
few (a ∷ b ∷ c ∷ d ∷ []) short = refl
few (a ∷ b ∷ c ∷ d ∷ e ∷ args) short = absurd (omega arith)

pub returns-in_default : goal.returns-in_default
returns-in_default c =
    let same = length-map c.args.args.now (λ arg. arg.now) in
    few (map (λ arg. arg.now) c.args.args.now) (omega (arith, same, c.in_default.len_below))
