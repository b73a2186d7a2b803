use Rattle.std.proofs.Common.{◌≡◌, ◌∙◌, arith, length, sym}
use Rattle.bx_world.specs.Seen.{world_of}
use Rattle.bx_fanout.proofs.{Lagging.none-lack, TakingIn.level-all}
use Rattle.bx_fanout.proofs.level.level.Goals as goal

pub returns-then-bring_up-gt0-clause-lags : goal.returns-then-bring_up-gt0-clause-lags
returns-then-bring_up-gt0-clause-lags g c = λ level.
    let v = c.bring_up.new.self in
    let none : c.bring_up.result ≡ 0 = c.bring_up.ensures.count ∙ none-lack (length (world_of v).list) (world_of v).applied level in
    omega (arith, c.if-bring_up-gt0.true)

pub returns-clause-level : goal.returns-clause-level
returns-clause-level g c =
    let v = c.bring_up.new.self in
    let none : c.bring_up.result ≡ 0 = omega arith in
    level-all (length (world_of v).list) (world_of v).applied (sym c.bring_up.ensures.count ∙ none)
