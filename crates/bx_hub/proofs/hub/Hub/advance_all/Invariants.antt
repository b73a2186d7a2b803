use Rattle.std.proofs.Common.{◌≡◌, length}
use Rattle.std.specs.Prelude.{IfSome}
use Rattle.bx_hub.specs.Advancing.{IsAdvance}
use Rattle.bx_hub.proofs.hub.Hub.advance_all.Given as goal

abbrev pub invariant-loop-step : goal.invariant-loop-step
invariant-loop-step g l = (l.round.prefix.value ≡ l.prefix) × (l.round.shards ≡ l.shards) × (length l.round.stays ≡ l.step)
    × IfSome l.round.lowest (IsAdvance l.prefix)
