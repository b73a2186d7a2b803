use Rattle.std.proofs.Common.{◌≡◌, take}
use Rattle.bx_registry.specs.Ids.{hex_value}
use Rattle.bx_registry.proofs.id.hex_value.Given as goal

abbrev pub invariant-loop-digit : goal.invariant-loop-digit
invariant-loop-digit l = l.number ≡ hex_value (take l.digit-index l.digits)
