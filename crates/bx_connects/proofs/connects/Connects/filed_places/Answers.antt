use Rattle.std.proofs.Common.{subst}
use Rattle.bx_connects.specs.Connects.{AreApart, KnownConnects}
use Rattle.bx_connects.proofs.connects.Connects.filed_places.Goals as goal

pub returns-clause-apart : goal.returns-clause-apart
returns-clause-apart c = subst (λ (known : KnownConnects). AreApart known.held known.filed) c.self.view_is c.self.invariant.0
