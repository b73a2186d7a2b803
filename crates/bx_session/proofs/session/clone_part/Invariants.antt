use Rattle.std.proofs.Common.{◌≡◌, map}
use Rattle.bx_session.proofs.session.clone_part.Given as goal

abbrev pub invariant-loop-event : goal.invariant-loop-event
invariant-loop-event l = l.part.items ≡ map (λ x. x.now) l.yielded
