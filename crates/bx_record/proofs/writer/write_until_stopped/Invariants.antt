use Rattle.std.proofs.Common.{◌≡◌, []}
use Rattle.bx_record.proofs.writer.write_until_stopped.Given as goal

abbrev pub invariant-loop : goal.invariant-loop
invariant-loop g l = (goal.iterator-loop g).can_next l.iterator' × (goal.iterator-loop g).is_finite l.iterator' × (l.text.items ≡ []) × (l.answers.items ≡ [])
