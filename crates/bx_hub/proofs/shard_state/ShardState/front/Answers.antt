use Rattle.std.proofs.Common.{subst, sym}
use mathlib.Core.List.{IsPrefix}
use Rattle.bx_hub.proofs.Held.{taken_prefix}
use Rattle.bx_hub.proofs.shard_state.ShardState.front.Goals as goal

pub returns-clause-longer : goal.returns-clause-longer
returns-clause-longer g c =
    let d = c.args.self.now in
    subst (λ l. IsPrefix d.prefix l) (sym c.note.ensures) (taken_prefix d.prefix d.reader d.learnt)
