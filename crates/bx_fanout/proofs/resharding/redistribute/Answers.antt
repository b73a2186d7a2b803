use Rattle.std.proofs.Common.{ap, subst, sym}
use Rattle.std.specs.Arc.{arc_value}
use Rattle.bx_world.specs.Worlds.{WorldState}
use Rattle.bx_world.specs.declared.world.World.{World}
use Rattle.bx_fanout.specs.RoundStates.{IsConsistent}
use Rattle.bx_fanout.proofs.Standing.{level-intake, consistent-intake}
use Rattle.bx_fanout.proofs.resharding.redistribute.Goals as goal

pub returns-in-Ok-clause-consistent : goal.returns-in-Ok-clause-consistent
returns-in-Ok-clause-consistent g c =
    let e = c.in-Ok.ensures in
    consistent-intake c.args.state c.in-Ok.world c.args.shards (g.P.Placing.place_of (arc_value c.args.placing)) e.setup (ap (λ (w : WorldState). w.list) e.world) (ap (λ (w : WorldState). w.taken) e.world) c.requires.done c.requires.consistent

pub returns-in-Ok-clause-level : goal.returns-in-Ok-clause-level
returns-in-Ok-clause-level g c =
    let e = c.in-Ok.ensures in
    level-intake c.args.state c.in-Ok.world c.args.shards (ap (λ (w : WorldState). w.list) e.world) (ap (λ (w : WorldState). w.applied) e.world) c.requires.done c.requires.consistent

pub returns-in-Err-clause-consistent : goal.returns-in-Err-clause-consistent
returns-in-Err-clause-consistent g c =
    subst (λ (v : World g.row.P.Denot g.P.Placing). IsConsistent (record c.args.state { world = v })) (sym c.in-Err.ensures.same) c.requires.consistent
