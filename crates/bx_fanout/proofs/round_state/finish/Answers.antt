use Rattle.std.proofs.Common.{◌≡◌, ap, false, map, subst, sym}
use Rattle.bx_entry.specs.Requests.{read_input}
use Rattle.bx_fanout.specs.RoundStates.{IsConsistent}
use Rattle.bx_fanout.specs.declared.stage.Stage.{Stage}
use Rattle.bx_fanout.specs.Stages.{is_collecting, seen_out}
use Rattle.bx_world.specs.Seen.{setup_of, world_of}
use Rattle.bx_fanout.proofs.{Finishing.intake-at, Standing.consistent-over}
use Rattle.bx_fanout.proofs.round_state.finish.Goals as goal

pub returns-in_default-clause-consistent : goal.returns-in_default-clause-consistent
returns-in_default-clause-consistent g c =
    let e = c.level.ensures in
    let none : is_collecting c.args.state.now.stage ≡ false = c.in_default.ensures.none.0 in
    subst (λ (s : Stage). IsConsistent (record c.args.state.now { world = c.level.new.world; stage = s })) (sym c.in_default.ensures.none.1)
    (consistent-over c.args.state.now c.level.new.world e.setup e.list e.taken (λ some. cc) c.requires.consistent)

pub bring_in-requires-clause-lags : goal.bring_in-requires-clause-lags
bring_in-requires-clause-lags g c κs lived = c.requires.consistent.lags (ap is_collecting c.in-Some.ensures.some.0)

pub bring_in-requires-clause-intake : goal.bring_in-requires-clause-intake
bring_in-requires-clause-intake g c κs lived =
    let p = c.args.state.now in
    intake-at (setup_of p.world) (map read_input p.inputs) (world_of p.world) p.held p.stage c.in-Some.current (map seen_out p.added) c.in-Some.ensures.some.0 c.requires.consistent.staged
