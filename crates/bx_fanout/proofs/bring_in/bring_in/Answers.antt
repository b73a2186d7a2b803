use Rattle.std.proofs.Common.{◌≡◌, ◌++◌, ◌∷◌, ◌∙◌, [], None, List, ap, map, refl, subst, sym}
use Rattle.bx_entry.specs.Requests.{read_input}
use Rattle.bx_world.specs.Seen.{setup_of, world_of}
use Rattle.bx_fanout.specs.Words.{Row, CanDrain, Drained, IsTakenIn, seen_out}
use Rattle.bx_fanout.specs.CurrentInputs.{IsLevel, IsWhole, out_of}
use Rattle.bx_fanout.specs.declared.current_input.CurrentInput.{CurrentInput}
use Rattle.bx_fanout.proofs.{Collecting.level-kept, Passing.intake-room, Stages.giving-held, Stages.giving-whole}
use Rattle.bx_fanout.proofs.TakingIn.{can-drain, can-drain-held, collected-intake, giving-of, held-below, intake-same, on-err}
use Rattle.bx_fanout.proofs.bring_in.bring_in.Goals as goal
use Rattle.bx_fanout.proofs.bring_in.bring_in.Goals.{After-reserve, After-level, After-collect}

-- The last input with room for its answers.
abbrev roomy : (g : _) (c : After-reserve g) → CurrentInput
roomy g c = record c.args.current.now { answers = c.reserve.new.self }

reserved : (g : _) (c : After-reserve g) → IsTakenIn (setup_of c.args.world.now) (map read_input c.args.inputs.now) (world_of c.args.world.now) c.args.held.now (roomy g c) (map seen_out c.args.added.now)
reserved g c =
    let w = c.args.world.now in
    intake-room (setup_of w) (map read_input c.args.inputs.now) (world_of w) c.args.held.now c.args.current.now (roomy g c) (map seen_out c.args.added.now) w.registry.config.limits.some_batch refl c.reserve.ensures.items c.requires.intake

leveled : (g : _) (c : After-level g) → IsTakenIn (setup_of c.args.world.now) (map read_input c.args.inputs.now) (world_of c.args.world.now) c.args.held.now (record c.args.current.now { answers = c.reserve.new.self }) (map seen_out c.args.added.now) →
    IsTakenIn (setup_of c.level.new.world) (map read_input c.args.inputs.now) (world_of c.level.new.world) c.args.held.now (record c.args.current.now { answers = c.reserve.new.self }) (map seen_out c.args.added.now)
leveled g c d =
    let w = c.args.world.now in
    let v = c.level.new.world in
    intake-same (setup_of v) (setup_of w) (map read_input c.args.inputs.now) (world_of w) (world_of v) c.args.held.now (record c.args.current.now { answers = c.reserve.new.self }) (map seen_out c.args.added.now) c.level.ensures.setup c.level.ensures.list c.level.ensures.taken d

collected : (g : _) (c : After-collect g) →
    IsTakenIn (setup_of c.level.new.world) (map read_input c.args.inputs.now) (world_of c.level.new.world) c.args.held.now (record c.args.current.now { answers = c.reserve.new.self }) (map seen_out c.args.added.now) →
    IsTakenIn (setup_of c.collect.new.world) (map read_input c.args.inputs.now) (world_of c.collect.new.world) c.args.held.now c.collect.new.self (map seen_out c.args.added.now)
collected g c d =
    let w = c.level.new.world in
    let v = c.collect.new.world in
    collected-intake (setup_of v) (setup_of w) (map read_input c.args.inputs.now) (world_of w) (world_of v) c.args.held.now (record c.args.current.now { answers = c.reserve.new.self }) c.collect.new.self (map seen_out c.args.added.now) w.registry.config.limits.some_batch
    c.collect.ensures.setup d c.collect.ensures.so_far c.collect.ensures.world c.collect.ensures.collects

level : (g : _) (c : After-collect g) → IsLevel (world_of c.collect.new.world)
level g c = level-kept (world_of c.level.new.world) (world_of c.collect.new.world) c.collect.ensures.world.list c.collect.ensures.world.applied c.in_default.ensures.level

same-row : (g : _) (c : After-collect g) → ◌≡◌ {A = Row} (c.collect.new.self.first, record { number = c.collect.new.self.number; answer = None }) (c.args.current.now.first, record { number = c.args.current.now.number; answer = None })
same-row g c = λ i. (c.collect.ensures.collects.first i, record { number = c.collect.ensures.collects.number i; answer = None })

pub returns-in_err-reserve-clause-intake : goal.returns-in_err-reserve-clause-intake
returns-in_err-reserve-clause-intake g c = on-err c.from_residual.result (reserved g (goal.at.returns-in_err-reserve-clause-intake g c).After-reserve)

pub hold-requires : goal.hold-requires
hold-requires g c =
    let w = c.args.world.now in
    let d = c.requires.intake in
    held-below (setup_of w) d.earlier d.last (world_of w) c.args.held.now c.args.current.now (map seen_out c.args.added.now) w.registry.config.limits.some_batch d.collecting

pub returns-in_err-hold-clause-intake : goal.returns-in_err-hold-clause-intake
returns-in_err-hold-clause-intake g c =
    let w = c.args.world.now in
    let at = goal.at.returns-in_err-hold-clause-intake g c in
    on-err c.from_residual-in_err-hold.result
    (subst (λ (rs : List Row). IsTakenIn (setup_of w) (map read_input c.args.inputs.now) (world_of w) rs (roomy g at.After-reserve) (map seen_out c.args.added.now)) (sym c.in_err-hold.ensures.err) (reserved g at.After-reserve))

pub returns-in-Err-clause-intake : goal.returns-in-Err-clause-intake
returns-in-Err-clause-intake g c =
    let v = c.level.new.world in
    let at = goal.at.returns-in-Err-clause-intake g c in
    subst (λ (rs : List Row). IsTakenIn (setup_of v) (map read_input c.args.inputs.now) (world_of v) rs (roomy g at.After-reserve) (map seen_out c.args.added.now))
    (sym (c.release.ensures c.args.held.now _ c.in_ok-hold.ensures.ok)) (leveled g at.After-level (reserved g at.After-reserve))

pub drain-requires : goal.drain-requires
drain-requires g c =
    let v = c.collect.new.world in
    let at = goal.at.drain-requires g c in
    let d = collected g at.After-collect (leveled g at.After-level (reserved g at.After-reserve)) in
    record {
      can = subst (CanDrain (setup_of v) (world_of v)) (sym (c.release-then-collect.ensures c.args.held.now _ c.in_ok-hold.ensures.ok))
          (can-drain (setup_of v) d.earlier d.last (world_of v) c.args.held.now c.collect.new.self (map seen_out c.args.added.now) v.registry.config.limits.some_batch d.collecting (level g at.After-collect));
    }

pub returns-then-collect-clause-giving : goal.returns-then-collect-clause-giving
returns-then-collect-clause-giving g c =
    let v = c.collect.new.world in
    let m = c.collect.new.self in
    let x = c.drain.new.world in
    let added = map seen_out c.args.added.now in
    let at = goal.at.returns-then-collect-clause-giving g c in
    let d = collected g at.After-collect (leveled g at.After-level (reserved g at.After-reserve)) in
    let whole = subst (IsWhole (setup_of v).config (world_of v).list m) c.if-collect.true c.collect.ensures.whole in
    let drained = subst (λ (rs : List Row). Drained (setup_of v) (world_of v) rs (world_of x) c.drain.new.held) (c.release-then-collect.ensures c.args.held.now _ c.in_ok-hold.ensures.ok) c.drain.ensures.drained in
    giving-of (setup_of x) (setup_of v) (map read_input c.args.inputs.now) (d.earlier ++ d.last ∷ []) (world_of x) c.drain.new.held (seen_out (out_of m) ∷ []) added c.drain.ensures.setup d.are
    (giving-whole (setup_of v) d.earlier d.last (world_of v) (world_of x) c.args.held.now c.drain.new.held m added v.registry.config.limits.some_batch d.collecting whole drained)

pub drain-requires-2 : goal.drain-requires-2
drain-requires-2 g c =
    let v = c.collect.new.world in
    let m = c.collect.new.self in
    let at = goal.at.drain-requires-2 g c in
    let d = collected g at.After-collect (leveled g at.After-level (reserved g at.After-reserve)) in
    let missing = subst (IsWhole (setup_of v).config (world_of v).list m) c.if-collect.false c.collect.ensures.whole in
    record {
      can = subst (CanDrain (setup_of v) (world_of v)) (ap (λ (r : Row). c.args.held.now ++ r ∷ []) (same-row g at.After-collect) ∙ sym c.in_ok-hold.ensures.ok)
          (can-drain-held (setup_of v) d.earlier d.last (world_of v) c.args.held.now m (map seen_out c.args.added.now) v.registry.config.limits.some_batch d.collecting (level g at.After-collect) missing.0 missing.1);
    }

pub returns-clause-giving : goal.returns-clause-giving
returns-clause-giving g c =
    let v = c.collect.new.world in
    let m = c.collect.new.self in
    let x = c.drain-2.new.world in
    let added = map seen_out c.args.added.now in
    let at = goal.at.returns-clause-giving g c in
    let d = collected g at.After-collect (leveled g at.After-level (reserved g at.After-reserve)) in
    let missing = subst (IsWhole (setup_of v).config (world_of v).list m) c.if-collect.false c.collect.ensures.whole in
    let drained = subst (λ (rs : List Row). Drained (setup_of v) (world_of v) rs (world_of x) c.drain-2.new.held) (c.in_ok-hold.ensures.ok ∙ ap (λ (r : Row). c.args.held.now ++ r ∷ []) (sym (same-row g at.After-collect))) c.drain-2.ensures.drained in
    giving-of (setup_of x) (setup_of v) (map read_input c.args.inputs.now) (d.earlier ++ d.last ∷ []) (world_of x) c.drain-2.new.held [] added c.drain-2.ensures.setup d.are
    (giving-held (setup_of v) d.earlier d.last (world_of v) (world_of x) c.args.held.now c.drain-2.new.held m added v.registry.config.limits.some_batch d.collecting missing.0 missing.1 drained)
