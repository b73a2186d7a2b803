use Rattle.std.proofs.Common.{◌≡◌, ◌+◌, ◌<◌, ◌≤◌, ◌∙◌, List, ap, arith, length, map, subst, sym}
use Rattle.std.proofs.lemmas.List.{length_push}
use Rattle.bx_entry.specs.Requests.{read_input}
use Rattle.bx_entry.specs.declared.input.Input.{Input}
use Rattle.bx_world.specs.Seen.{setup_of, world_of}
use Rattle.bx_fanout.specs.Stages.{IsTakenIn, seen_out}
use Rattle.bx_fanout.proofs.NoEntries.{consistent-collecting, consistent-complete}
use Rattle.bx_fanout.proofs.round_state.take_in_next.Goals.{After-push, then-current-entries, else-current-entries}
use Rattle.bx_fanout.proofs.round_state.take_in_next.Goals as goal

taken : (g : _) (c : After-push g) →
    IsTakenIn (setup_of c.take_in.new.world) (map read_input c.push.new.self) (world_of c.take_in.new.world) c.args.state.now.held c.in_ok-current.current (map seen_out c.args.state.now.added)
taken g c =
    let v = c.take_in.new.world in
    subst (λ (inputs : List Input). IsTakenIn (setup_of v) (map read_input inputs) (world_of v) c.args.state.now.held c.in_ok-current.current (map seen_out c.args.state.now.added)) (sym c.push.ensures) c.in_ok-current.ensures.intake

counted : (g : _) (c : After-push g) → c.args.state.now.intake + 1 ≡ length c.push.new.self
counted g c =
    let p = c.args.state.now in
    ap (λ n. n + 1) c.requires.consistent.counted ∙ sym (length_push p.inputs c.args.input.now) ∙ ap (λ (inputs : List Input). length inputs) (sym c.push.ensures)

pub returns-clause-consistent : goal.returns-clause-consistent
returns-clause-consistent g c =
    let n = c.in_ok-current.current in
    let here = (goal.at.returns-clause-consistent g c).After-push in
    elim c.if-current-entries.branch [
      | then-current-entries w ↦
          let less : n.first < length (world_of c.take_in.new.world).list = omega (arith, w.if-current-entries.true, c.entries.ensures) in
          consistent-collecting _ n w.stage-is (counted g here) (taken g here) (c.in_ok-current.ensures.lags less)
      | else-current-entries w ↦
          let few : length (world_of c.take_in.new.world).list ≤ n.first = omega (arith, w.if-current-entries.false, c.entries.ensures) in
          consistent-complete _ n w.stage-is (counted g here) (taken g here) few
    ]
