use Rattle.std.proofs.Common.{◌≡◌, [], refl}
use Rattle.std.specs.Prelude.{IsTrue}
use Rattle.bx_fanout.proofs.Passing.{consistent-ready, consistent-whole}
use Rattle.bx_fanout.proofs.pass_over.pass_over.Goals as goal

pub returns-in-Ok-true-clause-consistent : goal.returns-in-Ok-true-clause-consistent
returns-in-Ok-true-clause-consistent g c =
    let p = c.args.state.now in
    let bare : p.held ≡ [] = c.if-not-is_empty.ensures.0 refl in
    let test = c.in-Ok-true.field-0-test in
    let yes : IsTrue c.in-Ok-true.field-0 = cc in
    consistent-whole p c.in-Some.current c.collect_ready.new.current c.in-Some.ensures.some.0 bare c.in-Ok-true.ensures.so_far c.in-Ok-true.ensures.collects (c.in-Ok-true.ensures.whole yes) c.requires.consistent

pub returns-in-Ok-false-clause-consistent : goal.returns-in-Ok-false-clause-consistent
returns-in-Ok-false-clause-consistent g c =
    consistent-ready c.args.state.now c.in-Some.current c.collect_ready.new.current c.in-Some.ensures.some.0 c.collect_ready.ensures.so_far c.collect_ready.ensures.collects c.requires.consistent

pub returns-in-Err-clause-consistent : goal.returns-in-Err-clause-consistent
returns-in-Err-clause-consistent g c =
    consistent-ready c.args.state.now c.in-Some.current c.collect_ready.new.current c.in-Some.ensures.some.0 c.collect_ready.ensures.so_far c.collect_ready.ensures.collects c.requires.consistent
