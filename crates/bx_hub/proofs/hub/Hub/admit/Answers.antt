use Rattle.bx_window.proofs.Fronts.{prefix_trans}
use Rattle.bx_hub.specs.Submissions.{input_of}
use Rattle.bx_hub.proofs.Posts.{admitted_before}
use Rattle.bx_hub.proofs.hub.Hub.admit.Goals as goal

pub returns-in-Ok-admit-clause-admitted : goal.returns-in-Ok-admit-clause-admitted
returns-in-Ok-admit-clause-admitted g c =
    let mid = c.advance_and_trim.new.pass in
    let before = prefix_trans c.args.pass.now c.admit.new.pass mid c.admit.ensures.seen c.advance_and_trim.ensures.seen in
    admitted_before (input_of c.args.wanted.now) c.in-Ok-admit.admitted.first c.args.pass.now mid c.admit-2.new.pass before c.in-Ok-admit.ensures.admitted
