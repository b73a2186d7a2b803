use Rattle.std.proofs.Common.{◌<◌, length, sym, append-nil, arith}
use Rattle.bx_cut.specs.Bodies.{texts_of}
use Rattle.bx_record.proofs.Forms.{first_pushed, form_of_none, next_pushed}
use Rattle.bx_record.proofs.form.push_form.Goals as goal
use Rattle.bx_record.proofs.form.push_form.Goals.{then-i-gt0+in_ok-push, else-i-gt0}

pub loop-i-init : goal.loop-i-init
loop-i-init c = rw form_of_none (sym (append-nil c.args.text.now.items))

pub loop-i-preserved : goal.loop-i-preserved
loop-i-preserved c =
    let ds = texts_of c.args.bodies.now in
    let inside : c.loop-i.i < length (texts_of c.args.bodies.now) = omega arith in
    rw c.in_ok-push_parameter.ensures
    (elim c.if-i-gt0.branch [
      | then-i-gt0+in_ok-push w ↦ rw (w.text-is, w.in_ok-push.ensures.items) (next_pushed ds c.loop-i.i c.args.text.now.items c.loop-i.text.items c.get.result.now c.get.ensures inside w.if-i-gt0.true c.loop-i.invariant)
      | else-i-gt0 w ↦ rw w.text-is (first_pushed ds c.loop-i.i c.args.text.now.items c.loop-i.text.items c.get.result.now c.get.ensures inside w.if-i-gt0.false c.loop-i.invariant)
    ])
