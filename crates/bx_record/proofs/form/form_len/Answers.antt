use Rattle.std.proofs.Common.{◌<◌, length, rules, arith}
use Rattle.bx_advice.specs.declared.limit.TheConstants.{BODY_LIMIT}
use Rattle.bx_cut.specs.Bodies.{texts_of}
use Rattle.bx_record.specs.Record.{form_of}
use Rattle.bx_record.proofs.Forms.{too_long}
use Rattle.bx_record.proofs.form.form_len.Goals as goal

pub returns-in_err-room : goal.returns-in_err-room
returns-in_err-room c =
    let inside : c.loop-i.i < length (texts_of c.args.bodies.now) = omega arith in
    let over : BODY_LIMIT < length (form_of (texts_of c.args.bodies.now)) =
    too_long (texts_of c.args.bodies.now) c.loop-i.i c.loop-i.room c.get.result.now c.get.ensures inside c.loop-i.invariant c.in_err-room.ensures in
    search rules
