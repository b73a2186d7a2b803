use Rattle.std.proofs.Common.{◌≡◌, ◌+◌, take}
use Rattle.std.specs.List.{sum_by}
use Rattle.bx_advice.specs.declared.limit.TheConstants.{BODY_LIMIT}
use Rattle.bx_cut.specs.Bodies.{texts_of}
use Rattle.bx_record.proofs.Forms.{weight_of}
use Rattle.bx_record.proofs.form.form_len.Given as goal

abbrev pub invariant-loop-i : goal.invariant-loop-i
invariant-loop-i l = l.room + sum_by weight_of (take l.i (texts_of l.bodies)) ≡ BODY_LIMIT + 1
