use Rattle.std.proofs.Common.{◌≡◌, ◌++◌, take}
use Rattle.bx_cut.specs.Bodies.{texts_of}
use Rattle.bx_record.specs.Record.{form_of}
use Rattle.bx_record.proofs.form.push_form.Given as goal

abbrev pub invariant-loop-i : goal.invariant-loop-i
invariant-loop-i l = l.text.items ≡ l.fn.text.items ++ form_of (take l.i (texts_of l.bodies))
