use Rattle.std.proofs.Common.{◌∙◌, subst, sym}
use Rattle.bx_script.specs.Printing.{Writes}
use Rattle.bx_script.proofs.Fronts.{fault_writes, front_first, front_second, line_parts, writes_second}
use Rattle.bx_script.proofs.print.write_line.Goals as goal

pub returns-in_err-put-clause-text : goal.returns-in_err-put-clause-text
returns-in_err-put-clause-text g c =
    let parts = line_parts c.args.number c.as_bytes.result.now c.args.lead.now c.args.text.now (c.as_bytes.ensures.value ∙ c.format.ensures.text) in
    fault_writes _ _ c.from_residual.result _ _ parts c.from_residual.ensures.0 (front_first _ _ _ _ c.in_err-put.ensures.text)

pub returns-in_err-put-2-clause-text : goal.returns-in_err-put-2-clause-text
returns-in_err-put-2-clause-text g c =
    let parts = line_parts c.args.number c.as_bytes.result.now c.args.lead.now c.args.text.now (c.as_bytes.ensures.value ∙ c.format.ensures.text) in
    fault_writes _ _ c.from_residual-in_err-put-2.result _ _ parts c.from_residual-in_err-put-2.ensures.0
    (front_second _ _ _ _ _ c.in_ok-put.ensures.text (front_first _ _ _ _ c.in_err-put-2.ensures.text))

pub returns-in_err-put-3-clause-text : goal.returns-in_err-put-3-clause-text
returns-in_err-put-3-clause-text g c =
    let parts = line_parts c.args.number c.as_bytes.result.now c.args.lead.now c.args.text.now (c.as_bytes.ensures.value ∙ c.format.ensures.text) in
    fault_writes _ _ c.from_residual-in_err-put-3.result _ _ parts c.from_residual-in_err-put-3.ensures.0
    (front_second _ _ _ _ _ c.in_ok-put.ensures.text (front_second _ _ _ _ _ c.in_ok-put-2.ensures.text (front_first _ _ _ _ c.in_err-put-3.ensures.text)))

pub returns-in_err-put-4-clause-text : goal.returns-in_err-put-4-clause-text
returns-in_err-put-4-clause-text g c =
    let parts = line_parts c.args.number c.as_bytes.result.now c.args.lead.now c.args.text.now (c.as_bytes.ensures.value ∙ c.format.ensures.text) in
    fault_writes _ _ c.from_residual-in_err-put-4.result _ _ parts c.from_residual-in_err-put-4.ensures.0
    (front_second _ _ _ _ _ c.in_ok-put.ensures.text (front_second _ _ _ _ _ c.in_ok-put-2.ensures.text (front_second _ _ _ _ _ c.in_ok-put-3.ensures.text (front_first _ _ _ _ c.in_err-put-4.ensures.text))))

pub returns-clause-text : goal.returns-clause-text
returns-clause-text g c =
    let parts = line_parts c.args.number c.as_bytes.result.now c.args.lead.now c.args.text.now (c.as_bytes.ensures.value ∙ c.format.ensures.text) in
    subst (Writes _ _ c.put-5.result) (sym parts)
    (writes_second _ _ _ _ _ _ c.in_ok-put.ensures.text (writes_second _ _ _ _ _ _ c.in_ok-put-2.ensures.text (writes_second _ _ _ _ _ _ c.in_ok-put-3.ensures.text (writes_second _ _ _ _ _ _ c.in_ok-put-4.ensures.text c.put-5.ensures.text))))
