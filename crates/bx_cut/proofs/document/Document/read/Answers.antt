use Rattle.std.proofs.Common.{◌≡◌, Option, Some, Result, Ok, Err, sym, subst, arith}
use Rattle.std.specs.Result.{IfErr, IsErrAnd}
use Rattle.bx_cut.specs.declared.{error.CutError.CutError, error.CutError.TheVariants.Memory}
use Rattle.bx_cut.proofs.{Checks.fault-text, Checks.fault-no_text, Laws.pieces_read, Laws.pieces_lie}
use Rattle.bx_cut.proofs.document.Document.read.Goals as goal
use Rattle.std.proofs.lemmas.Grind.{common_steps}

passed : {T : Type 0} (r : Result T CutError) (x : CutError) (o : Option CutError) → IsErrAnd r (λ e. e ≡ x) → ((x ≡ Memory → ⊥) → o ≡ Some x) → IfErr r (λ e. (e ≡ Memory → ⊥) → o ≡ Some e)
passed (Ok a) x o h f = tt
passed (Err e) x o h f = subst (λ (y : CutError). (y ≡ Memory → ⊥) → o ≡ Some y) (sym h) f

pub returns-in_default-clause-fault : goal.returns-in_default-clause-fault
returns-in_default-clause-fault c n = fault-no_text c.args.body.now c.in_default.ensures.cases.0

pub returns-in_err-check-clause-fault : goal.returns-in_err-check-clause-fault
returns-in_err-check-clause-fault c = grind (arith, common_steps, passed, fault-text)

pub returns-clause-ok : goal.returns-clause-ok
returns-clause-ok c = grind (arith, common_steps, fault-text)

pub returns-clause-reads : goal.returns-clause-reads
returns-clause-reads c d e = grind (arith, common_steps, pieces_read)

pub returns-clause-order : goal.returns-clause-order
returns-clause-order c = grind (arith, common_steps, pieces_lie)
