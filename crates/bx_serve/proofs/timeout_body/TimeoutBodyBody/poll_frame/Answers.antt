use Rattle.std.proofs.Common.{Some, None, Ok, Err, rules}
use Rattle.bx_serve.specs.declared.timeout_body.TimeoutBodyFault.TheVariants.{Body, Late}
use Rattle.bx_serve.proofs.TimeoutLemmas.{first, going, failing}
use Rattle.bx_serve.proofs.timeout_body.TimeoutBodyBody.poll_frame.Goals as goal

pub returns-in-Ready-Some-Ok-clause-value : goal.returns-in-Ready-Some-Ok-clause-value
returns-in-Ready-Some-Ok-clause-value g c = first (g.B.Body.yields c.args.self.now.body) (Some (Ok c.in-Ready-Some-Ok.frame)) (search rules)

pub returns-in-Ready-Some-Ok-clause-rest : goal.returns-in-Ready-Some-Ok-clause-rest
returns-in-Ready-Some-Ok-clause-rest g c = going (g.B.Body.yields c.args.self.now.body) (g.B.Body.yields c.poll_frame.new.self) c.in-Ready-Some-Ok.frame (search rules)

pub returns-in-Ready-Some-Err-clause-value : goal.returns-in-Ready-Some-Err-clause-value
returns-in-Ready-Some-Err-clause-value g c = first (g.B.Body.yields c.args.self.now.body) (Some (Err (Body c.in-Ready-Some-Err.error))) (search rules)

pub returns-in-Ready-Some-Err-clause-rest : goal.returns-in-Ready-Some-Err-clause-rest
returns-in-Ready-Some-Err-clause-rest g c = failing (g.B.Body.yields c.args.self.now.body) (Body c.in-Ready-Some-Err.error) _

pub returns-in-Ready-None-clause-value : goal.returns-in-Ready-None-clause-value
returns-in-Ready-None-clause-value g c = first (g.B.Body.yields c.args.self.now.body) None (search rules)

pub returns-in-Ready-ready-clause-rest : goal.returns-in-Ready-ready-clause-rest
returns-in-Ready-ready-clause-rest g c = failing (g.B.Body.yields c.args.self.now.body) Late _
