use Rattle.std.proofs.Common.{⊎_elim}
use Rattle.bare_hyper.proofs.serve.serve_connections.Goals as goal

pub run_all-requires-clause-items : goal.run_all-requires-clause-items
run_all-requires-clause-items g c κs within = λ xs x came. ⊎_elim (λ taken. taken.1) (λ over. cc) came
