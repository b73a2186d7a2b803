use Rattle.bx_theory.proofs.Nonces.{line_gets_nonce_announced_before}
use Rattle.bx_laws.proofs.laws.line_gets_nonce_announced_before.Goals as goal

pub returns : goal.returns
returns c = line_gets_nonce_announced_before
