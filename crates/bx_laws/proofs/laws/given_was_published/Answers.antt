use Rattle.bx_laws.proofs.Given.{given_was_published}
use Rattle.bx_laws.proofs.laws.given_was_published.Goals as goal

pub returns : goal.returns
returns c = given_was_published
