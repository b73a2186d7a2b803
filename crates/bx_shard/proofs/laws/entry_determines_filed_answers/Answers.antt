use Rattle.bx_shard.proofs.Filings.{entry_determines_filed_answers}
use Rattle.bx_shard.proofs.laws.entry_determines_filed_answers.Goals as goal

pub returns : goal.returns
returns c = entry_determines_filed_answers
