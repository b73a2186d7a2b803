use Rattle.bx_record.proofs.Configs.{configs}
use Rattle.bx_record.proofs.laws.configs_read_back.Goals as goal

pub returns : goal.returns
returns c = configs
