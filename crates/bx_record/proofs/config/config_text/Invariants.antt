use Rattle.std.proofs.Common.{◌++◌, map, take}
use Rattle.bx_advice.specs.declared.limit.TheConstants.Limit.{ALL}
use Rattle.bx_record.specs.Configs.{first_words, limit_setting}
use Rattle.bx_record.proofs.Configs.{IsLine}
use Rattle.bx_record.proofs.config.config_text.Given as goal

abbrev pub invariant-loop-limit : goal.invariant-loop-limit
invariant-loop-limit l = IsLine (first_words l.config ++ map (limit_setting l.config.limits) (take l.limit-index ALL)) l.text.items
