-- The arguments that the first line of a record gives.
use Rattle.std.specs.Prelude.{ℕ, Option, Some, None, Result, Ok, Err, List, option_map}
use Rattle.bx_advice.specs.declared.config.Config.{Config}
use Rattle.bx_record.specs.Configs.{recorded_config}
use Rattle.bx_replay.specs.declared.argument_error.FirstLineError.{FirstLineError}
use Rattle.bx_replay.specs.declared.arguments.Arguments.{Arguments}

-- The configuration and the number of workers that the first line of a record gives, if it is
-- valid. There is one worker.
abbrev pub recorded_in : List ℕ → Option (Config × ℕ)
recorded_in text = option_map (λ c. (c, 1)) (recorded_config text)

-- The configuration and the number of workers in a result of reading the first line of a record.
abbrev pub recorded : Result Arguments FirstLineError → Option (Config × ℕ)
recorded (Ok arguments) = Some (arguments.config, arguments.workers)
recorded (Err fault) = None
