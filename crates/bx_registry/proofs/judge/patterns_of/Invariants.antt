use Rattle.std.proofs.Common.{◌≡◌, map, take}
use Rattle.std.specs.Prelude.{filter, not}
use Rattle.bx_names.specs.Words.{glob_of, is_service, segments}
use Rattle.bx_registry.proofs.judge.patterns_of.Given as goal

abbrev pub invariant-loop-text : goal.invariant-loop-text
invariant-loop-text l = l.patterns ≡ map (λ text. glob_of (segments text)) (filter (λ text. not (is_service text)) (take l.text-index l.text-items))
