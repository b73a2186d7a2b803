use Rattle.std.proofs.Common.{rules}
use Rattle.bx_window.specs.Steps.{setup_of}
use Rattle.bx_hub.specs.Held.{held_of}
use Rattle.bx_hub.proofs.Held.{stands_in}
use Rattle.bx_hub.proofs.Surveys.{session_of}
use Rattle.bx_hub.proofs.shard_state.evidence.SessionEvidence.new.Goals as goal

pub returns : goal.returns
returns g c =
    let d = c.args.shard_state.now in
    session_of (setup_of g.L.LogId.config g.L.LogId.placing) (held_of d) c.args.index.now c.requires.0 c.args.survey.now _ (stands_in d) c.requires.1
    (search rules) (search rules) (search rules) c.place.ensures.place c.front.ensures.all
