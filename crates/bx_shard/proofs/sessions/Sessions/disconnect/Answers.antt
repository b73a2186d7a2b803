use Rattle.std.proofs.Common.{rules, None}
use Rattle.bx_advice.specs.declared.advice.Outcome.TheVariants.{Disconnected}
use Rattle.bx_entry.specs.Sessions.{released}
use Rattle.bx_shard.specs.Effects.{answers_by}
use Rattle.bx_shard.specs.Sessions.{kept_in}
use Rattle.bx_shard.proofs.Ends.{filing_agrees, release_settles}
use Rattle.bx_shard.proofs.sessions.Sessions.disconnect.Goals as goal

pub returns-clause-held : goal.returns-clause-held
returns-clause-held c = λ held.
    let old = c.args.self.now in
    filing_agrees _ _ (kept_in old) _ c.args.number None (answers_by (released old.config c.args.place Disconnected) (kept_in old c.args.number)) c.args.place
    held (search rules) (search rules) (release_settles old.config c.args.place (kept_in old c.args.number))
