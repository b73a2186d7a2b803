use Rattle.std.proofs.Common.{rules, None, refl}
use Rattle.bx_shard.specs.Sessions.{kept_in}
use Rattle.bx_shard.proofs.Ends.{forgetting_agrees}
use Rattle.bx_shard.proofs.sessions.Sessions.close.Goals as goal

pub returns-in-Some-held_place-clause-held : goal.returns-in-Some-held_place-clause-held
returns-in-Some-held_place-clause-held c = λ held.
    let old = c.args.self.now in
    forgetting_agrees _ _ (kept_in old) _ c.args.number None held (search rules) (search rules) (λ p. refl)
