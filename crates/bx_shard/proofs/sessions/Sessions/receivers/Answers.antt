use Rattle.std.proofs.Common.{◌≡◌, ◌&&◌, false, ap, sym, ◌∙◌}
use Rattle.bx_names.specs.Words.{any_matches, is_broadcast, segments}
use Rattle.bx_message.specs.declared.event.Event.{Event}
use Rattle.bx_shard.specs.Sessions.{patterns_in}
use Rattle.bx_shard.proofs.Handing.{none_there}
use Rattle.bx_shard.proofs.sessions.Sessions.receivers.Goals as goal

pub returns-then-not-is_broadcast-clause-exact : goal.returns-then-not-is_broadcast-clause-exact
returns-then-not-is_broadcast-clause-exact c = λ n.
    let e = c.args.event.now in
    let dark : is_broadcast e.channel ≡ false = ap is_broadcast (sym (c.as_str-channel.ensures ∙ ap (λ (e : Event). e.channel) c.event.ensures)) ∙ sym c.if-not-is_broadcast.ensures in
    none_there _ n _ c.new.ensures.items (ap (λ b. b && any_matches (patterns_in c.args.self.now n) (segments e.channel)) dark)
