use Rattle.std.proofs.Common.{ap, ◌∙◌}
use Rattle.std.specs.Prelude.{◌==◌, is_some}
use Rattle.std.specs.List.{list_any}
use Rattle.bx_entry.specs.Registry.{Registered}
use Rattle.bx_registry.specs.Words.{Roll, Standing, roll_at}
use Rattle.bx_registry.proofs.Known.{is_some_known_at, is_some_map}
use Rattle.bx_registry.proofs.registry.Registry.live.Goals as goal

pub returns : goal.returns
returns c =
    c.is_some.ensures ∙ is_some_map _ c.client_and_ack_of.result ∙ ap is_some c.client_and_ack_of.ensures ∙ is_some_known_at c.args.number c.self.inside.table.members.live
    ∙ ap (λ (r : Roll). list_any (λ (s : Registered). s.number == c.args.number) r.members.live) c.self.invariant.4
    ∙ ap (λ (s : Standing). list_any (λ (r : Registered). r.number == c.args.number) (roll_at s.config s.list).members.live) c.self.view_is
