use Rattle.std.proofs.Common.{sym, ap, ◌∙◌}
use Rattle.std.specs.Option.{option_map}
use Rattle.std.proofs.lemmas.Iterator.Consumers.{YieldsList-from_first, nth_from_yields_List}
use Rattle.bx_names.proofs.name.ChannelName.segment.Goals as goal

pub returns : goal.returns
returns c =
    let found = nth_from_yields_List c.nth.result _ c.args.k c.nth.ensures.ran (YieldsList-from_first (λ x. x.now) (λ s. s) c.args.self.now c.segments.ensures.segments) in
    sym found ∙ ap (option_map (λ x. x.now)) c.unwrap.ensures
