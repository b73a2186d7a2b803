use Rattle.std.proofs.Common.{ap, sym, ◌∙◌}
use Rattle.bx_connects.specs.Connects.{connect_at, filing_at, hold_at}
use Rattle.bx_connects.proofs.HoldLemmas.{lookup-last, not_held}
use Rattle.bx_connects.proofs.connects.Connects.take_any.Goals as goal

pub returns-clause-filed : goal.returns-clause-filed
returns-clause-filed c =
    let at = c.in_ok-connect.connect in
    let last = c.in_ok-connect.field-0-1 in
    let found = ap (λ es. filing_at es at) c.in_ok-connect.ensures.entries ∙ lookup-last at last c.pop.new.self.entries c.in_ok-connect.ensures.updates.1 in (
      last.session,
      sym (ap (λ known. connect_at known at) c.self.view_is)
          ∙ not_held (hold_at c.self.inside.held at) (filing_at c.self.inside.filed.entries at) last (c.self.invariant.0 at) found,
    )
