use Rattle.std.proofs.Common.{◌∙◌, ap}
use Rattle.bx_serve.proofs.timeout_body.TimeoutServiceServiceRequest.call.Goals as goal

pub returns-clause-called : goal.returns-clause-called
returns-clause-called g c = (
  c.from_parts.result,
  (
    record {
      head = c.from_parts.ensures.head ∙ ap (λ (p : _). p.0) c.into_parts-parts.ensures;
      body = ap (λ (p : _). p.body) c.from_parts.ensures.body ∙ c.new.ensures.body ∙ ap (λ (p : _). p.1) c.into_parts-parts.ensures;
      idle = ap (λ (p : _). p.timeouts.limit) c.from_parts.ensures.body ∙ ap (λ (p : _). p.limit) c.new.ensures.timeouts ∙ c.new-timeouts.ensures.limit;
      whole = ap (λ (p : _). p.timeouts.whole) c.from_parts.ensures.body ∙ ap (λ (p : _). p.whole) c.new.ensures.timeouts ∙ c.new-timeouts.ensures.whole;
    },
    c.call.ensures.called,
  ),
)
