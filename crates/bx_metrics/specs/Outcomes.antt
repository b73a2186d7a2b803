-- Which metric counts a reply, and which metrics share a row of the page.
use Rattle.std.specs.Prelude.{ℕ, Bool, Option, position}
use Rattle.std.specs.{Str.bytes_eq}
use Rattle.bx_advice.specs.declared.advice.Outcome.{Outcome}
use Rattle.bx_advice.specs.declared.advice.Outcome.TheVariants as outcomes
use Rattle.bx_service.specs.Errors.{error_reason}
use Rattle.bx_message.specs.declared.{message_kind.MessageKind.MessageKind, reply.Reply.Reply}
use Rattle.bx_metrics.specs.contracts.metric.MetricPartialEq.TheImpl as metrics
use Rattle.bx_metrics.specs.declared.metric.Metric.{Metric}
use Rattle.bx_metrics.specs.declared.metric.Metric.TheVariants.{ErrorReplies, Refused, SuccessfulReplies}
use Rattle.bx_metrics.specs.declared.metric.TheConstants.{METRICS}

-- Whether two metrics have the same row: they are equal, or count requests without an answer for
-- the same reason in words.
abbrev pub counts : Metric → Metric → Bool
counts (Refused error) (Refused other) = bytes_eq (error_reason error) (error_reason other)
counts metric other = metrics.ghosts.eq metric other

-- The index of the row of a metric.
abbrev pub place_of : Metric → Option ℕ
place_of metric = position (λ row. counts row.0 metric) METRICS

-- The metric that counts a reply of this kind with this outcome.
abbrev pub metric_for : MessageKind → Outcome → Metric
metric_for kind (outcomes.Failed error) = ErrorReplies error
metric_for kind outcome = SuccessfulReplies kind

-- The metric that counts a reply.
abbrev pub metric_of : Reply → Metric
metric_of reply = metric_for reply.message_kind reply.outcome
