use Rattle.std.proofs.Common.{◌∙◌, ap}
use Rattle.bx_metrics.specs.Outcomes.{place_of}
use Rattle.bx_metrics.proofs.metric.Metric.place.Goals as goal

pub returns-in-Uptime : goal.returns-in-Uptime
returns-in-Uptime c = ap place_of c.in-Uptime.is

pub returns-in-OpenConnections : goal.returns-in-OpenConnections
returns-in-OpenConnections c = ap place_of c.in-OpenConnections.is

pub returns-in-AcceptedConnections : goal.returns-in-AcceptedConnections
returns-in-AcceptedConnections c = ap place_of c.in-AcceptedConnections.is

pub returns-in-RequestsInProgress : goal.returns-in-RequestsInProgress
returns-in-RequestsInProgress c = ap place_of c.in-RequestsInProgress.is

pub returns-in-AdmittedInProgress : goal.returns-in-AdmittedInProgress
returns-in-AdmittedInProgress c = ap place_of c.in-AdmittedInProgress.is

pub returns-in-AdmittedRequests : goal.returns-in-AdmittedRequests
returns-in-AdmittedRequests c = ap place_of c.in-AdmittedRequests.is

pub returns-in-Events : goal.returns-in-Events
returns-in-Events c = ap place_of c.in-Events.is

pub returns-in-MissingResponses : goal.returns-in-MissingResponses
returns-in-MissingResponses c = ap place_of c.in-MissingResponses.is

pub returns-in-Entries : goal.returns-in-Entries
returns-in-Entries c = ap place_of c.in-Entries.is

pub returns-in-Ticks : goal.returns-in-Ticks
returns-in-Ticks c = ap place_of c.in-Ticks.is

pub returns-in-RefusedTicks : goal.returns-in-RefusedTicks
returns-in-RefusedTicks c = ap place_of c.in-RefusedTicks.is

pub returns-in-ShardsBehind : goal.returns-in-ShardsBehind
returns-in-ShardsBehind c = ap place_of c.in-ShardsBehind.is

pub returns-in-SweptAnswers : goal.returns-in-SweptAnswers
returns-in-SweptAnswers c = ap place_of c.in-SweptAnswers.is

pub returns-in-Sessions : goal.returns-in-Sessions
returns-in-Sessions c = ap place_of c.in-Sessions.is

pub returns-in-OpenedSessions : goal.returns-in-OpenedSessions
returns-in-OpenedSessions c = ap place_of c.in-OpenedSessions.is

pub returns-in-Batches : goal.returns-in-Batches
returns-in-Batches c = ap place_of c.in-Batches.is

pub returns-in-HeldConnects : goal.returns-in-HeldConnects
returns-in-HeldConnects c = ap place_of c.in-HeldConnects.is

pub returns-in-FiledAnswers : goal.returns-in-FiledAnswers
returns-in-FiledAnswers c = ap place_of c.in-FiledAnswers.is

pub returns-in-Recording : goal.returns-in-Recording
returns-in-Recording c = ap place_of c.in-Recording.is

pub returns-in-RecordedBytes : goal.returns-in-RecordedBytes
returns-in-RecordedBytes c = ap place_of c.in-RecordedBytes.is

pub returns-in-Responses : goal.returns-in-Responses
returns-in-Responses c = ap place_of c.in-Responses.is ∙ c.place_of_status.ensures

pub returns-in-Refused : goal.returns-in-Refused
returns-in-Refused c = ap place_of c.in-Refused.is ∙ c.place_of_refused.ensures

pub returns-in-SuccessfulReplies : goal.returns-in-SuccessfulReplies
returns-in-SuccessfulReplies c = ap place_of c.in-SuccessfulReplies.is ∙ c.place_of_kind.ensures

pub returns-in-ErrorReplies : goal.returns-in-ErrorReplies
returns-in-ErrorReplies c = ap place_of c.in-ErrorReplies.is ∙ c.place_of_error.ensures
