-- Names of this crate's definitions, for files that import several.
pub use Rattle.bx_entry.specs.Answers.{PlacedAnswer, answer, answer_at, answer_by, answer_in, answer_of, events_of, filed_for}
pub use Rattle.bx_entry.specs.Inputs.{IsFault, ReadInput, Request, Unread, added_by, refusal_of, refused_beyond}
pub use Rattle.bx_entry.specs.Keeping.{Kept, StepsAlike, after, answers_of, kept, kept_answers, kept_step, resumed}
pub use Rattle.bx_entry.specs.Listing.{Listed, Post, Posted, listed_from, request}
pub use Rattle.bx_entry.specs.Registry.{Judged, NoSlot, PlaceSlot, Ready, Registered, Registry, State, Verdict, Waiting, acked_by, cases_of, client_id, closed, count_live, due_of, empty_registry, entries, entries_of, event_of, extended, found_at, hold_of, is_ack, is_one, is_overdue, is_rider, is_text, joined, judge, judged_by, kind_for, left_by, live_with_id, may_ride, named_by, needs_session, newcomer, noted, opened, overdue, publish_cases, refusal, refused, registry, rider_by, rider_for, sender_of, senders_after, served, sessionless, sessionless_kind, slot_for, slot_with, state_of, overdue_closed, tick_verdict, unnamed, verdict}
pub use Rattle.bx_entry.specs.Requests.{Cut, IsUnread, all_messages, objects_in, objects_of, allows, allows_all, arrival_messages, let_in, read_by, read_input, request_messages}
pub use Rattle.bx_entry.specs.Runs.{Intake, Out, Taking, Whole, answered_items, has_place, held, is_at, latest, numbers_from, outs, places_of, result_by, take_in, taken_as, taken_in, whole_at, whole_by, whole_of, wholes, wholes_from, wholes_in}
pub use Rattle.bx_entry.specs.Sessions.{Closed, Filed, Live, Pending, Session, Stage, Unopened, admitted, batch, begun, closed_by, connected, deadline, disconnected, ended, ends_by, expired, expired_from, forgotten, is_hit, is_live, is_riding, published, received, released, released_from, ridden, ridden_by, ride_portion, rider_of, session, stage_after, step, step_by, subscribed, unheld, unopened, unsubscribed}
pub use Rattle.bx_entry.specs.{Refusals.refusal_reason, Refusals.refusal_status, Windows.acknowledges, Windows.forms}
