-- The events and the bytes of parts of a queue.
use Rattle.std.proofs.Common.{◌≡◌, ◌≤◌, ◌<◌, length, get_or, ℕ, ◌+◌, List, [], ◌∷◌, ◌++◌, take, drop, refl, sym, ap, ◌∙◌}
use Rattle.std.proofs.lemmas.List.{drop-map, take-map}
use Rattle.std.proofs.lemmas.List.Sums.{sum_by-cons, sum_by_more, sum_by_more_le, sum_by-take-drop, sum_by-take-le, sum_by_push}
use Rattle.std.specs.List.{sum_by}
use Rattle.bx_message.specs.Events.{event_size}
use Rattle.bx_message.specs.declared.event.Event.{Event}
use Rattle.bx_entry.specs.Answers.{events_of}
use Rattle.bx_entry.specs.Windows.{Publication, bytes_of}

abbrev event_in : Publication → Event
event_in p = p.event

pub events_behind : (count : ℕ) (queue : List Publication) (events : List Event) → events_of queue ≡ events → events_of (drop count queue) ≡ drop count events
events_behind count queue events same = sym (drop-map event_in count queue) ∙ ap (drop count) same

pub first_events : (count : ℕ) (queue : List Publication) (events : List Event) → events_of queue ≡ events → take count events ≡ events_of (take count queue)
first_events count queue events same = ap (take count) (sym same) ∙ take-map event_in count queue

bytes_of_events : (queue : List Publication) → bytes_of queue ≡ sum_by event_size (events_of queue)
unfolding bytes_of
bytes_of_events [] = refl
bytes_of_events (p ∷ ps) =
    ap (λ (n : ℕ). event_size p.event + n) (bytes_of_events ps) ∙ sym (sum_by-cons event_size p.event (events_of ps))

pub bytes_in : (queue : List Publication) (events : List Event) → events_of queue ≡ events → bytes_of queue ≡ sum_by event_size events
bytes_in queue events same = bytes_of_events queue ∙ ap (sum_by event_size) same

pub front_bytes : (count : ℕ) (events : List Event) → sum_by event_size (take count events) ≤ sum_by event_size events
front_bytes count events = sum_by-take-le event_size events count

pub parted_bytes : (count : ℕ) (events : List Event) → sum_by event_size (take count events) + sum_by event_size (drop count events) ≡ sum_by event_size events
parted_bytes count events = sum_by-take-drop event_size events count

pub pushed_bytes : (events : List Event) (event : Event) → sum_by event_size (events ++ event ∷ []) ≡ sum_by event_size events + event_size event
pushed_bytes events event = sum_by_push event_size events event

pub first_bytes : (event : Event) (events : List Event) → sum_by event_size (event ∷ events) ≡ event_size event + sum_by event_size events
first_bytes event events = sum_by-cons event_size event events

pub grown_bytes : (events : List Event) (i : ℕ) (d : Event) → i < length events →
    (sum_by event_size (take (i + 1) events) ≡ sum_by event_size (take i events) + event_size (get_or events i d))
    × (sum_by event_size (take i events) + event_size (get_or events i d) ≤ sum_by event_size events)
grown_bytes events i d h = (sum_by_more event_size events i d h, sum_by_more_le event_size events i d h)
