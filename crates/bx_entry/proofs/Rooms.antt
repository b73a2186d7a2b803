-- When a queue has room for one more event, and the size of a part of a queue.
use Rattle.std.proofs.Common.{◌≡◌, ℕ, ◌+◌, ◌<◌, ◌≤◌, true, List, [], ◌∷◌, ◌++◌, length, drop, refl, sym, ap, ◌∙◌, arith}
use Rattle.std.proofs.lemmas.{Grind.common_steps, List.Sums.sum_by-cons, List.Sums.sum_by-take-drop}
use Rattle.std.specs.List.{sum_by}
use Rattle.bx_message.specs.declared.event.Event.{Event}
use Rattle.bx_message.specs.Events.{event_size}
use Rattle.bx_entry.specs.Windows.{Publication, Window, bytes_of, has_room}

pub bytes_of_none : bytes_of [] ≡ 0
unfolding bytes_of
bytes_of_none = refl

pub bytes_of_push : (ps : List Publication) (p : Publication) → bytes_of (ps ++ p ∷ []) ≡ bytes_of ps + event_size p.event
unfolding bytes_of
bytes_of_push [] p = omega arith
bytes_of_push (q ∷ qs) p = omega (arith, bytes_of_push qs p)

pub bytes_of_rest : (p : Publication) (ps : List Publication) → bytes_of ps ≤ bytes_of (p ∷ ps)
unfolding bytes_of
bytes_of_rest p ps = omega arith

bytes_of_sum : (ps : List Publication) → bytes_of ps ≡ sum_by (λ (p : Publication). event_size p.event) ps
unfolding bytes_of
bytes_of_sum [] = refl
bytes_of_sum (p ∷ ps) = ap (λ (n : ℕ). event_size p.event + n) (bytes_of_sum ps) ∙ sym (sum_by-cons (λ (q : Publication). event_size q.event) p ps)

pub bytes_of_drop : (n : ℕ) (ps : List Publication) → bytes_of (drop n ps) ≤ bytes_of ps
bytes_of_drop n ps = omega (arith, bytes_of_sum ps, bytes_of_sum (drop n ps), sum_by-take-drop (λ (p : Publication). event_size p.event) ps n)

pub room_count : (events bytes : ℕ) (e : Event) (w : Window) → has_room events bytes e w ≡ true → length w.queue < events
unfolding has_room
room_count events bytes e w h = grind (arith, common_steps)

pub room_bytes : (events bytes : ℕ) (e : Event) (w : Window) → has_room events bytes e w ≡ true → bytes_of w.queue + event_size e ≤ bytes
unfolding has_room
room_bytes events bytes e w h = grind (arith, common_steps)

pub room_where : (events bytes : ℕ) (e : Event) (w : Window) → length w.queue < events → bytes_of w.queue + event_size e ≤ bytes → has_room events bytes e w ≡ true
unfolding has_room
room_where events bytes e w few light = grind (arith, common_steps)
