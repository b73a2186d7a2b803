-- A held connect stays held until the first entry that ends the hold, which answers it.
use Rattle.std.proofs.Common.{◌≡◌, ℕ, Bool, true, false, Option, Some, List, [], ◌∷◌, ◌++◌, fold, ◌==◌, refl, sym, ap, ◌∙◌, subst, append_assoc, arith}
use Rattle.std.proofs.lemmas.{Bool.cond-true, Grind.common_steps}
use Rattle.bx_advice.specs.declared.{config.Config.Config, advice.Outcome.Outcome, advice.Outcome.TheVariants.Failed, error.Error.TheVariants.SupersededConnect}
use Rattle.bx_message.specs.Replies.{connect_reply}
use Rattle.bx_entry.specs.declared.entry.{Entry.Entry, EntryKind.EntryKind, Rider.Rider}
use Rattle.bx_entry.specs.declared.entry.EntryKind.TheVariants.{Connect}
use Rattle.bx_entry.specs.Sessions.{Session, Publication, Pending, Filed, ack_given, filing, unheld, released_from, released, connected, step_by, step, ridden_by, rider_of}
use Rattle.bx_theory.specs.Readings.{ends_by, ending_events, ending_outcome, HeldReading, EndingReading}
use Rattle.bx_theory.proofs.{Counts.ride_both, Keeps.Keeps, Keeps.freed_k, Keeps.ride_k}

-- ---- Entries that do not end the hold

step_by_held : (config : Config) (place moment : ℕ) (s : Session) (p : Pending) (k : EntryKind) → s.held ≡ Some p → ends_by config s p moment k ≡ false → (step_by config place moment s k).held ≡ Some p
step_by_held config place moment s p k h e = grind (arith, common_steps)

ride_held : (config : Config) (place : ℕ) (s : Session) (rides : Option Rider) (p : Option Pending) → s.held ≡ p → (ridden_by config place s rides).held ≡ p
ride_held config place s rides p h = grind (arith, common_steps)

pub connect_held_until_entry_ends_hold : HeldReading
connect_held_until_entry_ends_hold config s p [] h n = h
connect_held_until_entry_ends_hold config s p (e ∷ es) h n = connect_held_until_entry_ends_hold config (step config s e) p es (ride_held config e.place (step_by config e.place e.moment s e.kind) (rider_of e.kind e.rides) (Some p) (step_by_held config e.place e.moment s p e.kind h n.0)) n.1

-- ---- Entries that end the hold

record Ends (config : Config) (p : Pending) (now : ℕ) (given : List Publication) (outcome : Outcome) (s t : Session) : Type 0 where
  answer : Filed
  others : List Filed
  answers : t.answers ≡ s.answers ++ answer ∷ others
  connect : answer.connect ≡ p.place
  place : answer.place ≡ now
  publications : answer.publications ≡ given
  reply : answer.reply ≡ connect_reply config p.client p.id outcome (ack_given t.ack t.num outcome)

released_here : (config : Config) (place : ℕ) (outcome : Outcome) (s : Session) (p : Pending) → s.held ≡ Some p → Ends config p place [] outcome s (released config place outcome s)
released_here config place outcome s p h =
    subst (λ (o : Option Pending). Ends config p place [] outcome s (released_from config place outcome s o)) (sym h)
    (record { answer = filing config p place [] outcome (unheld s); others = []; answers = refl; connect = refl; place = refl; publications = refl; reply = refl })

answered_then : (config : Config) (p : Pending) (now : ℕ) (given : List Publication) (outcome : Outcome) (s t u : Session) → Ends config p now given outcome s t → Keeps t u →
    ack_given t.ack t.num outcome ≡ ack_given u.ack u.num outcome → Ends config p now given outcome s u
answered_then config p now given outcome s t u a k same = record {
  answer = a.answer;
  others = a.others ++ k.more;
  answers = k.answers ∙ ap (λ (fs : List Filed). fs ++ k.more) a.answers ∙ append_assoc s.answers (a.answer ∷ a.others) k.more;
  connect = a.connect;
  place = a.place;
  publications = a.publications;
  reply = a.reply ∙ ap (connect_reply config p.client p.id outcome) same;
}

connected_here : (config : Config) (q : Pending) (acked : Option ℕ) (s : Session) (p : Pending) → s.held ≡ Some p → Ends config p q.place [] (Failed SupersededConnect) s (connected config q acked s)
connected_here config q acked s p h =
    answered_then config p q.place [] (Failed SupersededConnect) s (released config q.place (Failed SupersededConnect) s) (connected config q acked s)
    (released_here config q.place (Failed SupersededConnect) s p h) (freed_k config q acked s) refl

abbrev is_connecting : EntryKind → Bool
is_connecting (Connect n client id acked hold) = true
is_connecting _ = false

abbrev answer_in : Config → Pending → ℕ → EntryKind → Session → Filed
answer_in config p place k t = record { connect = p.place; place = place; publications = ending_events place k; reply = connect_reply config p.client p.id (ending_outcome k) (ack_given t.ack t.num (ending_outcome k)) }

other_here : (config : Config) (e : Entry) (s : Session) (p : Pending) (k : EntryKind) → s.held ≡ Some p → ends_by config s p e.moment k ≡ true → is_connecting k ≡ false →
    (step_by config e.place e.moment s k).answers ≡ s.answers ++ answer_in config p e.place k (step_by config e.place e.moment s k) ∷ []
other_here config e s p k h d other = grind (arith, common_steps)

step_by_here : (config : Config) (e : Entry) (s : Session) (p : Pending) (k : EntryKind) → s.held ≡ Some p → ends_by config s p e.moment k ≡ true →
    Ends config p e.place (ending_events e.place k) (ending_outcome k) s (step_by config e.place e.moment s k)
step_by_here config e s p (Connect n client id acked hold) h d =
    let q : Pending = record { place = e.place; client = client; id = id; moment = e.moment; hold = hold } in
    subst (Ends config p e.place [] (Failed SupersededConnect) s) (sym (cond-true (n == s.number) (connected config q acked s) s d)) (connected_here config q acked s p h)
step_by_here config e s p k h d = record { answer = _; others = []; answers = other_here config e s p k h d refl; connect = refl; place = refl; publications = refl; reply = refl }

pub held_connect_answered_by_first_ending_entry : EndingReading
held_connect_answered_by_first_ending_entry config s p es e h n d =
    let t : Session = fold (step config) s es in
    let u : Session = step_by config e.place e.moment t e.kind in
    let o : Outcome = ending_outcome e.kind in
    let a : Ends config p e.place (ending_events e.place e.kind) (ending_outcome e.kind) (fold (step config) s es) (step config (fold (step config) s es) e) =
    answered_then config p e.place (ending_events e.place e.kind) o t u (ridden_by config e.place u (rider_of e.kind e.rides)) (step_by_here config e t p e.kind (connect_held_until_entry_ends_hold config s p es h n) d) (ride_k config e.place u (rider_of e.kind e.rides))
    (ride_both config e.place u (rider_of e.kind e.rides) (λ (v : Session). ack_given u.ack u.num o ≡ ack_given v.ack v.num o) refl (λ rider g. refl)) in
    record { answer = a.answer; others = a.others; answers = a.answers; connect = a.connect; place = a.place; publications = a.publications; reply = a.reply }
