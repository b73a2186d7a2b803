-- A rider is answered at once, and so is a message that is not alone in its request.
use Rattle.std.proofs.Common.{◌≡◌, ℕ, ◌+◌, ◌<◌, max, ◌+◌, Bool, true, false, cond, ◌&&◌, ◌||◌, is_some, Option, Some, None, List, [], ◌∷◌, ◌++◌, length, map, find, option_map, slice_get, ◌==◌, refl, sym, ap, ◌∙◌, subst, append_assoc, eq-eqb, arith}
use Rattle.std.proofs.lemmas.{Bool.cond_both, Bool.cond-true, Bool.cond-false, List.map-append, List.length_push, Grind.common_steps, List.Sums.fold-append}
use Rattle.bx_history.proofs.Tests.{either}
use Rattle.bx_advice.specs.declared.{config.Config.Config, advice.Outcome.Outcome, advice.Outcome.TheVariants.Connected, advice.Outcome.TheVariants.Failed}
use Rattle.bx_advice.specs.declared.error.Error.TheVariants.{SupersededConnect, QueueOverflow}
use Rattle.bx_message.specs.declared.{message.Message.Message, reply.Reply.Reply, message_kind.MessageKind.MessageKind}
use Rattle.bx_message.specs.MessageKinds.{message_kind_of, is_connect, is_handshake}
use Rattle.bx_entry.specs.Words.{Listed, Post, Posted, listed_from, opened, refused, sessionless, Verdict, Registry, Registered, Judged, Ready, Waiting, judge, served, slot_for, slot_with, rider_for, is_rider, may_ride, kind_for, named_by, refusal, hold_of, acked_by, registry, entries_of, noted, state_of, PlacedAnswer, answer_of, filed_for, answer_by, answer_at, answer_in, answer, latest, numbers_from}
use Rattle.bx_entry.specs.declared.entry.{Entry.Entry, Rider.Rider, EntryKind.EntryKind}
use Rattle.bx_entry.specs.declared.entry.EntryKind.TheVariants.{Connect}
use Rattle.bx_entry.specs.Sessions.{Session, Publication, Pending, Filed, filing, answered, released, given, gives, idle, answered_or_held, connected, step, session, unopened, is_live, ridden, ridden_by, ride_filing, step_by, rider_of}
use Rattle.bx_theory.proofs.Verdicts.{by_verdict, got_here, registry_next}
use Rattle.bx_theory.proofs.{Lists.answer_more, Lists.judged_length, Closings.run_number, Stages.step_by_next, Stages.live_from_opening_to_first_close, Senders.sender_reads, Lives.found_of}
use Rattle.bx_theory.proofs.Counts.{freed, connected_by, ride_both}

pub record There (o : Option PlacedAnswer) : Type 0 where
  pub answer : PlacedAnswer
  pub is : o ≡ Some answer

-- ---- Connects that may not be held

filed_last : (place : ℕ) (fs : List Filed) (f : Filed) → f.connect ≡ place → There (filed_for place (fs ++ f ∷ []))
filed_last place [] f h = record { answer = answer_of f; is = ap (option_map answer_of) (cond-true (f.connect == place) (Some f) None (eq-eqb f.connect place h)) }
filed_last place (g ∷ fs) f h =
    let test : Filed → Bool = λ k. k.connect == place in
    let rest : There (filed_for place (fs ++ f ∷ [])) = filed_last place fs f h in
    either (g.connect == place) (There (filed_for place (g ∷ (fs ++ f ∷ []))))
    (λ e. record { answer = answer_of g; is = ap (option_map answer_of) (cond-true (g.connect == place) (Some g) (find test (fs ++ f ∷ [])) e) })
    (λ e. record { answer = rest.answer; is = ap (option_map answer_of) (cond-false (g.connect == place) (Some g) (find test (fs ++ f ∷ [])) e) ∙ rest.is })

answered_there : (config : Config) (p : Pending) (place : ℕ) (publications : List Publication) (outcome : Outcome) (s : Session) → There (filed_for p.place (answered config p place publications outcome s).answers)
answered_there config p place publications outcome s = filed_last p.place s.answers (filing config p place publications outcome s) refl

answered_or_held_there : (config : Config) (p : Pending) (s : Session) → p.hold ≡ 0 → There (filed_for p.place (answered_or_held config p s).answers)
answered_or_held_there config p s h =
    cond_both (length (given config s) == 0) (idle config p s) (answered config p p.place (given config s) Connected (gives config s)) (λ (u : Session). There (filed_for p.place u.answers))
    (λ e. subst (λ (u : Session). There (filed_for p.place u.answers)) (let once : answered config p p.place [] Connected s ≡ idle config p s = grind (arith, common_steps) in once) (answered_there config p p.place [] Connected s))
    (λ e. answered_there config p p.place (given config s) Connected (gives config s))

connected_there : (config : Config) (p : Pending) (acked : Option ℕ) (s : Session) → p.hold ≡ 0 → There (filed_for p.place (connected config p acked s).answers)
connected_there config p acked s h =
    connected_by config p acked s (λ (u : Session). There (filed_for p.place u.answers))
    (λ e. answered_there config p p.place [] (Failed QueueOverflow) (released config p.place (Failed SupersededConnect) s)) (λ e. answered_or_held_there config p (freed config p acked s) h)

step_there : (config : Config) (s : Session) (e : Entry) (number : ℕ) (client : List ℕ) (id : Option (List ℕ)) (acked : Option ℕ) → s.number ≡ number → e.kind ≡ Connect number client id acked 0 →
    There (filed_for e.place (step config s e).answers)
step_there config s e number client id acked n k =
    let p : Pending = record { place = e.place; client = client; id = id; moment = e.moment; hold = 0 } in
    let same : step_by config e.place e.moment s e.kind ≡ cond (number == s.number) (connected config p acked s) s = ap (step_by config e.place e.moment s) k in
    let taken : step_by config e.place e.moment s e.kind ≡ connected config p acked s = same ∙ cond-true (number == s.number) (connected config p acked s) s (eq-eqb number s.number (sym n)) in
    let u : Session = step_by config e.place e.moment s e.kind in
    ride_both config e.place u (rider_of e.kind e.rides) (λ (v : Session). There (filed_for e.place v.answers))
    (subst (λ (v : Session). There (filed_for e.place v.answers)) (sym taken) (connected_there config p acked s refl))
    (λ rider h. filed_last e.place u.answers (ride_filing config e.place rider.reply (step_by config e.place e.moment s e.kind)) refl)

session_there : (config : Config) (es : List Entry) (e : Entry) (number : ℕ) (client : List ℕ) (id : Option (List ℕ)) (acked : Option ℕ) → e.kind ≡ Connect number client id acked 0 →
    There (filed_for e.place (session config number (es ++ e ∷ [])).answers)
session_there config es e number client id acked k =
    subst (λ (u : Session). There (filed_for e.place u.answers)) (sym (fold-append (step config) (unopened number) es (e ∷ [])))
    (step_there config (session config number es) e number client id acked (run_number config (unopened number) es) k)

rider_there : (config : Config) (es : List Entry) (e : Entry) (number : ℕ) (reply : Reply) → rider_of e.kind e.rides ≡ Some (record { session = number; reply = reply }) →
    (step_by config e.place e.moment (session config number es) e.kind).stage ≡ (session config number es).stage → is_live (session config number es).stage ≡ true →
    There (filed_for e.place (session config number (es ++ e ∷ [])).answers)
rider_there config es e number reply rides same live =
    let s : Session = session config number es in
    let u : Session = step_by config e.place e.moment (session config number es) e.kind in
    let rider : Rider = record { session = number; reply = reply } in
    let own : u.number ≡ number = (step_by_next config e.place e.moment (session config number es) e.kind).number ∙ run_number config (unopened number) es in
    let riding : ((number == u.number) && is_live u.stage) ≡ true = ap (λ (b : Bool). b && is_live u.stage) (eq-eqb number u.number (sym own)) ∙ ap is_live same ∙ live in
    let taken : step config (session config number es) e ≡ ridden config e.place reply u =
    ap (ridden_by config e.place u) rides ∙ cond-true ((number == u.number) && is_live u.stage) (ridden config e.place reply u) u riding in
    subst (λ (v : Session). There (filed_for e.place v.answers)) (sym (fold-append (step config) (unopened number) es (e ∷ []) ∙ taken))
    (filed_last e.place u.answers (ride_filing config e.place reply u) refl)

-- ---- One more message

last_there : (config : Config) (r t : Registry) (j : Judged) → t.judged ≡ r.judged ++ j ∷ [] → There (answer_by config (entries_of t) (length r.judged) j.slot) → There (answer_in config t (length r.judged))
last_there config r t j e a = record {
  answer = a.answer;
  is = ap (answer_at config (entries_of t) (length r.judged)) (ap (λ (js : List Judged). slice_get js (length r.judged)) e ∙ got_here r.judged j []) ∙ a.is;
}

abbrev entry_with : ℕ → ℕ → EntryKind → Option Rider → Entry
entry_with place moment kind rides = record { place = place; moment = moment; kind = kind; rides = rides }

ready_there : (config : Config) (es : List Entry) (place moment number : ℕ) (kind : EntryKind) (reply : Reply) (b : Bool) →
    (b ≡ true → (rider : Rider) → (rider_of kind (Some rider) ≡ Some rider) × ((step_by config place moment (session config number es) kind).stage ≡ (session config number es).stage)) → is_live (session config number es).stage ≡ true →
    There (answer_by config (es ++ entry_with place moment kind (rider_for b number (Ready reply)) ∷ []) place (slot_with (rider_for b number (Ready reply)) (Ready reply)))
ready_there config es place moment number kind reply true same live =
    let rider : Rider = record { session = number; reply = reply } in
    rider_there config es (entry_with place moment kind (Some rider)) number reply (same refl rider).0 (same refl rider).1 live
ready_there config es place moment number kind reply false same live = record { answer = _; is = refl }

connect_there : (config : Config) (es : List Entry) (place moment number : ℕ) (client : List ℕ) (id : Option (List ℕ)) (acked : Option ℕ) (b : Bool) →
    There (answer_by config (es ++ entry_with place moment (Connect number client id acked 0) (rider_for b number (Waiting number)) ∷ []) place (slot_with (rider_for b number (Waiting number)) (Waiting number)))
connect_there config es place moment number client id acked true = session_there config es (entry_with place moment (Connect number client id acked 0) None) number client id acked refl
connect_there config es place moment number client id acked false = session_there config es (entry_with place moment (Connect number client id acked 0) None) number client id acked refl

served_slot : (config : Config) (es : List Entry) (place moment : ℕ) (p : Posted) (c : MessageKind) (s : Registered) (b : Bool) → (may_ride c ≡ false → b ≡ false) → is_live (session config s.number es).stage ≡ true →
    There (answer_by config (es ++ entry_with place moment (kind_for c p s 0) (rider_for b s.number (slot_for config c p s)) ∷ []) place (slot_with (rider_for b s.number (slot_for config c p s)) (slot_for config c p s)))
served_slot config es place moment p MessageKind.Connect s b still live = connect_there config es place moment s.number s.client p.message.id (acked_by p.message.ack) b
served_slot config es place moment p c s b still live = ready_there config es place moment s.number _ _ b (λ h rider. grind (arith, common_steps)) live

no_waiting : {A : Type 0} (b : Bool) (n m : ℕ) (rider : Rider) → rider_for b n (Waiting m) ≡ Some rider → A
no_waiting b n m rider e = absurd (let no : ⊥ = grind (arith, common_steps) in no)

rider_slot : (config : Config) (es : List Entry) (place moment : ℕ) (p : Posted) (c : MessageKind) (s : Registered) (hold : ℕ) (b : Bool) → (may_ride c ≡ false → b ≡ false) → is_live (session config s.number es).stage ≡ true →
    (rider : Rider) → rider_for b s.number (slot_for config c p s) ≡ Some rider →
    There (answer_by config (es ++ entry_with place moment (kind_for c p s hold) (rider_for b s.number (slot_for config c p s)) ∷ []) place (slot_with (rider_for b s.number (slot_for config c p s)) (slot_for config c p s)))
rider_slot config es place moment p MessageKind.Connect s hold b still live rider e = no_waiting b s.number s.number rider e
rider_slot config es place moment p c s hold b still live rider e = served_slot config es place moment p c s b still live

may_not : (config : Config) (r : Registry) (p : Posted) (c : MessageKind) (s : Registered) → may_ride c ≡ false → is_rider config r.senders c p s ≡ false
may_not config r p c s h = grind (arith, common_steps)

placed_there : (config : Config) (r : Registry) (moment : ℕ) (p : Posted) (c : MessageKind) (s : Registered) (hold : ℕ) →
    There (answer_by config (entries_of r ++ (found_of config r moment p c s hold).entry ∷ []) (length r.judged) (found_of config r moment p c s hold).slot) →
    There (answer_in config (noted r moment (served config (state_of r) moment p c s hold)) (length r.judged))
placed_there config r moment p c s hold a =
    let j : Judged = found_of config r moment p c s hold in
    last_there config r (noted r moment (served config (state_of r) moment p c s hold)) (found_of config r moment p c s hold) refl
    (subst (λ (es : List Entry). There (answer_by config es (length r.judged) (found_of config r moment p c s hold).slot)) (sym (map-append (λ (i : Judged). i.entry) r.judged (j ∷ []))) a)

pub rider_served : (config : Config) (r : Registry) (moment : ℕ) (p : Posted) (c : MessageKind) (s : Registered) (hold : ℕ) → is_live (session config s.number (entries_of r)).stage ≡ true →
    (rider : Rider) → (found_of config r moment p c s hold).entry.rides ≡ Some rider → There (answer_in config (noted r moment (served config (state_of r) moment p c s hold)) (length r.judged))
rider_served config r moment p c s hold live rider e =
    placed_there config r moment p c s hold (rider_slot config (entries_of r) (length r.judged) moment p c s hold (is_rider config r.senders c p s) (may_not config r p c s) live rider e)

accepted_there : (config : Config) (r : Registry) (moment : ℕ) (p : Posted) (s : Registered) (hold : ℕ) → hold ≡ 0 → is_live (session config s.number (entries_of r)).stage ≡ true → There (answer_in config (noted r moment (served config (state_of r) moment p (message_kind_of p.message.channel) s hold)) (length r.judged))
accepted_there config r moment p s hold h live =
    let c : MessageKind = message_kind_of p.message.channel in
    subst (λ (n : ℕ). There (answer_in config (noted r moment (served config (state_of r) moment p (message_kind_of p.message.channel) s n)) (length r.judged))) (sym h)
    (placed_there config r moment p c s 0 (served_slot config (entries_of r) (length r.judged) moment p c s (is_rider config r.senders c p s) (may_not config r p c s) live))

ready_last : (config : Config) (r : Registry) (moment : ℕ) (v : Verdict) (reply : Reply) → v.slot ≡ Ready reply → There (answer_in config (noted r moment v) (length r.judged))
ready_last config r moment v reply e = last_there config r (noted r moment v) _ refl (record { answer = _; is = ap (answer_by config (entries_of (noted r moment v)) (length r.judged)) e })

message_there : (config : Config) (xs : List Listed) (p : Posted) → p.sole ≡ false → There (answer config (xs ++ Post p ∷ []) (length xs))
message_there config xs p h =
    let r : Registry = registry config xs in
    let moment : ℕ = max r.clock p.moment in
    subst (λ (t : Registry). There (answer_in config t (length xs))) (sym (registry_next config xs (Post p)))
    (subst (λ (n : ℕ). There (answer_in config (judge config (registry config xs) (Post p)) n)) (judged_length config xs)
    (by_verdict (λ v. There (answer_in config (noted r moment v) (length r.judged))) config (state_of r) moment p (named_by r.sessions (message_kind_of p.message.channel) p.message) (refusal config r.sessions p)
    (λ e. ready_last config r moment (refused config (state_of r) p e (named_by r.sessions (message_kind_of p.message.channel) p.message)) _ refl) (ready_last config r moment (opened config (state_of r) moment p (length r.sessions + 1)) _ refl)
    (ready_last config r moment (sessionless config (state_of r) p (message_kind_of p.message.channel)) _ refl)
    (λ s e. accepted_there config r moment p s (hold_of config p) (cond-false (p.sole && is_connect p.message) _ 0 (ap (λ (b : Bool). b && is_connect p.message) h)) (live_from_opening_to_first_close config s.number (entries_of r) ∙ sender_reads config xs p s e))))

pub there_stays : (config : Config) (list xs ys : List Listed) (x : Listed) → 0 < config.limits.batch → xs ++ (x ∷ ys) ≡ list → There (answer config (xs ++ x ∷ []) (length xs)) → There (answer_in config (registry config list) (length xs))
there_stays config list xs ys x room e a = record {
  answer = a.answer;
  is = ap (λ (zs : List Listed). answer config zs (length xs)) (sym e ∙ sym (append_assoc xs (x ∷ []) ys)) ∙ answer_more config (xs ++ x ∷ []) ys (length xs) a.answer room a.is;
}

-- ---- The messages of a request

abbrev pub AllThere : List (Option PlacedAnswer) → Type 0
AllThere [] = Unit {0}
AllThere (o ∷ os) = There o × AllThere os

pub latest_there : (place : ℕ) (os : List (Option PlacedAnswer)) → AllThere os → is_some (latest place os) ≡ true
latest_there place [] d = refl
latest_there place (None ∷ os) d = let no : None ≡ Some d.0.answer = d.0.is in cc
latest_there place (Some a ∷ os) d = latest_there (max place a.place) os d.1

pub messages_there : (config : Config) (list xs ys : List Listed) (moment nonce : ℕ) (seen : Bool) (ms : List Message) → 0 < config.limits.batch → xs ++ (listed_from moment nonce false seen ms ++ ys) ≡ list →
    AllThere (map (answer_in config (registry config list)) (numbers_from (length xs) (length (listed_from moment nonce false seen ms))))
messages_there config list xs ys moment nonce seen [] room e = tt
messages_there config list xs ys moment nonce seen (m ∷ ms) room e =
    let p : Posted = record { message = m; moment = moment; nonce = nonce; sole = false; last = length ms == 0; second = seen && is_handshake m } in
    let rest : List Listed = listed_from moment nonce false (seen || is_handshake m) ms in (
      there_stays config list xs (rest ++ ys) (Post p) room e (message_there config xs p refl),
      subst (λ (n : ℕ). AllThere (map (answer_in config (registry config list)) (numbers_from n (length rest)))) (length_push xs (Post p))
          (messages_there config list (xs ++ Post p ∷ []) ys moment nonce (seen || is_handshake m) ms room (append_assoc xs (Post p ∷ []) (rest ++ ys) ∙ e)),
    )
