-- The riders of a list, and their sessions.
use Rattle.std.proofs.Common.{◌≡◌, ℕ, ◌+◌, ◌<◌, max, Bool, true, false, cond, not, ◌&&◌, Option, Some, None, List, [], ◌∷◌, ◌++◌, length, map, fold, ◌==◌, refl, sym, ap, ◌∙◌, subst, arith, true≢false, ⊎_elim, append-nil, append_assoc, eqb-true, eq-eqb}
use Rattle.std.proofs.lemmas.{Bool.cond-true, Bool.and_parts, Bool.not-true, Grind.common_steps, List.Sums.fold-append}
use Rattle.bx_advice.specs.declared.{error.Error.Error, config.Config.Config}
use Rattle.bx_history.proofs.Tests.{either}
use Rattle.std.specs.List.{AllByRecursion}
use Rattle.bx_message.specs.MessageKinds.{message_kind_of}
use Rattle.bx_entry.specs.Words.{Listed, Post, Posted, Session, Unopened, begun, step_by, step, unopened, session, rider_of, Filed, due_of, found_at, hold_of, is_ack, is_one, is_rider, joined, judged_by, named_by, refusal, State, may_ride, opened, refused, registry, rider_for, served, sessionless, slot_for, state_of, tick_verdict, Judged, NoSlot, PlaceSlot, Ready, Registered, Registry, Verdict, Waiting, entries_of}
use Rattle.bx_entry.specs.Listing as messages
use Rattle.bx_entry.specs.declared.{entry.Entry.Entry, entry.Rider.Rider, entry.EntryKind.EntryKind, senders.Senders.Senders}
use Rattle.bx_message.specs.declared.message_kind.MessageKind.{MessageKind}
use Rattle.bx_entry.specs.declared.entry.EntryKind.TheVariants.{Tick}
use Rattle.bx_entry.specs.declared.entry.EntryKind.TheVariants as entries
use Rattle.bx_theory.specs.Laws.{NoRidersUnasked, RidesPlain, RidersArePlain, LastAnswer, LastGiven, Repetition}
use Rattle.bx_theory.specs.Readings.{closes_by, moment_of, opens_by, since_opening, EachSession}
use Rattle.bx_theory.proofs.Verdicts.{each_found, each_judge, each_registry, each_verdict, verdict_of, entries_after, found_from, next_noted}
use Rattle.bx_theory.proofs.{Counts.ride_both, Counts.rider_of_both, Counts.all_in_step, Counts.unopened_in_step, Batches.acks_with_batch, Closings.run_number, Lives.opened_later, Lives.entries_push}
use Rattle.bx_theory.proofs.Stages.{step_number, step_next, next_opened, next_unopened}
use Rattle.bx_theory.proofs.Dues.{Mapped, each_session_map, each_session_push, each_session_through, named_session, served_sessions, overdue_closed_sessions, unchanged}

-- ---- Without `--ride`, there are no riders

unasked : (config : Config) (state : State) (moment : ℕ) (p : Posted) (sender : Option Registered) (error : Option Error) → config.ride ≡ false → (judged_by config state moment p sender error).rides ≡ None
unasked config state moment p sender error h = grind (arith, common_steps)

none_unasked : (config : Config) (r : Registry) (x : Listed) → config.ride ≡ false → (verdict_of config r x).rides ≡ None
none_unasked config r (Post p) h = unasked config (state_of r) (max r.clock p.moment) p (named_by r.sessions (message_kind_of p.message.channel) p.message) (refusal config r.sessions p) h
none_unasked config r (messages.Tick moment) h = refl

pub entries_all : (P : Entry → Type 0) (js : List Judged) → AllByRecursion (λ j. P j.entry) js → AllByRecursion P (map (λ (j : Judged). j.entry) js)
entries_all P [] d = tt
entries_all P (j ∷ js) d = (d.0, entries_all P js d.1)

pub no_riders_without_option : NoRidersUnasked
no_riders_without_option config list h =
    entries_all (λ (e : Entry). e.rides ≡ None) (registry config list).judged (each_found config list (λ j. j.entry.rides ≡ None) (λ ys x zs whole. none_unasked config (registry config ys) x h))

-- ---- A session acknowledges from its opening on, or never

abbrev pub WasOpened : Session → Type 0
WasOpened s = s.stage ≡ Unopened → ⊥

pub step_by_a : (config : Config) (place moment : ℕ) (s : Session) (k : EntryKind) → WasOpened s → (step_by config place moment s k).ack ≡ s.ack
step_by_a config place moment s k w = grind (arith, common_steps)

step_a : (config : Config) (s : Session) (e : Entry) → WasOpened s → (step config s e).ack ≡ s.ack
step_a config s e w =
    let u : Session = step_by config e.place e.moment s e.kind in
    let a : (step_by config e.place e.moment s e.kind).ack ≡ s.ack = step_by_a config e.place e.moment s e.kind w in
    ride_both config e.place u (rider_of e.kind e.rides) (λ (v : Session). v.ack ≡ s.ack) a (λ rider h. a)

step_opened : (config : Config) (s : Session) (e : Entry) → WasOpened s → WasOpened (step config s e)
step_opened config s e w = λ h. next_opened s.stage (opens_by s.number e.kind) (closes_by s.number e.kind) w (sym (step_next config s e).stage ∙ h)

none_opens : (b : Bool) (es : List Entry) (o : Option (List Entry)) → cond b (Some es) o ≡ None → (b ≡ false) × (o ≡ None)
none_opens true es o h = cc
none_opens false es o h = (refl, h)

stays_unopened : (config : Config) (s : Session) (es : List Entry) → s.stage ≡ Unopened → since_opening s.number es ≡ None → (fold (step config) s es).stage ≡ Unopened
stays_unopened config s [] h n = h
stays_unopened config s (e ∷ es) h n =
    let m = none_opens (opens_by s.number e.kind) es (since_opening s.number es) n in
    let k = step_next config s e in
    stays_unopened config (step config s e) es (k.stage ∙ next_unopened s.stage (opens_by s.number e.kind) (closes_by s.number e.kind) m.0 h)
    (ap (λ (number : ℕ). since_opening number es) k.number ∙ m.1)

-- ---- What the registry records

record Acks (config : Config) (es : List Entry) (number : ℕ) (ack : Bool) : Type 0 where
  opened : WasOpened (session config number es)
  same : (session config number es).ack ≡ ack

acks_on : (config : Config) (es : List Entry) (e : Entry) (number : ℕ) (ack : Bool) → Acks config es number ack → Acks config (es ++ e ∷ []) number ack
acks_on config es e number ack k =
    let next : session config number (es ++ e ∷ []) ≡ step config (session config number es) e = fold-append (step config) (unopened number) es (e ∷ []) in
    record {
      opened = subst WasOpened (sym next) (step_opened config (session config number es) e k.opened);
      same = ap (λ (u : Session). u.ack) next ∙ step_a config (session config number es) e k.opened ∙ k.same;
    }

acks_new : (config : Config) (es : List Entry) (place moment number : ℕ) (ack : Bool) → since_opening number es ≡ None →
    Acks config (es ++ record { place = place; moment = moment; kind = entries.Opened number ack; rides = None } ∷ []) number ack
acks_new config es place moment number ack n =
    let e : Entry = record { place = place; moment = moment; kind = entries.Opened number ack; rides = None } in
    let s : Session = session config number es in
    let own : (session config number es).number ≡ number = run_number config (unopened number) es in
    let fresh : (session config number es).stage ≡ Unopened = stays_unopened config (unopened number) es refl n in
    let next : session config number (es ++ e ∷ []) ≡ begun ack (session config number es) Unopened =
    fold-append (step config) (unopened number) es (e ∷ [])
    ∙ cond-true (number == s.number) (begun ack s s.stage) s (eq-eqb number s.number (sym own))
    ∙ ap (begun ack (session config number es)) fresh in
    record { opened = subst WasOpened (sym next) (λ h. cc); same = ap (λ (u : Session). u.ack) next }

abbrev Known : Config → Registry → Type 0
Known config r = EachSession (λ s. Acks config (entries_of r) s.number s.ack) r.sessions

known_next : (config : Config) (r : Registry) (x : Listed) (v : Verdict) (change : Registered → Registered) → Mapped change r.sessions v.state.sessions → Known config r → Known config (next_noted r x v)
known_next config r x v change m k =
    let e : Entry = (found_at (length r.judged) (max r.clock (moment_of x)) v).entry in
    subst (λ (es : List Entry). EachSession (λ s. Acks config es s.number s.ack) v.state.sessions) (sym (entries_push r (next_noted r x v) _ refl))
    (subst (EachSession (λ s. Acks config (entries_of r ++ e ∷ []) s.number s.ack)) (sym m.is)
    (each_session_through (λ s. Acks config (entries_of r) s.number s.ack) (λ s. Acks config (entries_of r ++ e ∷ []) s.number s.ack) change r.sessions
    (λ s a. subst (λ (ack : Bool). Acks config (entries_of r ++ e ∷ []) (change s).number ack) (sym (m.same s).ack)
    (subst (λ (n : ℕ). Acks config (entries_of r ++ e ∷ []) n s.ack) (sym (m.same s).number) (acks_on config (entries_of r) e s.number s.ack a))) k))

known_opened : (config : Config) (r : Registry) (p : Posted) → since_opening (length r.sessions + 1) (entries_of r) ≡ None → Known config r → Known config (next_noted r (Post p) (opened config (state_of r) (max r.clock p.moment) p (length r.sessions + 1)))
known_opened config r p n k =
    let moment : ℕ = max r.clock p.moment in
    let t : Registry = next_noted r (Post p) (opened config (state_of r) moment p (length r.sessions + 1)) in
    let e : Entry = record { place = length r.judged; moment = moment; kind = entries.Opened (length r.sessions + 1) (is_ack p.message.ack); rides = None } in
    subst (λ (es : List Entry). EachSession (λ s. Acks config es s.number s.ack) t.sessions) (sym (entries_push r t _ refl))
    (each_session_push (λ s. Acks config (entries_of r ++ e ∷ []) s.number s.ack) r.sessions _
    (each_session_map (λ s. Acks config (entries_of r) s.number s.ack) (λ s. Acks config (entries_of r ++ e ∷ []) s.number s.ack) r.sessions (λ s a. acks_on config (entries_of r) e s.number s.ack a) k)
    (acks_new config (entries_of r) (length r.judged) moment (length r.sessions + 1) (is_ack p.message.ack) n))

known : (config : Config) (list : List Listed) → Known config (registry config list)
known config list =
    each_registry config (Known config) tt (λ ys x k.
    let r : Registry = registry config ys in
    each_judge config r (Known config) (record {
      refuses = λ p sender error. known_next config r (Post p) (refused config (state_of r) p error sender) _ (unchanged r.sessions) k;
      opens = λ p. known_opened config r p (opened_later config ys (length r.sessions + 1) (omega arith)) k;
      none = λ p. known_next config r (Post p) (sessionless config (state_of r) p (message_kind_of p.message.channel)) _ (unchanged r.sessions) k;
      serves = λ p s e.
          let c : MessageKind = message_kind_of p.message.channel in
          known_next config r (Post p) (served config (state_of r) (max r.clock p.moment) p c s (hold_of config p)) _ (served_sessions c s.number (due_of config (max r.clock p.moment) (hold_of config p)) r.sessions) k;
      ticks = λ moment. known_next config r (messages.Tick moment) (tick_verdict (state_of r) (max r.clock moment)) _ (overdue_closed_sessions (max r.clock moment) r.sessions) k;
    }) x) list

acks_more : (config : Config) (es fs : List Entry) (number : ℕ) (ack : Bool) → Acks config es number ack → Acks config (es ++ fs) number ack
acks_more config es [] number ack k = subst (λ (xs : List Entry). Acks config xs number ack) (sym (append-nil es)) k
acks_more config es (f ∷ fs) number ack k = subst (λ (xs : List Entry). Acks config xs number ack) (append_assoc es (f ∷ []) fs) (acks_more config (es ++ f ∷ []) fs number ack (acks_on config es f number ack k))

pub acks_later : (config : Config) (ys zs : List Listed) → EachSession (λ s. (session config s.number (entries_of (registry config (ys ++ zs)))).ack ≡ s.ack) (registry config ys).sessions
acks_later config ys zs =
    let r : Registry = registry config ys in
    each_session_map (λ s. Acks config (entries_of r) s.number s.ack) (λ s. (session config s.number (entries_of (registry config (ys ++ zs)))).ack ≡ s.ack) r.sessions
    (λ s a. ap (λ (es : List Entry). (session config s.number es).ack) (entries_after config ys zs) ∙ (acks_more config (entries_of r) (map (λ (j : Judged). j.entry) (found_from config r zs)) s.number s.ack a).same) (known config ys)

rides_plain : (config : Config) (senders : Senders) (c : MessageKind) (p : Posted) (s : Registered) → is_rider config senders c p s ≡ true → s.ack ≡ false
rides_plain config senders c p s h =
    let a = and_parts config.ride (p.last && (not s.ack && (is_one (joined senders s.number) && may_ride c))) h in
    let b = and_parts p.last (not s.ack && (is_one (joined senders s.number) && may_ride c)) a.1 in
    not-true s.ack (and_parts (not s.ack) (is_one (joined senders s.number) && may_ride c) b.1).0

plain_rider : (config : Config) (es : List Entry) (b : Bool) (n : ℕ) (slot : PlaceSlot) → (b ≡ true → (session config n es).ack ≡ false) → RidesPlain config es (rider_for b n slot)
plain_rider config es true n (Ready reply) h = h refl
plain_rider config es true n (Waiting number) h = tt
plain_rider config es true n NoSlot h = tt
plain_rider config es false n slot h = tt

pub rider_sessions_do_not_acknowledge : RidersArePlain
rider_sessions_do_not_acknowledge config list =
    let es : List Entry = entries_of (registry config list) in
    entries_all (λ (e : Entry). RidesPlain config es e.rides) (registry config list).judged (each_found config list (λ j. RidesPlain config es j.entry.rides) (λ ys x zs whole.
    let r : Registry = registry config ys in
    each_verdict config r (λ y v. RidesPlain config es v.rides) (record {
      refuses = λ p sender error. tt;
      opens = λ p. tt;
      none = λ p. tt;
      serves = λ p s e.
          let c : MessageKind = message_kind_of p.message.channel in
          let same : (session config s.number es).ack ≡ s.ack = subst (λ (ls : List Listed). (session config s.number (entries_of (registry config ls))).ack ≡ s.ack) whole
          (named_session (λ q. (session config q.number (entries_of (registry config (ys ++ x ∷ zs)))).ack ≡ q.ack) r.sessions c p.message s e (acks_later config ys (x ∷ zs))) in
          plain_rider config es (is_rider config r.senders c p s) s.number (slot_for config c p s) (λ h. same ∙ rides_plain config r.senders c p s h);
      ticks = λ moment. tt;
    }) x))

-- ---- The answer that formed a batch is the last one

all_at : (P : Entry → Type 0) (before : List Entry) (e : Entry) (behind : List Entry) → AllByRecursion P (before ++ e ∷ behind) → P e
all_at P [] e behind d = d.0
all_at P (b ∷ before) e behind d = all_at P before e behind d.1

abbrev rides_for : ℕ → Option Rider → Bool
rides_for number None = false
rides_for number (Some rider) = rider.session == number

not_its_own : (config : Config) (es : List Entry) (number : ℕ) (rides : Option Rider) → (session config number es).ack ≡ true → RidesPlain config es rides → rides_for number rides ≡ false
not_its_own config es number None acks k = refl
not_its_own config es number (Some rider) acks k = either (rider.session == number) ((rider.session == number) ≡ false)
    (λ h. absurd (true≢false (sym acks ∙ subst (λ (n : ℕ). (session config n es).ack ≡ false) (eqb-true rider.session number h) k)))
    (λ h. h)

pub none_of_acknowledging : (config : Config) (list : List Listed) (before : List Entry) (e : Entry) (behind : List Entry) (number : ℕ) → entries_of (registry config list) ≡ before ++ e ∷ behind →
    (session config number (entries_of (registry config list))).ack ≡ true → rides_for number (rider_of e.kind e.rides) ≡ false
none_of_acknowledging config list before e behind number split acks =
    let k : RidesPlain config (entries_of (registry config list)) e.rides =
    all_at (λ (x : Entry). RidesPlain config (entries_of (registry config list)) x.rides) before e behind
    (subst (AllByRecursion (λ (x : Entry). RidesPlain config (entries_of (registry config list)) x.rides)) split (rider_sessions_do_not_acknowledge config list)) in
    rider_of_both e.kind e.rides (λ (rides : Option Rider). rides_for number rides ≡ false) refl (not_its_own config (entries_of (registry config list)) number e.rides acks k)

last_alone : (place : ℕ) (rides : Option Rider) (s : Session) (f : Filed) → LastGiven place rides s f → rides_for s.number rides ≡ false → LastAnswer s f
last_alone place rides s f l h =
    ⊎_elim (λ none. (l.rest, l.answers ∙ ap (λ (fs : List Filed). l.rest ++ f ∷ fs) none))
    (λ ride. absurd (true≢false (sym (ap (rides_for s.number) ride.is ∙ eq-eqb ride.rider.session s.number ride.session) ∙ h)))
    l.last

pub batch_last : (config : Config) (list : List Listed) (number : ℕ) (e : Entry) → 0 < config.limits.batch → 0 < (session config number (entries_of (registry config list))).out →
    (r : Repetition config number (entries_of (registry config list)) e) → LastAnswer (step config (session config number r.before) r.forming) r.same.first
batch_last config list number e room out r =
    let s : Session = session config number (entries_of (registry config list)) in
    let t : Session = step config (session config number r.before) r.forming in
    let acks : (session config number (entries_of (registry config list))).ack ≡ true =
    acks_with_batch config s (all_in_step config (unopened number) (entries_of (registry config list)) room (unopened_in_step config number)) out in
    let own : (step config (session config number r.before) r.forming).number ≡ number = step_number config (session config number r.before) r.forming ∙ run_number config (unopened number) r.before in
    last_alone r.forming.place (rider_of r.forming.kind r.forming.rides) t r.same.first r.same.formed
    (ap (λ (n : ℕ). rides_for n (rider_of r.forming.kind r.forming.rides)) own ∙ none_of_acknowledging config list r.before r.forming r.between number r.split acks)
