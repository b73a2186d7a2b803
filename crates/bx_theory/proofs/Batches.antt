-- A batch is sent again until it is acknowledged.
use Rattle.std.proofs.Common.{◌≡◌, ℕ, ◌+◌, ◌<◌, ◌≤◌, ◌⊎◌, inl, inr, ⊎_elim, true, false, cond, Option, Some, None, List, [], ◌∷◌, ◌++◌, length, fold, ◌==◌, refl, sym, ap, ◌∙◌, subst, arith, append_assoc, eq-eqb, eq-zero-or-pos}
use Rattle.std.proofs.lemmas.{Bool.cond_both, Bool.cond-true, Bool.cases_lt, Grind.common_steps, List.Sums.fold-append}
use Rattle.bx_history.proofs.Tests.{either}
use Rattle.bx_advice.specs.declared.{config.Config.Config, advice.Outcome.Outcome, advice.Outcome.TheVariants.Connected, advice.Outcome.TheVariants.Failed, error.Error.TheVariants.SupersededConnect}
use Rattle.bx_message.specs.declared.reply.AckReply.TheVariants.{AckNumber, NoAck}
use Rattle.bx_entry.specs.declared.entry.{Entry.Entry, EntryKind.EntryKind, Rider.Rider}
use Rattle.bx_entry.specs.declared.entry.EntryKind.TheVariants.{Connect, Publish}
use Rattle.bx_entry.specs.Sessions.{Session, Publication, Pending, Filed, filing, answered, unheld, released, ride_filing, batch, gives, given, idle, answered_or_held, connected, gives_one, with_event, delivered_to, delivered, overflowed, is_hit, has_room, published, step_by, step, session, unopened, ridden, is_riding, ridden_by, rider_of}
use Rattle.bx_theory.specs.Laws.{InStep, Repeats, LastAnswer, LastGiven, SameBatch, Repetition, BatchRepeats}
use Rattle.bx_theory.proofs.Counts.{Freed, freed, freed_leaves, connected_by, stays_in_step, all_in_step, unopened_in_step}
use Rattle.bx_theory.proofs.{Moves.ride_num, Runs.Grown, Runs.run_grown, Runs.all_places}

record Formed (u : Session) : Type 0 where
  first : Filed
  last : LastAnswer u first
  same : first.publications ≡ batch u
  number : first.reply.ack ≡ AckNumber u.num
  full : u.overflow ≡ false
  acks : u.ack ≡ true

abbrev Forms : ℕ → Session → Type 0
Forms num u = (u.num ≡ num) ⊎ Formed u

-- ---- Entries that form a batch

formed : (config : Config) (p : Pending) (place : ℕ) (es : List Publication) (u : Session) → es ≡ batch u → u.overflow ≡ false → u.ack ≡ true → Formed (answered config p place es Connected u)
formed config p place es u same full acks = record {
  first = filing config p place es Connected u;
  last = (u.answers, grind (arith, common_steps));
  same = grind (arith, common_steps);
  number = grind (arith, common_steps);
  full = full;
  acks = acks;
}

given_forms : (config : Config) (p : Pending) (s : Session) → s.overflow ≡ false → Forms s.num (answered config p p.place (given config s) Connected (gives config s))
given_forms config p s full = either s.ack (Forms s.num (answered config p p.place (given config s) Connected (gives config s)))
    (λ h. inr (formed config p p.place (given config s) (gives config s) (grind (arith, common_steps)) (grind (arith, common_steps)) (grind (arith, common_steps))))
    (λ h. inl (grind (arith, common_steps)))

answered_or_held_forms : (config : Config) (p : Pending) (s : Session) → s.overflow ≡ false → Forms s.num (answered_or_held config p s)
answered_or_held_forms config p s full =
    cond_both (length (given config s) == 0) (idle config p s) (answered config p p.place (given config s) Connected (gives config s)) (Forms s.num)
    (λ h. inl (grind (arith, common_steps))) (λ h. given_forms config p s full)

connected_forms : (config : Config) (p : Pending) (acked : Option ℕ) (s : Session) → Forms s.num (connected config p acked s)
connected_forms config p acked s =
    let f : Freed p.place s (freed config p acked s) = freed_leaves config p acked s in
    connected_by config p acked s (Forms s.num) (λ h. inl (grind (arith, common_steps)))
    (λ h. subst (λ (n : ℕ). Forms n (answered_or_held config p (freed config p acked s))) f.num (answered_or_held_forms config p (freed config p acked s) (f.overflow ∙ h)))

delivered_to_forms : (config : Config) (e : Publication) (s : Session) (held : Option Pending) → s.held ≡ held → s.overflow ≡ false → InStep config s → Forms s.num (delivered_to config e (with_event e s) held)
delivered_to_forms config e s None h full i = inl refl
delivered_to_forms config e s (Some p) h full i =
    let u : Session = gives_one (unheld (with_event e s)) in
    either s.ack (Forms s.num (answered config p e.place (e ∷ []) Connected u))
    (λ a. inr (formed config p e.place (e ∷ []) u (grind (arith, common_steps)) (grind (arith, common_steps)) (grind (arith, common_steps))))
    (λ a. inl (grind (arith, common_steps)))

published_forms : (config : Config) (e : Publication) (s : Session) → InStep config s → Forms s.num (published config e s)
published_forms config e s i =
    cond_both (is_hit s e.event) (cond (has_room config e.event s) (delivered config e s) (overflowed s)) s (Forms s.num)
    (λ h. cond_both (has_room config e.event s) (delivered config e s) (overflowed s) (Forms s.num)
    (λ g. delivered_to_forms config e s s.held refl (grind (arith, common_steps)) i) (λ g. inl refl))
    (λ h. inl refl)

step_by_forms : (config : Config) (place moment : ℕ) (s : Session) (k : EntryKind) → InStep config s → Forms s.num (step_by config place moment s k)
step_by_forms config place moment s (Connect n client id acked hold) i =
    let p : Pending = record { place = place; client = client; id = id; moment = moment; hold = hold } in
    cond_both (n == s.number) (connected config p acked s) s (Forms s.num) (λ h. connected_forms config p acked s) (λ h. inl refl)
step_by_forms config place moment s (Publish e) i = published_forms config (record { place = place; event = e }) s i
step_by_forms config place moment s _ i = inl (grind (arith, common_steps))

-- ---- The rider of an entry that forms a batch

step_num : (config : Config) (s : Session) (e : Entry) → (step config s e).num ≡ (step_by config e.place e.moment s e.kind).num
step_num config s e = ride_num config e.place (step_by config e.place e.moment s e.kind) (rider_of e.kind e.rides)

ride_last : (config : Config) (place : ℕ) (s : Session) (rides : Option Rider) (f : Filed) → s.ack ≡ true → LastAnswer s f → LastGiven place rides (ridden_by config place s rides) f
ride_last config place s None f acks l = record { rest = l.0; behind = []; answers = l.1; last = inl refl }
ride_last config place s (Some rider) f acks l =
    cond_both (is_riding rider s) (ridden config place rider.reply s) s (λ (u : Session). LastGiven place (Some rider) u f)
    (λ h. record {
      rest = l.0;
      behind = ride_filing config place rider.reply s ∷ [];
      answers = ap (λ (fs : List Filed). fs ++ ride_filing config place rider.reply s ∷ []) l.1 ∙ append_assoc l.0 (f ∷ []) (ride_filing config place rider.reply s ∷ []);
      last = inr (record { rider = rider; is = refl; session = grind (arith, common_steps); alone = grind (arith, common_steps) });
    })
    (λ h. record { rest = l.0; behind = []; answers = l.1; last = inl refl })

record FormedBy (place : ℕ) (rides : Option Rider) (u : Session) : Type 0 where
  first : Filed
  last : LastGiven place rides u first
  same : first.publications ≡ batch u
  number : first.reply.ack ≡ AckNumber u.num
  full : u.overflow ≡ false

record Leaves (s u : Session) : Type 0 where
  num : u.num ≡ s.num
  overflow : u.overflow ≡ s.overflow
  same : batch u ≡ batch s

ride_leaves : (config : Config) (place : ℕ) (s : Session) (rides : Option Rider) → s.ack ≡ true → Leaves s (ridden_by config place s rides)
ride_leaves config place s rides acks = grind (arith, common_steps)

ride_formed : (config : Config) (place : ℕ) (s : Session) (rides : Option Rider) → Formed s → FormedBy place rides (ridden_by config place s rides)
ride_formed config place s rides f =
    let l : Leaves s (ridden_by config place s rides) = ride_leaves config place s rides f.acks in
    record {
      first = f.first;
      last = ride_last config place s rides f.first f.acks f.last;
      same = f.same ∙ sym l.same;
      number = f.number ∙ ap AckNumber (sym l.num);
      full = l.overflow ∙ f.full;
    }

grown_formed : (config : Config) (s : Session) (e : Entry) → InStep config s → (step config s e).num ≡ s.num + 1 → FormedBy e.place (rider_of e.kind e.rides) (step config s e)
grown_formed config s e i n = ⊎_elim (λ h. absurd (let g : (step_by config e.place e.moment s e.kind).num ≡ s.num = h in omega (arith, step_num config s e, n)))
    (λ f. ride_formed config e.place (step_by config e.place e.moment s e.kind) (rider_of e.kind e.rides) f) (step_by_forms config e.place e.moment s e.kind i)

-- ---- Connects that acknowledge nothing new

record SameCounts (s t : Session) : Type 0 where
  ack : t.ack ≡ s.ack
  overflow : t.overflow ≡ s.overflow
  num : t.num ≡ s.num
  out : t.out ≡ s.out
  same : batch t ≡ batch s

released_same : (config : Config) (place : ℕ) (outcome : Outcome) (s : Session) → SameCounts s (released config place outcome s)
released_same config place outcome s = grind (arith, common_steps)

connected_again : (config : Config) (p : Pending) (acked : Option ℕ) (s : Session) → s.ack ≡ true → s.overflow ≡ false → 0 < s.out → Repeats s.num acked → InStep config s →
    connected config p acked s ≡ answered config p p.place (batch (released config p.place (Failed SupersededConnect) s)) Connected (released config p.place (Failed SupersededConnect) s)
connected_again config p None s acks full out r i = grind (arith, common_steps)
connected_again config p (Some n) s acks full out r i = grind (arith, common_steps)

last_same : (xs ys : List Filed) (f g : Filed) → xs ++ f ∷ [] ≡ ys ++ g ∷ [] → f ≡ g
last_same [] [] f g e = cc
last_same [] (y ∷ []) f g e = cc
last_same [] (y ∷ z ∷ ys) f g e = cc
last_same (x ∷ []) [] f g e = cc
last_same (x ∷ z ∷ xs) [] f g e = cc
last_same (x ∷ xs) (y ∷ ys) f g e = last_same xs ys f g (let h : xs ++ f ∷ [] ≡ ys ++ g ∷ [] = cc in h)

-- ---- The law

pub acks_with_batch : (config : Config) (s : Session) → InStep config s → 0 < s.out → s.ack ≡ true
acks_with_batch config s i out = grind (arith, common_steps)

same_batch : (config : Config) (s t : Session) → InStep config s → InStep config t → Grown 0 s t → s.overflow ≡ false → t.overflow ≡ false → t.out ≡ s.out → t.done ≡ s.done → batch t ≡ batch s
same_batch config s t i j g full full' out done = grind (arith, common_steps)

repeated_at : (config : Config) (former : Entry) (s t : Session) (p : Pending) (acked : Option ℕ) → InStep config s → InStep config t → FormedBy former.place (rider_of former.kind former.rides) s → Grown 0 s t →
    t.num ≡ s.num → 0 < t.out → t.overflow ≡ false → Repeats t.num acked → SameBatch former s p.place (connected config p acked t)
repeated_at config former s t p acked i j f g num out full r =
    let free = released config p.place (Failed SupersededConnect) t in
    let c : SameCounts t free = released_same config p.place (Failed SupersededConnect) t in
    let acks : t.ack ≡ true = acks_with_batch config t j out in
    let st = g.still num out in
    subst (SameBatch former s p.place) (sym (connected_again config p acked t acks full out r j)) (record {
      first = f.first;
      again = filing config p p.place (batch free) Connected free;
      formed = f.last;
      given = (free.answers, refl);
      connect = refl;
      place = refl;
      same = c.same ∙ same_batch config s t i j g f.full full st.0 st.1 ∙ sym f.same;
      number = f.number;
      same_number = cond-true free.ack (AckNumber free.num) NoAck (c.ack ∙ acks) ∙ ap AckNumber (c.num ∙ num);
    })

num_by : (config : Config) (place moment : ℕ) (s : Session) (k : EntryKind) → (step_by config place moment s k).num ≤ s.num + 1
num_by config place moment s k = grind (arith, common_steps)

next_num : (config : Config) (s : Session) (e : Entry) → (step config s e).num ≤ s.num + 1
next_num config s e = omega (arith, step_num config s e, num_by config e.place e.moment s e.kind)

record Forming (config : Config) (s : Session) (es : List Entry) : Type 0 where
  before : List Entry
  forming : Entry
  between : List Entry
  split : es ≡ before ++ forming ∷ between
  grew : (step config (fold (step config) s before) forming).num ≡ (fold (step config) s before).num + 1
  current : (step config (fold (step config) s before) forming).num ≡ (fold (step config) s es).num

forming_later : (config : Config) (s : Session) (e : Entry) (es : List Entry) → Forming config (step config s e) es → Forming config s (e ∷ es)
forming_later config s e es f = record { before = e ∷ f.before; forming = f.forming; between = f.between; split = ap (λ (xs : List Entry). e ∷ xs) f.split; grew = f.grew; current = f.current }

forming_in : (config : Config) (s : Session) (es : List Entry) → 0 < config.limits.batch → InStep config s → s.num < (fold (step config) s es).num → Forming config s es
forming_in config s [] room i h = absurd (omega arith)
forming_in config s (e ∷ es) room i h =
    let j : InStep config (step config s e) = stays_in_step config s e room i in
    let g : Grown 0 (step config s e) (fold (step config) (step config s e) es) = run_grown config 0 (step config s e) es room j (all_places es) in
    ⊎_elim (λ l. forming_later config s e es (forming_in config (step config s e) es room j l))
    (λ l. record {
      before = [];
      forming = e;
      between = es;
      split = refl;
      grew = omega (arith, next_num config s e, g.num, h, l);
      current = omega (arith, g.num, l);
    })
    (cases_lt (step config s e).num (fold (step config) (step config s e) es).num)

repetition : (config : Config) (number : ℕ) (es : List Entry) (e : Entry) (p : Pending) (acked : Option ℕ) → 0 < config.limits.batch → p.place ≡ e.place →
    0 < (session config number es).out → (session config number es).overflow ≡ false → Repeats (session config number es).num acked →
    step config (session config number es) e ≡ connected config p acked (session config number es) → Repetition config number es e
repetition config number es e p acked room here out full r is =
    let s : Session = unopened number in
    let i : InStep config s = unopened_in_step config number in
    let g0 : Grown 0 s (fold (step config) s es) = run_grown config 0 s es room i (all_places es) in
    let some : 0 < (fold (step config) s es).num = ⊎_elim (λ h. let n : (fold (step config) s es).num ≡ 0 = h in absurd (let o = (g0.still n out).0 in omega arith)) (λ h. h) (eq-zero-or-pos (fold (step config) s es).num) in
    let f : Forming config s es = forming_in config s es room i some in
    let s0 : Session = fold (step config) s f.before in
    let i0 : InStep config s0 = all_in_step config s f.before room i in
    let s1 : Session = step config s0 f.forming in
    let i1 : InStep config s1 = stays_in_step config s0 f.forming room i0 in
    let whole : fold (step config) s es ≡ fold (step config) s1 f.between = ap (fold (step config) s) f.split ∙ fold-append (step config) s f.before (f.forming ∷ f.between) in
    let g : Grown 0 s1 (fold (step config) s es) = subst (Grown 0 s1) (sym whole) (run_grown config 0 s1 f.between room i1 (all_places f.between)) in
    record {
      before = f.before;
      forming = f.forming;
      between = f.between;
      split = f.split;
      grew = f.grew;
      current = f.current;
      same = subst (SameBatch f.forming s1 e.place) (sym is)
          (subst (λ (n : ℕ). SameBatch f.forming s1 n (connected config p acked (session config number es))) here
          (repeated_at config f.forming s1 (fold (step config) s es) p acked i1 (all_in_step config s es room i) (grown_formed config s0 f.forming i0 f.grew) g (sym f.current) out full r));
    }

connect_step : (config : Config) (number : ℕ) (es : List Entry) (e : Entry) (client : List ℕ) (id : Option (List ℕ)) (acked : Option ℕ) (hold : ℕ) → 0 < config.limits.batch → e.kind ≡ Connect number client id acked hold →
    step config (session config number es) e ≡ connected config (record { place = e.place; client = client; id = id; moment = e.moment; hold = hold }) acked (session config number es)
connect_step config number es e client id acked hold room kind =
    let s = session config number es in
    let p : Pending = record { place = e.place; client = client; id = id; moment = e.moment; hold = hold } in
    let g : Grown 0 (unopened number) s = run_grown config 0 (unopened number) es room (unopened_in_step config number) (all_places es) in
    ap (λ (k : EntryKind). ridden_by config e.place (step_by config e.place e.moment s k) (rider_of k e.rides)) kind ∙ cond-true (number == s.number) (connected config p acked s) s (eq-eqb number s.number (sym g.number))

pub batch_repeats : BatchRepeats
batch_repeats config number es e client id acked hold room out full kind r = repetition config number es e _ acked room refl out full r (connect_step config number es e client id acked hold room kind)

pub gives_batch : (config : Config) (number : ℕ) (es : List Entry) (e : Entry) (client : List ℕ) (id : Option (List ℕ)) (acked : Option ℕ) (hold : ℕ) (f : Filed) → 0 < config.limits.batch →
    0 < (session config number es).out → (session config number es).overflow ≡ false → e.kind ≡ Connect number client id acked hold → Repeats (session config number es).num acked →
    LastAnswer (step config (session config number es) e) f → f.publications ≡ batch (session config number es)
gives_batch config number es e client id acked hold f room out full kind r l =
    let s : Session = session config number es in
    let i : InStep config s = all_in_step config (unopened number) es room (unopened_in_step config number) in
    let p : Pending = record { place = e.place; client = client; id = id; moment = e.moment; hold = hold } in
    let free = released config p.place (Failed SupersededConnect) s in
    let is : step config s e ≡ answered config p p.place (batch free) Connected free =
    connect_step config number es e client id acked hold room kind ∙ connected_again config p acked s (acks_with_batch config s i out) full out r i in
    ap (λ (g : Filed). g.publications) (last_same l.0 free.answers f (filing config p p.place (batch free) Connected free) (sym l.1 ∙ ap (λ (t : Session). t.answers) is)) ∙ (released_same config p.place (Failed SupersededConnect) s).same
