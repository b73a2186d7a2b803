-- A session answers each connect and rider once, and those with events in order of place.
use Rattle.std.proofs.Common.{◌≡◌, ◌≢◌, ◌⊎◌, inl, ◌∙◌, ℕ, ◌+◌, ◌<◌, ◌≤◌, true, false, cond, ◌==◌, is_some, Option, Some, None, List, [], ◌∷◌, ◌++◌, length, drop, find, fold, refl, sym, subst, arith}
use Rattle.std.proofs.lemmas.{Bool.cond_both, List.drop_all, Grind.common_steps}
use Rattle.bx_advice.specs.declared.{config.Config.Config, advice.Outcome.Outcome, advice.Outcome.TheVariants.Failed, error.Error.TheVariants.SupersededConnect, error.Error.TheVariants.QueueOverflow}
use Rattle.bx_entry.specs.declared.entry.{Entry.Entry, EntryKind.EntryKind, Rider.Rider}
use Rattle.bx_entry.specs.declared.entry.EntryKind.TheVariants.{Connect}
use Rattle.bx_entry.specs.Sessions.{Session, Publication, Pending, Filed, answered, released, acknowledged, answered_or_held, connected, ridden_by, rider_of, step_by, step, session, unopened}
use Rattle.bx_theory.specs.Laws.{Each, InStep, PlacesFrom}
use Rattle.bx_theory.proofs.{Counts.stays_in_step, Counts.step_by_in, Counts.unopened_in_step, Moves.each_map, Moves.each_append, Places.is_connecting}

-- The answer is not to the connect or rider at `place`. It is to one at an earlier place, or has no
-- events.
abbrev pub Before : ℕ → Filed → Type 0
Before place f = (f.connect ≢ place) × ((f.connect < place) ⊎ (f.publications ≡ []))

abbrev pub Ordered : List Filed → Type 0
Ordered [] = Unit {0}
Ordered (f ∷ fs) = Each (λ g. Before g.connect f) fs × Ordered fs

abbrev Below : ℕ → List Filed → Type 0
Below n fs = Each (λ f. f.connect < n) fs

abbrev Behind : ℕ → List Filed → Option Pending → Type 0
Behind n fs None = Below n fs
Behind n fs (Some p) = Each (Before p.place) fs × Below n fs × (p.place < n)

pub record InTurn (n : ℕ) (s : Session) : Type 0 where
  pub ordered : Ordered s.answers
  pub behind : Behind n s.answers s.held

-- ---- answers

below_more : (m n : ℕ) (fs : List Filed) → Below m fs → m ≤ n → Below n fs
below_more m n fs b l = each_map (λ f. f.connect < m) (λ f. f.connect < n) fs (λ f h. omega (arith, h, l)) b

below_before : (n : ℕ) (fs : List Filed) → Below n fs → Each (Before n) fs
below_before n fs b = each_map (λ f. f.connect < n) (Before n) fs (λ f h. ((λ e. omega (arith, h, e)), inl h)) b

below_push : (n : ℕ) (fs : List Filed) (f : Filed) → Below n fs → f.connect < n → Below n (fs ++ f ∷ [])
below_push n fs f b l = each_append (λ g. g.connect < n) fs (f ∷ []) b (l, tt)

ordered_push : (fs : List Filed) (f : Filed) → Ordered fs → Each (Before f.connect) fs → Ordered (fs ++ f ∷ [])
ordered_push [] f r b = (tt, tt)
ordered_push (g ∷ fs) f r b = (each_append (λ h. Before h.connect g) fs (f ∷ []) r.0 (b.0, tt), ordered_push fs f r.1 b.1)

pub turn_below : (n : ℕ) (s : Session) → InTurn n s → Each (λ f. f.connect < n) s.answers
turn_below n s t = grind (arith, common_steps)

behind_more : (m n : ℕ) (fs : List Filed) (held : Option Pending) → m ≤ n → Behind m fs held → Behind n fs held
behind_more m n fs None l b = below_more m n fs b l
behind_more m n fs (Some p) l b = (b.0, below_more m n fs b.1 l, omega (arith, b.2, l))

turn_more : (m n : ℕ) (s : Session) → m ≤ n → InTurn m s → InTurn n s
turn_more m n s l t = record { ordered = t.ordered; behind = behind_more m n s.answers s.held l t.behind }

-- ---- an entry

released_turn : (config : Config) (n place : ℕ) (outcome : Outcome) (s : Session) → InTurn n s → InTurn n (released config place outcome s)
released_turn config n place outcome s t = record { ordered = grind (arith, common_steps, ordered_push); behind = grind (arith, common_steps, below_push) }

freed_turn : (config : Config) (p : Pending) (acked : Option ℕ) (s t : Session) → t.held ≡ None → InTurn p.place t →
    InTurn (p.place + 1) (cond s.overflow (answered config p p.place [] (Failed QueueOverflow) t) (answered_or_held config p (acknowledged acked t)))
freed_turn config p acked s t free i =
    let below : Below p.place t.answers = turn_below p.place t i in
    let before : Each (Before p.place) t.answers = below_before p.place t.answers below in
    let more : Below (p.place + 1) t.answers = below_more p.place (p.place + 1) t.answers below (omega arith) in
    record { ordered = grind (arith, common_steps, ordered_push); behind = grind (arith, common_steps, below_push) }

other_turn : (config : Config) (place moment : ℕ) (s : Session) (k : EntryKind) → is_connecting k ≡ false → InTurn place s → InTurn place (step_by config place moment s k)
other_turn config place moment s k other t = record { ordered = grind (arith, common_steps, ordered_push); behind = grind (arith, common_steps, below_push) }

abbrev Idle : Session → Type 0
Idle s = is_some s.held ≡ true → s.queue ≡ []

step_idle : (config : Config) (s : Session) → InStep config s → Idle s
step_idle config s i h = i.queue ∙ cond_both s.overflow [] (drop s.done s.events) (λ (q : List Publication). q ≡ []) (λ g. refl) (λ g. drop_all s.done s.events (i.idle h).0)

ride_turn : (config : Config) (place : ℕ) (s : Session) (rides : Option Rider) → Idle s → InTurn place s → InTurn (place + 1) (ridden_by config place s rides)
ride_turn config place s rides idle t =
    let below : Below place s.answers = turn_below place s t in
    let before : Each (Before place) s.answers = below_before place s.answers below in
    let more : InTurn (place + 1) s = turn_more place (place + 1) s (omega arith) t in
    record { ordered = grind (arith, common_steps, ordered_push); behind = grind (arith, common_steps, below_push, each_append (Before place)) }

step_turn : (config : Config) (s : Session) (e : Entry) → 0 < config.limits.batch → InStep config s → InTurn e.place s → InTurn (e.place + 1) (step config s e)
step_turn config s e room i t = by e.kind (step_idle config (step_by config e.place e.moment s e.kind) (step_by_in config e.place e.moment s e.kind room i))
  where
    by : (k : EntryKind) → Idle (step_by config e.place e.moment s k) → InTurn (e.place + 1) (ridden_by config e.place (step_by config e.place e.moment s k) (rider_of k e.rides))
    by (Connect m client id acked hold) idle =
        let p : Pending = record { place = e.place; client = client; id = id; moment = e.moment; hold = hold } in
        let free : Session = released config e.place (Failed SupersededConnect) s in
        cond_both (m == s.number) (connected config p acked s) s (InTurn (e.place + 1))
        (λ h. freed_turn config p acked s free (grind (arith, common_steps)) (released_turn config e.place e.place (Failed SupersededConnect) s t)) (λ h. turn_more e.place (e.place + 1) s (omega arith) t)
    by k idle = ride_turn config e.place (step_by config e.place e.moment s k) (rider_of k e.rides) idle (other_turn config e.place e.moment s k refl t)

-- ---- all entries

run_turn : (config : Config) (n : ℕ) (s : Session) (es : List Entry) → 0 < config.limits.batch → PlacesFrom n es → InStep config s → InTurn n s → InTurn (n + length es) (fold (step config) s es)
run_turn config n s [] room d i t = turn_more n (n + 0) s (omega arith) t
run_turn config n s (e ∷ es) room d i t =
    turn_more ((n + 1) + length es) (n + length (e ∷ es)) (fold (step config) s (e ∷ es)) (omega arith)
    (run_turn config (n + 1) (step config s e) es room d.1 (stays_in_step config s e room i)
    (subst (λ (k : ℕ). InTurn (k + 1) (step config s e)) d.0 (step_turn config s e room i (subst (λ (k : ℕ). InTurn k s) (sym d.0) t))))

pub session_turn : (config : Config) (number : ℕ) (es : List Entry) → 0 < config.limits.batch → PlacesFrom 0 es → InTurn (length es) (session config number es)
session_turn config number es room d =
    turn_more (0 + length es) (length es) (session config number es) (omega arith)
    (run_turn config 0 (unopened number) es room d (unopened_in_step config number) (record { ordered = tt; behind = tt }))

pub find_middle : (fs gs : List Filed) (f : Filed) → Ordered (fs ++ f ∷ gs) → find (λ (g : Filed). g.connect == f.connect) (fs ++ f ∷ gs) ≡ Some f
find_middle [] gs f r = grind (arith, common_steps)
find_middle (h ∷ fs) gs f r = grind (arith, common_steps, middle fs gs f r.0, find_middle fs gs f r.1)
  where
    middle : (fs gs : List Filed) (f : Filed) → Each (λ g. Before g.connect h) (fs ++ f ∷ gs) → Before f.connect h
    middle [] gs f d = d.0
    middle (k ∷ fs) gs f d = middle fs gs f d.1
