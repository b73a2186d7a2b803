-- The live sessions of a shard after one more entry.
use Rattle.std.proofs.Common.{arith, ◌≡◌, ℕ, ◌+◌, ◌<◌, Bool, true, false, cond, List, [], ◌∷◌, ◌++◌, length, take, map, filter, refl, sym, ap, ◌∙◌}
use Rattle.std.proofs.lemmas.{Bool.cond_both, Bool.cond-true, Bool.cond-false, List.map-append, List.Elements.filter-append}
use Rattle.bx_history.proofs.Tests.{either}
use Rattle.bx_advice.specs.declared.config.Config.{Config}
use Rattle.bx_entry.specs.Words.{Listed, Registry, Registered, registry, entries_of, Session, Stage, is_live, rider_of, stage_after, step, step_by, unopened, session, Kept, kept, kept_step, StepsAlike}
use Rattle.bx_entry.specs.declared.entry.{Entry.Entry, EntryKind.EntryKind}
use Rattle.bx_entry.specs.declared.entry.EntryKind.TheVariants.{Opened}
use Rattle.bx_theory.specs.Readings.{opens_by, closes_by, EachSession}
use Rattle.bx_shard.specs.Words.{Setup, is_placed_in, shard_at, opening_by, ShardsStep, stepped}
use Rattle.bx_theory.proofs.{Keeps.ride_k, Stages.Next, Stages.step_by_next, Dues.numbered, Dues.numbered_below, Kept.entry_effect_ignores_history, Closings.run_number}
use Rattle.bx_shard.proofs.Elements.{numbers, numbers_next, opened_numbers, opens_no_other, entry_next, session_next, all_fresh, opens_above, Met, met}
use Rattle.bx_shard.proofs.Finding.{steps}

-- ---- sessions by their numbers

pub by_numbers : (config : Config) (setup : Setup) (shard : ℕ) (es : List Entry) (rs : List Registered) →
    map (λ (s : Registered). session config s.number es) (filter (λ (s : Registered). is_placed_in setup shard s.number) rs) ≡ map (λ (n : ℕ). session config n es) (filter (λ (n : ℕ). is_placed_in setup shard n) (numbers rs))
by_numbers config setup shard es [] = refl
by_numbers config setup shard es (r ∷ rs) = grind (arith, by_numbers config setup shard es rs)

abbrev pub held_by : Config → List Entry → List ℕ → List Kept
held_by config es ns = map kept (filter (λ (s : Session). is_live s.stage) (map (λ (n : ℕ). session config n es) ns))

abbrev pub one_kept : Session → List Kept → List Kept
one_kept s ks = cond (is_live s.stage) (kept s ∷ ks) ks

pub held_cons : (config : Config) (es : List Entry) (n : ℕ) (ns : List ℕ) → held_by config es (n ∷ ns) ≡ one_kept (session config n es) (held_by config es ns)
held_cons config es n ns = grind arith

abbrev pub numbers_in : Setup → ℕ → List Listed → List ℕ
numbers_in setup shard xs = filter (λ (n : ℕ). is_placed_in setup shard n) (numbers (registry setup.config xs).sessions)

abbrev pub held_over : Setup → ℕ → List Listed → List Kept
held_over setup shard xs = held_by setup.config (entries_of (registry setup.config xs)) (numbers_in setup shard xs)

pub held_at : (setup : Setup) (list : List Listed) (taken : List ℕ) (shard n : ℕ) → (shard_at setup list taken shard n).sessions ≡ held_over setup shard (take n list)
held_at setup list taken shard n =
    let r : Registry = registry setup.config (take n list) in
    ap (λ (ss : List Session). map kept (filter (λ (s : Session). is_live s.stage) ss)) (by_numbers setup.config setup shard (entries_of r) r.sessions)

held_append : (config : Config) (es : List Entry) (ns ms : List ℕ) → held_by config es (ns ++ ms) ≡ held_by config es ns ++ held_by config es ms
held_append config es ns ms =
    let F : ℕ → Session = λ n. session config n es in
    let live : Session → Bool = λ s. is_live s.stage in
    ap (λ (ss : List Session). map kept (filter live ss)) (map-append F ns ms) ∙ ap (map kept) (filter-append live (map F ns) (map F ms)) ∙ map-append kept (filter live (map F ns)) (filter live (map F ms))

steps_append : (config : Config) (e : Entry) (ks ls : List Kept) → steps config e (ks ++ ls) ≡ steps config e ks ++ steps config e ls
steps_append config e ks ls =
    let F : Kept → Kept = λ k. kept_step config k e in
    let live : Kept → Bool = λ k. is_live k.stage in
    ap (filter live) (map-append F ks ls) ∙ filter-append live (map F ks) (map F ls)

dead_next : (stage : Stage) (b : Bool) → is_live stage ≡ false → is_live (cond b (stage_after stage) stage) ≡ false
dead_next stage b h = grind arith

dead_step : (config : Config) (s : Session) (e : Entry) → opens_by s.number e.kind ≡ false → is_live s.stage ≡ false → is_live (step config s e).stage ≡ false
dead_step config s e o h =
    let u : Session = step_by config e.place e.moment s e.kind in
    let n : Next s e.kind (step_by config e.place e.moment s e.kind) = step_by_next config e.place e.moment s e.kind in
    ap is_live ((ride_k config e.place u (rider_of e.kind e.rides)).stage ∙ n.stage ∙ cond-false (opens_by s.number e.kind) _ (cond (closes_by s.number e.kind) (stage_after s.stage) s.stage) o) ∙ dead_next s.stage (closes_by s.number e.kind) h

one_step : (config : Config) (s : Session) (e : Entry) (ks : List Kept) → StepsAlike config s e → (is_live s.stage ≡ false → is_live (step config s e).stage ≡ false) →
    one_kept (step config s e) (steps config e ks) ≡ steps config e (one_kept s ks)
one_step config s e ks a dead =
    let u : Session = step config s e in
    either (is_live s.stage) (one_kept (step config s e) (steps config e ks) ≡ steps config e (one_kept s ks))
    (λ h. ap (λ (k : Kept). cond (is_live k.stage) (k ∷ steps config e ks) (steps config e ks)) a.state ∙ sym (ap (steps config e) (cond-true (is_live s.stage) (kept s ∷ ks) ks h)))
    (λ h. cond-false (is_live u.stage) (kept u ∷ steps config e ks) (steps config e ks) (dead h) ∙ sym (ap (steps config e) (cond-false (is_live s.stage) (kept s ∷ ks) ks h)))

-- ---- one element, in a shard

abbrev pub EachNumber : (ℕ → Type 0) → List ℕ → Type 0
EachNumber P [] = Unit {0}
EachNumber P (n ∷ ns) = P n × EachNumber P ns

each_number_filter : (P : ℕ → Type 0) (test : ℕ → Bool) (ns : List ℕ) → EachNumber P ns → EachNumber P (filter test ns)
each_number_filter P test [] d = tt
each_number_filter P test (n ∷ ns) d = cond_both (test n) (n ∷ filter test ns) (filter test ns) (EachNumber P) (λ h. (d.0, each_number_filter P test ns d.1)) (λ h. each_number_filter P test ns d.1)

each_number_of : (P : ℕ → Type 0) (rs : List Registered) → EachSession (λ r. P r.number) rs → EachNumber P (numbers rs)
each_number_of P [] d = tt
each_number_of P (r ∷ rs) d = (d.0, each_number_of P rs d.1)

pub numbers_below : (setup : Setup) (shard : ℕ) (xs : List Listed) → EachNumber (λ n. n < 1 + length (registry setup.config xs).sessions) (numbers_in setup shard xs)
numbers_below setup shard xs =
    let r : Registry = registry setup.config xs in
    each_number_filter (λ n. n < 1 + length r.sessions) (λ n. is_placed_in setup shard n) (numbers r.sessions)
    (each_number_of (λ n. n < 1 + length r.sessions) r.sessions (numbered_below 1 r.sessions (numbered setup.config xs)))

held_step : (config : Config) (ys : List Listed) (x : Listed) (ns : List ℕ) → EachNumber (λ n. n < 1 + length (registry config ys).sessions) ns →
    held_by config (entries_of (registry config (ys ++ x ∷ []))) ns ≡ steps config (entry_next config ys x) (held_by config (entries_of (registry config ys)) ns)
held_step config ys x [] d = refl
held_step config ys x (n ∷ ns) d =
    let es : List Entry = entries_of (registry config ys) in
    let e : Entry = entry_next config ys x in
    let s : Session = session config n (entries_of (registry config ys)) in
    let after : List Entry = entries_of (registry config (ys ++ x ∷ [])) in
    let own : opens_by (session config n (entries_of (registry config ys))).number (entry_next config ys x).kind ≡ false = ap (λ (m : ℕ). opens_by m e.kind) (run_number config (unopened n) es) ∙ opens_no_other config ys x n d.0 in
    held_cons config after n ns
    ∙ ap (λ (u : Session). one_kept u (held_by config after ns)) (session_next config n ys x)
    ∙ ap (one_kept (step config s e)) (held_step config ys x ns d.1)
    ∙ one_step config s e (held_by config es ns) (entry_effect_ignores_history config s e) (λ h. dead_step config s e own h)
    ∙ sym (ap (steps config e) (held_cons config es n ns))

opening_step : (setup : Setup) (shard : ℕ) (ys : List Listed) (x : Listed) (k : EntryKind) → (entry_next setup.config ys x).kind ≡ k →
    held_by setup.config (entries_of (registry setup.config (ys ++ x ∷ []))) (filter (λ (n : ℕ). is_placed_in setup shard n) (opened_numbers k)) ≡ steps setup.config (entry_next setup.config ys x) (opening_by setup shard k)
opening_step setup shard ys x (Opened n ack) h =
    let e : Entry = entry_next setup.config ys x in
    let none : List Kept = [] in
    let begin : session setup.config n (entries_of (registry setup.config ys)) ≡ unopened n = all_fresh setup.config ys n (opens_above setup.config ys x n ack h) in
    let one : session setup.config n (entries_of (registry setup.config (ys ++ x ∷ []))) ≡ step setup.config (unopened n) (entry_next setup.config ys x) = session_next setup.config n ys x ∙ ap (λ (s : Session). step setup.config s e) begin in
    (elim (is_placed_in setup shard n) as (λ b. held_by setup.config (entries_of (registry setup.config (ys ++ x ∷ []))) (cond b (n ∷ []) []) ≡ steps setup.config (entry_next setup.config ys x) (cond b (kept (unopened n) ∷ []) [])) [
      | true ↦ held_cons setup.config (entries_of (registry setup.config (ys ++ x ∷ []))) n [] ∙ ap (λ (s : Session). one_kept s none) one
          ∙ ap (λ (k : Kept). cond (is_live k.stage) (k ∷ none) none) (entry_effect_ignores_history setup.config (unopened n) e).state
      | false ↦ refl
    ])
opening_step setup shard ys x _ h = refl

shard_next : (setup : Setup) (shard : ℕ) (ys : List Listed) (x : Listed) →
    held_over setup shard (ys ++ x ∷ []) ≡ steps setup.config (entry_next setup.config ys x) (held_over setup shard ys ++ opening_by setup shard (entry_next setup.config ys x).kind)
shard_next setup shard ys x =
    let config : Config = setup.config in
    let r : Registry = registry setup.config ys in
    let e : Entry = entry_next setup.config ys x in
    let after : List Entry = entries_of (registry setup.config (ys ++ x ∷ [])) in
    let here : ℕ → Bool = λ n. is_placed_in setup shard n in
    let ns : List ℕ = numbers r.sessions in
    let ms : List ℕ = opened_numbers e.kind in
    ap (λ (ks : List ℕ). held_by config after (filter here ks)) (numbers_next config ys x)
    ∙ ap (held_by config after) (filter-append here ns ms)
    ∙ held_append config after (filter here ns) (filter here ms)
    ∙ ap (λ (ks : List Kept). ks ++ held_by config after (filter here ms)) (held_step config ys x (filter here ns) (numbers_below setup shard ys))
    ∙ ap (λ (ks : List Kept). steps config e (held_by config (entries_of r) (filter here ns)) ++ ks) (opening_step setup shard ys x e.kind refl)
    ∙ sym (steps_append config e (held_by config (entries_of r) (filter here ns)) (opening_by setup shard e.kind))

-- ---- the law

pub entry_determines_sessions : ShardsStep
entry_determines_sessions setup list taken shard n e room there =
    let m : Met setup.config list n e = met setup.config list n e there in
    held_at setup list taken shard (n + 1)
    ∙ ap (held_over setup shard) m.next
    ∙ shard_next setup shard (take n list) m.element
    ∙ ap (λ (x : Entry). steps setup.config x (held_over setup shard (take n list) ++ opening_by setup shard x.kind)) m.same
    ∙ ap (stepped setup shard e) (sym (held_at setup list taken shard n))
