-- The sessions of a shard are live, and their numbers ascend.
use Rattle.std.proofs.Common.{◌≡◌, ℕ, zero, suc, ◌+◌, ◌<◌, ◌≤◌, true, List, [], ◌∷◌, length, take, map, filter, slice_index, refl, sym, ap, ◌∙◌, subst, arith, length-take}
use Rattle.std.proofs.lemmas.{Bool.cond_both, List.length-map, List.Elements.All-nil, List.Elements.All-cons, List.Kept.IsStrictlyIncreasing-filter}
use Rattle.std.specs.{List.All, List.Sorted.IsStrictlyIncreasing}
use Rattle.bx_advice.specs.declared.config.Config.{Config}
use Rattle.bx_entry.specs.declared.entry.Entry.{Entry}
use Rattle.bx_entry.specs.Words.{Listed, Registry, Registered, Judged, registry, entries_of, Session, is_live, unopened, session, Kept, kept}
use Rattle.bx_theory.proofs.{Dues.NumberedFrom, Dues.numbered, Lists.judged_length, Closings.run_number, Closings.live_stage}
use Rattle.bx_session.proofs.NumberLemmas.{batches_at_most_entries}
use Rattle.bx_shard.specs.Words.{Setup, shard_at, is_placed_in, IsReached, SessionsReached, NumbersAscend, OpenedIsFresh}
use Rattle.bx_shard.proofs.Elements.{numbers, opens_above, Met, met}
use Rattle.bx_shard.proofs.Stepping.{held_by, held_cons, numbers_in, held_at, EachNumber, numbers_below}

-- ---- each session of the shard

each_held : (P : Kept → Type 0) (Q : ℕ → Type 0) (config : Config) (es : List Entry) (ns : List ℕ) → ((n : ℕ) → Q n → is_live (session config n es).stage ≡ true → P (kept (session config n es))) →
    EachNumber Q ns → All P (held_by config es ns)
each_held P Q config es [] h d = All-nil P
each_held P Q config es (n ∷ ns) h d =
    let s : Session = session config n es in
    let rest : All P (held_by config es ns) = each_held P Q config es ns h d.1 in
    subst (All P) (sym (held_cons config es n ns))
    (cond_both (is_live s.stage) (kept s ∷ held_by config es ns) (held_by config es ns) (All P) (λ l. All-cons P (kept s) (held_by config es ns) (h n d.0 l) rest) (λ l. rest))

-- ---- live sessions

session_reached : (config : Config) (number place : ℕ) (es : List Entry) → length es ≤ place → is_live (session config number es).stage ≡ true → IsReached place (kept (session config number es))
session_reached config number place es many live = record { live = live_stage (session config number es).stage live; numbers = omega (arith, batches_at_most_entries config number es) }

pub holds_reached : SessionsReached
holds_reached setup list taken shard n =
    let es : List Entry = entries_of (registry setup.config (take n list)) in
    let many : length (entries_of (registry setup.config (take n list))) ≤ n =
    omega (arith, length-map (registry setup.config (take n list)).judged (λ (j : Judged). j.entry), judged_length setup.config (take n list), length-take n list) in
    subst (All (IsReached n)) (sym (held_at setup list taken shard n))
    (each_held (IsReached n) (λ m. m < 1 + length (registry setup.config (take n list)).sessions) setup.config es (numbers_in setup shard (take n list))
    (λ m q l. session_reached setup.config m n es many l) (numbers_below setup shard (take n list)))

-- ---- the shard of a session

each_standing : (setup : Setup) (shard : ℕ) (ns : List ℕ) → EachNumber (λ n. is_placed_in setup shard n ≡ true) (filter (λ (n : ℕ). is_placed_in setup shard n) ns)
each_standing setup shard [] = tt
each_standing setup shard (n ∷ ns) =
    let rest : List ℕ = filter (λ (m : ℕ). is_placed_in setup shard m) ns in
    let theirs : EachNumber (λ m. is_placed_in setup shard m ≡ true) (filter (λ (m : ℕ). is_placed_in setup shard m) ns) = each_standing setup shard ns in
    cond_both (is_placed_in setup shard n) (n ∷ rest) rest (EachNumber (λ m. is_placed_in setup shard m ≡ true)) (λ h. (h, theirs)) (λ h. theirs)

-- ---- numbers

consecutive : (first k : ℕ) (rs : List Registered) → NumberedFrom first rs → k < length (numbers rs) → slice_index (numbers rs) k ≡ first + k
consecutive first k [] d h = absurd (omega arith)
consecutive first zero (r ∷ rs) d h = omega (arith, d.0)
consecutive first (suc k) (r ∷ rs) d h = let next : slice_index (numbers rs) k ≡ first + 1 + k = consecutive (first + 1) k rs d.1 (omega arith) in omega (arith, next)

numbers_ascend : (first : ℕ) (rs : List Registered) → NumberedFrom first rs → IsStrictlyIncreasing (numbers rs)
numbers_ascend first rs d k h =
    let here : slice_index (numbers rs) k ≡ first + k = consecutive first k rs d (omega arith) in
    let next : slice_index (numbers rs) (k + 1) ≡ first + (k + 1) = consecutive first (k + 1) rs d h in
    omega (arith, here, next)

kept_number : (config : Config) (number : ℕ) (es : List Entry) → (session config number es).number ≡ number
kept_number config number es = run_number config (unopened number) es

held_numbers : (config : Config) (es : List Entry) (ns : List ℕ) → map (λ (k : Kept). k.number) (held_by config es ns) ≡ filter (λ (n : ℕ). is_live (session config n es).stage) ns
held_numbers config es [] = refl
held_numbers config es (n ∷ ns) = grind (arith, held_numbers config es ns, kept_number config n es)

pub sessions_ascend : NumbersAscend
sessions_ascend setup list taken shard n =
    let config : Config = setup.config in
    let es : List Entry = entries_of (registry setup.config (take n list)) in
    let r : Registry = registry setup.config (take n list) in
    subst IsStrictlyIncreasing (sym (ap (map (λ (k : Kept). k.number)) (held_at setup list taken shard n) ∙ held_numbers setup.config es (numbers_in setup shard (take n list))))
    (IsStrictlyIncreasing-filter (λ m. is_live (session config m es).stage) (numbers_in setup shard (take n list))
    (IsStrictlyIncreasing-filter (λ m. is_placed_in setup shard m) (numbers r.sessions) (numbers_ascend 1 r.sessions (numbered config (take n list)))))

pub holds_stand : (setup : Setup) (list : List Listed) (taken : List ℕ) (shard n : ℕ) → All (λ k. is_placed_in setup shard k.number ≡ true) (shard_at setup list taken shard n).sessions
holds_stand setup list taken shard n =
    let es : List Entry = entries_of (registry setup.config (take n list)) in
    let r : Registry = registry setup.config (take n list) in
    subst (All (λ k. is_placed_in setup shard k.number ≡ true)) (sym (held_at setup list taken shard n))
    (each_held (λ k. is_placed_in setup shard k.number ≡ true) (λ m. is_placed_in setup shard m ≡ true) setup.config es (numbers_in setup shard (take n list))
    (λ m q l. subst (λ (x : ℕ). is_placed_in setup shard x ≡ true) (sym (kept_number setup.config m es)) q) (each_standing setup shard (numbers r.sessions)))

pub new_session_is_newest : OpenedIsFresh
new_session_is_newest setup list taken shard m number ack e there kind =
    let config : Config = setup.config in
    let es : List Entry = entries_of (registry setup.config (take m list)) in
    let r : Registry = registry setup.config (take m list) in
    let d : Met setup.config list m e = met setup.config list m e there in
    let past : length (registry setup.config (take m list)).sessions < number = opens_above setup.config (take m list) d.element number ack (ap (λ (x : Entry). x.kind) d.same ∙ kind) in
    subst (All (λ (k : Kept). k.number < number)) (sym (held_at setup list taken shard m))
    (each_held (λ k. k.number < number) (λ n. n < 1 + length (registry setup.config (take m list)).sessions) setup.config es (numbers_in setup shard (take m list))
    (λ n q l. let same : (session setup.config n (entries_of (registry setup.config (take m list)))).number ≡ n = kept_number setup.config n (entries_of (registry setup.config (take m list))) in omega (arith, q, same, past))
    (numbers_below setup shard (take m list)))
