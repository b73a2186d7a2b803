-- The answers that a shard has filed after one more entry.
use Rattle.std.proofs.Common.{◌≡◌, ℕ, ◌+◌, Bool, false, Option, Some, None, List, [], ◌∷◌, ◌++◌, length, take, filter, ◌==◌, refl, sym, ap, ◌∙◌, arith, append-nil, flat_map, length-append}
use Rattle.std.proofs.lemmas.{Bool.cond_both, Bool.cond-true, Bool.cond-false, List.Elements.filter-append, Grind.flat_map-append, List.Folds.find-append, List.Folds.flat_map-map}
use Rattle.bx_history.proofs.Tests.{either}
use Rattle.bx_advice.specs.declared.config.Config.{Config}
use Rattle.bx_entry.specs.Words.{Listed, Registry, registry, entries_of, Waiting, Session, is_live, step_by, step, unopened, session, Filed, Kept, kept, kept_answers}
use Rattle.bx_entry.specs.declared.entry.{Entry.Entry, EntryKind.EntryKind}
use Rattle.bx_entry.specs.declared.entry.EntryKind.TheVariants.{Opened}
use Rattle.bx_entry.specs.Placings.{Setup}
use Rattle.bx_shard.specs.Shards.{is_placed_in, is_taken, shard_at, sessions_in}
use Rattle.bx_theory.proofs.{Kept.entry_effect_ignores_history, Closings.idle_next, Waits.waits_over}
use Rattle.std.specs.Option.{option_or}
use Rattle.bx_shard.specs.Steps.{answers_by, ShardsFile}
use Rattle.bx_shard.proofs.{Untaken.FoundBy, Untaken.find_of, Untaken.find_untaken, Untaken.found_by}
use Rattle.bx_shard.proofs.Elements.{numbers, numbers_next, opened_numbers, entry_next, session_next, all_fresh, opens_above, Met, met}
use Rattle.bx_shard.proofs.Stepping.{by_numbers, held_by, one_kept, held_cons, numbers_in, held_over, held_at}

exchange : (a b c d : Option Filed) → ((f g : Filed) → a ≡ None → b ≡ Some f → c ≡ Some g → ⊥) → option_or (option_or a b) (option_or c d) ≡ option_or (option_or a c) (option_or b d)
exchange a b c d h = grind arith

earlier_first : (place : ℕ) (A B C : ℕ → List Filed) (ns : List ℕ) → ((n : ℕ) → C n ≡ A n ++ B n) → ((n m : ℕ) (f g : Filed) → find_of place (C n) ≡ Some f → find_of place (C m) ≡ Some g → n ≡ m) →
    find_of place (flat_map C ns) ≡ option_or (find_of place (flat_map A ns)) (find_of place (flat_map B ns))
earlier_first place A B C [] split one = refl
earlier_first place A B C (n ∷ ns) split one =
    let test : Filed → Bool = λ f. f.connect == place in
    let parts : (m : ℕ) → find_of place (C m) ≡ option_or (find_of place (A m)) (find_of place (B m)) = λ m. ap (find_of place) (split m) ∙ find-append (λ (f : Filed). f.connect == place) (A m) (B m) in
    let apart : (f g : Filed) → find_of place (A n) ≡ None → find_of place (B n) ≡ Some f → find_of place (flat_map A ns) ≡ Some g → ⊥ =
    λ f g x y z.
    let w : FoundBy (λ m. Unit {0}) A place g = found_by (λ m. Unit {0}) A place g ns (λ i d l. tt) z in
    let mine : find_of place (C n) ≡ Some f = grind (arith, parts n) in
    let other : find_of place (C w.one) ≡ Some g = grind (arith, parts w.one, w.found) in
    let same : n ≡ w.one = one n w.one f g mine other in
    cc (x, w.found) in
    grind (
      arith,
      find-append test (C n) (flat_map C ns),
      parts n,
      earlier_first place A B C ns split one,
      exchange (find_of place (A n)) (find_of place (B n)) (find_of place (flat_map A ns)) (find_of place (flat_map B ns)) apart,
      find-append test (A n) (flat_map A ns),
      find-append test (B n) (flat_map B ns),
    )

nothing_more : (xs ys : List Filed) → xs ≡ xs ++ ys → ys ≡ []
nothing_more xs [] e = refl
nothing_more xs (y ∷ ys) e = absurd (let l : length xs ≡ length (xs ++ y ∷ ys) = ap length e in omega (arith, l, length-append xs (y ∷ ys)))

one_waiter : (config : Config) (zs : List Listed) (place n m : ℕ) (f g : Filed) → find_of place (session config n (entries_of (registry config zs))).answers ≡ Some f →
    find_of place (session config m (entries_of (registry config zs))).answers ≡ Some g → n ≡ m
one_waiter config zs place n m f g x y = let both : Some (Waiting n) ≡ Some (Waiting m) = sym (waits_over config n place zs f x) ∙ waits_over config m place zs g y in cc

opened_nothing : (config : Config) (setup : Setup) (shard : ℕ) (ys : List Listed) (x : Listed) (k : EntryKind) → (entry_next config ys x).kind ≡ k →
    flat_map (λ (n : ℕ). (session config n (entries_of (registry config (ys ++ x ∷ [])))).answers) (filter (λ (n : ℕ). is_placed_in setup shard n) (opened_numbers k)) ≡ []
opened_nothing config setup shard ys x (Opened n ack) h =
    let e : Entry = entry_next config ys x in
    let A : ℕ → List Filed = λ m. (session config m (entries_of (registry config (ys ++ x ∷ [])))).answers in
    let none : (step_by config e.place e.moment (unopened n) (Opened n ack)).answers ≡ [] = grind arith in
    let here : (session config n (entries_of (registry config (ys ++ x ∷ [])))).answers ≡ [] =
    ap (λ (u : Session). u.answers) (session_next config n ys x ∙ ap (λ (u : Session). step config u e) (all_fresh config ys n (opens_above config ys x n ack h)))
    ∙ ap (λ (k : EntryKind). (step config (unopened n) (record e { kind = k })).answers) h ∙ none in
    cond_both (is_placed_in setup shard n) (n ∷ []) [] (λ (ms : List ℕ). flat_map A ms ≡ []) (λ g. append-nil (A n) ∙ here) (λ g. refl)
opened_nothing config setup shard ys x _ h = refl

live_answers : (config : Config) (ys : List Listed) (x : Listed) (ns : List ℕ) →
    flat_map (λ (n : ℕ). kept_answers config (kept (session config n (entries_of (registry config ys)))) (entry_next config ys x)) ns ≡ answers_by config (entry_next config ys x) (held_by config (entries_of (registry config ys)) ns)
live_answers config ys x [] = refl
live_answers config ys x (n ∷ ns) =
    let es : List Entry = entries_of (registry config ys) in
    let e : Entry = entry_next config ys x in
    let s : Session = session config n (entries_of (registry config ys)) in
    let F : List Kept → List Filed = λ ks. answers_by config e ks in
    let rest : List Kept = held_by config es ns in
    let B : ℕ → List Filed = λ m. kept_answers config (kept (session config m es)) e in
    ap (λ (fs : List Filed). B n ++ fs) (live_answers config ys x ns)
    ∙ either (is_live s.stage) (B n ++ F rest ≡ F (one_kept s rest))
    (λ h. sym (ap F (cond-true (is_live s.stage) (kept s ∷ rest) rest h)))
    (λ h.
    let quiet : s.answers ≡ s.answers ++ B n = sym (idle_next config n ys x h) ∙ ap (λ (u : Session). u.answers) (session_next config n ys x) ∙ (entry_effect_ignores_history config s e).answers in
    ap (λ (fs : List Filed). fs ++ F rest) (nothing_more s.answers (B n) quiet) ∙ sym (ap F (cond-false (is_live s.stage) (kept s ∷ rest) rest h)))
    ∙ sym (ap F (held_cons config es n ns))

abbrev answers_over : Setup → ℕ → List Listed → List Filed
answers_over setup shard xs = flat_map (λ (n : ℕ). (session setup.config n (entries_of (registry setup.config xs))).answers) (numbers_in setup shard xs)

filed_next : (setup : Setup) (shard place : ℕ) (ys : List Listed) (x : Listed) →
    find_of place (answers_over setup shard (ys ++ x ∷ [])) ≡ option_or (find_of place (answers_over setup shard ys)) (find_of place (answers_by setup.config (entry_next setup.config ys x) (held_over setup shard ys)))
filed_next setup shard place ys x =
    let config : Config = setup.config in
    let here : ℕ → Bool = λ n. is_placed_in setup shard n in
    let es : List Entry = entries_of (registry setup.config ys) in
    let e : Entry = entry_next setup.config ys x in
    let ns : List ℕ = numbers (registry setup.config ys).sessions in
    let ms : List ℕ = opened_numbers e.kind in
    let A : ℕ → List Filed = λ n. (session setup.config n (entries_of (registry setup.config ys))).answers in
    let B : ℕ → List Filed = λ n. kept_answers setup.config (kept (session setup.config n (entries_of (registry setup.config ys)))) (entry_next setup.config ys x) in
    let C : ℕ → List Filed = λ n. (session setup.config n (entries_of (registry setup.config (ys ++ x ∷ [])))).answers in
    let split : (n : ℕ) → C n ≡ A n ++ B n = λ n. ap (λ (u : Session). u.answers) (session_next config n ys x) ∙ (entry_effect_ignores_history config (session config n es) e).answers in
    ap (λ (ks : List ℕ). find_of place (flat_map C (filter here ks))) (numbers_next config ys x)
    ∙ ap (λ (ks : List ℕ). find_of place (flat_map C ks)) (filter-append here ns ms)
    ∙ ap (find_of place) (flat_map-append C (filter here ns) (filter here ms))
    ∙ ap (λ (fs : List Filed). find_of place (flat_map C (filter here ns) ++ fs)) (opened_nothing config setup shard ys x e.kind refl)
    ∙ ap (find_of place) (append-nil (flat_map C (filter here ns)))
    ∙ earlier_first place A B C (filter here ns) split (λ n m f g p q. one_waiter config (ys ++ x ∷ []) place n m f g p q)
    ∙ ap (λ (fs : List Filed). option_or (find_of place (flat_map A (filter here ns))) (find_of place fs)) (live_answers config ys x (filter here ns))

filed_at : (setup : Setup) (list : List Listed) (taken : List ℕ) (shard n place : ℕ) → is_taken taken place ≡ false →
    find_of place (shard_at setup list taken shard n).filed ≡ find_of place (answers_over setup shard (take n list))
filed_at setup list taken shard n place free =
    let r : Registry = registry setup.config (take n list) in
    find_untaken taken place (flat_map (λ (s : Session). s.answers) (sessions_in setup list shard n)) free
    ∙ ap (λ (ss : List Session). find_of place (flat_map (λ (s : Session). s.answers) ss)) (by_numbers setup.config setup shard (entries_of r) r.sessions)
    ∙ ap (find_of place) (flat_map-map (λ (s : Session). s.answers) (λ n. session setup.config n (entries_of r)) (numbers_in setup shard (take n list)))

-- ---- the law

pub entry_determines_filed_answers : ShardsFile
entry_determines_filed_answers setup list taken shard n e place room there free =
    let config : Config = setup.config in
    let m : Met setup.config list n e = met setup.config list n e there in
    let before : Option Filed = find_of place (answers_over setup shard (take n list)) in
    filed_at setup list taken shard (n + 1) place free
    ∙ ap (λ (zs : List Listed). find_of place (answers_over setup shard zs)) m.next
    ∙ filed_next setup shard place (take n list) m.element
    ∙ ap (λ (x : Entry). option_or before (find_of place (answers_by config x (held_over setup shard (take n list))))) m.same
    ∙ ap (λ (ks : List Kept). option_or before (find_of place (answers_by config e ks))) (sym (held_at setup list taken shard n))
    ∙ ap (λ (o : Option Filed). option_or o (find_of place (answers_by config e (shard_at setup list taken shard n).sessions))) (sym (filed_at setup list taken shard n place free))
