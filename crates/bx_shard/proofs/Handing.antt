-- What a publish changes as it is delivered to one session after another.
use Rattle.std.proofs.Common.{zero, suc, slice_index, IfSome, Contains, IsTrue, ◌↔◌, ◌≤◌, length, arith, ◌<◌, ◌+◌, ◌≡◌, ◌≢◌, ℕ, nat_eq, Bool, true, false, cond, ◌||◌, Option, Some, None, option_map, List, [], ◌∷◌, map, refl, sym, ap, ◌∙◌, true≢false, subst}
use Rattle.std.specs.{List.All, List.list_any, List.Sorted.IsStrictlyIncreasing}
use Rattle.std.proofs.lemmas.{Bool.and_right, List.Elements.All-head, List.Elements.All-tail, Bool.eqb-true, Bool.eq-eqb, Bool.ne_eqb}
use Rattle.bx_history.proofs.Tests.{either}
use Rattle.bx_names.specs.Words.{is_broadcast, Glob}
use Rattle.std.proofs.Math.Bool.{or-true}
use Rattle.bx_message.specs.declared.{reply.Answer.Answer, event.Event.Event}
use Rattle.bx_advice.specs.declared.config.Config.{Config}
use Rattle.bx_entry.specs.Words.{Kept, after, kept, resumed, Session, is_hit, published, received}
use Rattle.bx_session.specs.declared.answered.Answered.{Answered}
use Rattle.bx_session.specs.Views.{Countable, answered_of, deadline_of, wants_two}
use Rattle.bx_connects.specs.declared.connects.ConnectState.{ConnectState}
use Rattle.bx_connects.specs.declared.connects.ConnectState.TheVariants.{Filed}
use Rattle.bx_connects.specs.Connects.{connect_at, session_at}
use Rattle.bx_shard.specs.declared.{publish.Parcel.Parcel, sessions.Sessions.Sessions}
use Rattle.bx_shard.specs.Effects.{answers_by, filing_each}
use Rattle.bx_shard.specs.Publishing.{reaches, AllReady, IsPacked, IsReady, NoneFor, Turn, Turns, numbers_of, published_at}
use Rattle.bx_shard.specs.Sessions.{AreCountable, AreCounted, AreHeld, IsCounted, IsOwn, HasRoom, held_until, kept_in, patterns_in}
use Rattle.bx_shard.proofs.Ends.{IsTo, filed_to, held_to, is_to, received_e, settles_each}
use Rattle.bx_shard.proofs.{Keeps.filing_each_session, Keeps.unfiled, Singles.nowhere}

pub ready_along : (s t : Sessions) (m : ℕ) (xs : List Parcel) → NoneFor m xs → ((n : ℕ) → nat_eq m n ≡ false → kept_in t n ≡ kept_in s n)
    → ((n : ℕ) → nat_eq m n ≡ false → HasRoom s n → HasRoom t n) → AllReady s xs → AllReady t xs
ready_along s t m [] none sessions room ready = ready
ready_along s t m (x ∷ xs) none sessions room ready = (
  record {
    here = subst (λ o. IfSome o (λ (k : Kept). (k.overflow ≡ false) × Countable k)) (sym (sessions x.number none.0)) ready.0.here;
    packed = record {
      room = room x.number none.0 ready.0.packed.room;
      further = subst (λ o. IfSome o (λ (k : Kept). wants_two k ≡ true → x.further ≡ Some x.event)) (sym (sessions x.number none.0)) ready.0.packed.further;
    };
  },
  ready.1,
  ready_along s t m xs none.1 sessions room ready.2,
)

pub packed-by : (s t : Sessions) (m : ℕ) (e : Event) (further : Option Event) → ((n : ℕ) → kept_in t n ≡ kept_in s n) → HasRoom t m → IfSome (kept_in s m) (λ (k : Kept). wants_two k ≡ true → further ≡ Some e)
    → IsPacked t (record { number = m; event = e; further = further })
packed-by s t m e further sessions room wants = record {
  room = room;
  further = subst (λ o. IfSome o (λ (k : Kept). wants_two k ≡ true → further ≡ Some e)) (sym (sessions m)) wants;
}

-- ---- the sessions that get a parcel

abbrev pub is_for : List Parcel → ℕ → Bool
is_for xs n = list_any (λ (x : Parcel). nat_eq x.number n) xs

none_for : (xs : List Parcel) (m : ℕ) → NoneFor m xs → is_for xs m ≡ false
none_for [] m none = refl
none_for (x ∷ xs) m none = grind (arith, none_for xs m none.1, none.0)

abbrev pub AreApart : List Parcel → Type 0
AreApart [] = Unit {0}
AreApart (x ∷ xs) = NoneFor x.number xs × AreApart xs

-- ---- all turns

turned : (F : Option Kept → Option Kept) (S : ℕ → Option Kept) (m n : ℕ) (later : Bool) (between : Option Kept) → (nat_eq m n ≡ true → later ≡ false) → between ≡ cond (nat_eq m n) (F (S m)) (S n) →
    cond later (F between) between ≡ cond (nat_eq m n || later) (F (S n)) (S n)
turned F S m n later between once is = grind arith

abbrev pub AreOf : Event → List Parcel → Type 0
AreOf e [] = Unit {0}
AreOf e (x ∷ xs) = (x.event ≡ e) × AreOf e xs

module _ (config : Config) (place : ℕ) (e : Event) where
  abbrev pub gets : Session → Session
  gets = received config (published_at place e)

  sessions_turned : (xs : List Parcel) (old new : Sessions) → AreOf e xs → AreApart xs → Turns config place xs old new
      → (n : ℕ) → kept_in new n ≡ cond (is_for xs n) (option_map (after gets) (kept_in old n)) (kept_in old n)
  sessions_turned [] old new of apart turns n = ap (λ s. kept_in s n) (sym turns)
  sessions_turned (x ∷ xs) old new of apart turns n =
      sessions_turned xs turns.0 new of.1 apart.1 turns.2 n
      ∙ turned (option_map (after gets)) (kept_in old) x.number n (is_for xs n) (kept_in turns.0 n) (λ t. rw (← eqb-true x.number n t) (none_for xs x.number apart.0)) (rw (← of.0) (turns.1.sessions n))

  answers_one : (s : Sessions) (n : ℕ) (a : Answered) → Contains (answers_by gets (kept_in s n)) a → IsTo (kept_in s n) (answers_by gets (kept_in s n)) a
  answers_one s n a = is_to (kept_in s n) (option_map (after gets) (kept_in s n)) (answers_by gets (kept_in s n)) a (settles_each gets (received_e config (published_at place e)) (kept_in s n))

  not_held : (state : Option ConnectState) (j p n : ℕ) (b : Answer) (deadline : Option ℕ) → state ≡ Some (Filed j p b) → held_until state n ≡ Some deadline → ⊥
  not_held state j p n b deadline filed held = grind arith

  later_other : (x : Parcel) (xs : List Parcel) (n : ℕ) → NoneFor x.number xs → is_for xs n ≡ true → nat_eq x.number n ≡ false
  later_other x xs n apart gets_one = grind (arith, none_for xs x.number apart)

  later_same : (x : Parcel) (xs : List Parcel) (old between : Sessions) → NoneFor x.number xs → Turn config place x old between → (n : ℕ) → is_for xs n ≡ true → kept_in between n ≡ kept_in old n
  later_same x xs old between apart turn n gets_one =
      turn.sessions n ∙ ap (λ b. cond b (option_map (after (received config (published_at place x.event))) (kept_in old x.number)) (kept_in old n)) (later_other x xs n apart gets_one)

  pub record Gives (old : Sessions) (xs : List Parcel) (n : ℕ) (a : Answered) : Type 0 where
    pub gets_one : is_for xs n ≡ true
    pub given : Contains (answers_by gets (kept_in old n)) a

  gives_before : (x : Parcel) (xs : List Parcel) (old between : Sessions) → NoneFor x.number xs → Turn config place x old between
      → (n : ℕ) (a : Answered) → Gives between xs n a → Gives old (x ∷ xs) n a
  gives_before x xs old between apart turn n a g = record {
    gets_one = ap (λ b. nat_eq x.number n || b) g.gets_one ∙ or-true (nat_eq x.number n);
    given = subst (λ o. Contains (answers_by gets o) a) (later_same x xs old between apart turn n g.gets_one) g.given;
  }

  connects_kept : (xs : List Parcel) (old new : Sessions) → AreOf e xs → AreApart xs → Turns config place xs old new
      → (p : ℕ) → ((n : ℕ) (a : Answered) → Gives old xs n a → a.place ≢ p) → connect_at new.connects p ≡ connect_at old.connects p
  connects_kept [] old new of apart turns p never = ap (λ s. connect_at s.connects p) (sym turns)
  connects_kept (x ∷ xs) old new of apart turns p never =
      connects_kept xs turns.0 new of.1 apart.1 turns.2 p (λ n a g. never n a (gives_before x xs old turns.0 apart.0 turns.1 n a g))
      ∙ turns.1.connects p
      ∙ ap (λ v. filing_each place (answers_by (received config (published_at place v)) (kept_in old x.number)) (connect_at old.connects) p) of.0
      ∙ unfiled place (answers_by gets (kept_in old x.number)) (connect_at old.connects) p (λ a there. never x.number a (record {
        gets_one = ap (λ b. b || is_for xs x.number) (eq-eqb x.number x.number refl);
        given = there;
      }))

  answers_filed : (xs : List Parcel) (old new : Sessions) → AreHeld old → AreOf e xs → AreApart xs → Turns config place xs old new
      → (n : ℕ) (a : Answered) → Gives old xs n a → connect_at new.connects a.place ≡ Some (Filed n place a.answer)
  answers_filed [] old new held of apart turns n a g = absurd (true≢false (sym g.gets_one))
  answers_filed (x ∷ xs) old new held of apart turns n a g =
      by (nat_eq x.number n) refl
      (λ gets_one. answers_filed xs turns.0 new turns.1.held of.1 apart.1 turns.2 n a (record { gets_one = gets_one; given = subst (λ o. Contains (answers_by gets o) a) (sym (later_same x xs old turns.0 apart.0 turns.1 n gets_one)) g.given }))
      (λ filed. connects_kept xs turns.0 new of.1 apart.1 turns.2 a.place (λ m b h same.
      let other = answers_one turns.0 m b h.given in
      not_held (connect_at turns.0.connects a.place) n place m a.answer (deadline_of other.hold) filed
      (subst (λ q. held_until (connect_at turns.0.connects q) m ≡ Some (deadline_of other.hold)) same (held_to (connect_at turns.0.connects) (kept_in turns.0) m (answers_by gets (kept_in turns.0 m)) b turns.1.held other))) ∙ filed)
    where
      by : (b : Bool) → nat_eq x.number n ≡ b → (is_for xs n ≡ true → connect_at new.connects a.place ≡ Some (Filed n place a.answer))
          → (connect_at turns.0.connects a.place ≡ Some (Filed n place a.answer) → connect_at new.connects a.place ≡ Some (Filed n place a.answer))
          → connect_at new.connects a.place ≡ Some (Filed n place a.answer)
      by false other later now = later (sym (ap (λ b. b || is_for xs n) other) ∙ g.gets_one)
      by true same later now =
          let m : x.number ≡ n = eqb-true x.number n same in
          now (turns.1.connects a.place
          ∙ ap (λ v. filing_each place (answers_by (received config (published_at place v)) (kept_in old x.number)) (connect_at old.connects) a.place) of.0
          ∙ ap (λ k. filing_each place (answers_by gets (kept_in old k)) (connect_at old.connects) a.place) m
          ∙ filed_to (connect_at old.connects) (kept_in old) place n (answers_by gets (kept_in old n)) a held (answers_one old n a g.given))

  -- ---- what does not change

  sessions_kept : (xs : List Parcel) (old new : Sessions) → Turns config place xs old new → (p : ℕ) → session_at (connect_at new.connects p) ≡ session_at (connect_at old.connects p)
  sessions_kept [] old new turns p = ap (λ s. session_at (connect_at s.connects p)) (sym turns)
  sessions_kept (x ∷ xs) old new turns p =
      sessions_kept xs turns.0 new turns.2 p ∙ ap session_at (turns.1.connects p)
      ∙ filing_each_session place (answers_by (received config (published_at place x.event)) (kept_in old x.number)) (connect_at old.connects) p

  held_after : (xs : List Parcel) (old new : Sessions) → AreHeld old → Turns config place xs old new → AreHeld new
  held_after [] old new held turns = subst AreHeld turns held
  held_after (x ∷ xs) old new held turns = held_after xs turns.0 new turns.1.held turns.2

  config_after : (xs : List Parcel) (old new : Sessions) → Turns config place xs old new → new.config ≡ old.config
  config_after [] old new turns = ap (λ s. s.config) (sym turns)
  config_after (x ∷ xs) old new turns = config_after xs turns.0 new turns.2 ∙ turns.1.config_is

-- ---- iteration

pub none_there : (items : List ℕ) (n : ℕ) (b : Bool) → items ≡ [] → b ≡ false → Contains items n ↔ IsTrue b
none_there items n b empty is = (λ there. absurd (omega (arith, there.1, ap length empty)), λ told. absurd (true≢false (sym told ∙ is)))

-- ---- numbers and their parcels

abbrev pub is_one_of : List ℕ → ℕ → Bool
is_one_of ns n = list_any (λ m. nat_eq m n) ns

contained : (ns : List ℕ) (n : ℕ) → Contains ns n → is_one_of ns n ≡ true
contained [] n there = absurd (omega (arith, there.1))
contained (m ∷ ms) n (zero, within, at) = ap (λ b. b || is_one_of ms n) (eq-eqb m n at)
contained (m ∷ ms) n (suc k, within, at) = ap (λ b. nat_eq m n || b) (contained ms n (k, omega (arith, within), at)) ∙ or-true (nat_eq m n)

containing : (ns : List ℕ) (n : ℕ) → is_one_of ns n ≡ true → Contains ns n
containing [] n told = absurd (true≢false (sym told))
containing (m ∷ ms) n told = by (nat_eq m n) refl told (containing ms n)
  where
    by : (b : Bool) → nat_eq m n ≡ b → (b || is_one_of ms n) ≡ true → (is_one_of ms n ≡ true → Contains ms n) → Contains (m ∷ ms) n
    by true same h rest = (zero, omega arith, eqb-true m n same)
    by false other h rest = let there = rest h in (suc there.0, omega (arith, there.1), there.2)

pub one_of_is : (ns : List ℕ) (n : ℕ) (b : Bool) → (Contains ns n ↔ IsTrue b) → is_one_of ns n ≡ b
one_of_is ns n b iff = grind (arith, contained ns n, containing ns n)

rising_tail : (n : ℕ) (ns : List ℕ) → IsStrictlyIncreasing (n ∷ ns) → IsStrictlyIncreasing ns
rising_tail n ns rises i within =
    let next : suc i + 1 ≡ suc (i + 1) = omega arith in
    subst (λ j. slice_index (n ∷ ns) (suc i) < slice_index (n ∷ ns) j) next (rises (suc i) (omega (arith, within)))

pub are_of : (e : Event) (xs : List Parcel) → All (λ (x : Parcel). x.event ≡ e) xs → AreOf e xs
are_of e [] all = tt
are_of e (x ∷ xs) all = (All-head (λ (y : Parcel). y.event ≡ e) x xs all, are_of e xs (All-tail (λ (y : Parcel). y.event ≡ e) x xs all))

pub is_for_numbers : (xs : List Parcel) (n : ℕ) → is_for xs n ≡ is_one_of (numbers_of xs) n
is_for_numbers [] n = refl
is_for_numbers (x ∷ xs) n = ap (λ b. nat_eq x.number n || b) (is_for_numbers xs n)

none_above : (low m : ℕ) (xs : List Parcel) → low ≤ m → IsStrictlyIncreasing (m ∷ numbers_of xs) → NoneFor low xs
none_above low m [] below rises = tt
none_above low m (x ∷ xs) below rises =
    let next : m < x.number = rises 0 (omega arith) in
    (ne_eqb low x.number (λ same. absurd (omega (arith, below, next, same))), none_above low x.number xs (omega (arith, below, next)) (rising_tail m (x.number ∷ numbers_of xs) rises))

pub are_apart : (xs : List Parcel) → IsStrictlyIncreasing (numbers_of xs) → AreApart xs
are_apart [] rises = tt
are_apart (x ∷ xs) rises = (none_above x.number x.number xs (omega arith) rises, are_apart xs (rising_tail x.number (numbers_of xs) rises))

pub all_ready : (s : Sessions) (xs : List Parcel) → AreApart xs → All (IsPacked s) xs → ((x : Parcel) → Contains (numbers_of xs) x.number → IsPacked s x → IsReady s x) → AllReady s xs
all_ready s [] apart packed ready = tt
all_ready s (x ∷ xs) apart packed ready = (
  ready x (zero, omega arith, refl) (All-head (IsPacked s) x xs packed),
  apart.0,
  all_ready s xs apart.1 (All-tail (IsPacked s) x xs packed) (λ y there one. ready y (suc there.0, omega (arith, there.1), there.2) one),
)

-- ---- the sessions that an event reaches

pub silent : (e : Event) (patterns : List Glob) → patterns ≡ [] → reaches e patterns ≡ false
silent e patterns empty = ap (reaches e) empty ∙ and_right (is_broadcast e.channel) false refl

pub hears_is : (e : Event) (n : ℕ) (k : Kept) (patterns : List Glob) → IsOwn n k patterns → is_hit (resumed k) e ≡ reaches e patterns
hears_is e n k patterns own = grind (arith, silent e patterns)

heard : (change : Session → Session) (k : Kept) (b c : Bool) → c ≡ b → cond b (Some (after change k)) (Some k) ≡ Some (kept (cond c (change (resumed k)) (resumed k)))
heard change k b c same = grind arith

heard_answers : (change : Session → Session) (k : Kept) (b c : Bool) → c ≡ b → map answered_of (cond c (change (resumed k)) (resumed k)).answers ≡ cond b (answers_by change (Some k)) []
heard_answers change k b c same = grind arith

none_heard : (b : Bool) → cond {A = Option Kept} b None None ≡ None
none_heard b = grind arith

-- ---- the whole publish

pub record Handed (config : Config) (place : ℕ) (e : Event) (old new : Sessions) : Type 0 where
  pub sessions : (n : ℕ) → kept_in new n ≡ option_map (after (published config (published_at place e))) (kept_in old n)
  pub given : (n : ℕ) (a : Answered) → Contains (answers_by (published config (published_at place e)) (kept_in old n)) a → connect_at new.connects a.place ≡ Some (Filed n place a.answer)
  pub kept : (p : ℕ) → ((n : ℕ) (a : Answered) → Contains (answers_by (published config (published_at place e)) (kept_in old n)) a → a.place ≢ p) → connect_at new.connects p ≡ connect_at old.connects p
  pub known : (p : ℕ) → session_at (connect_at new.connects p) ≡ session_at (connect_at old.connects p)
  pub held : AreHeld new
  pub config_is : new.config ≡ old.config

module _ (config : Config) (place : ℕ) (e : Event) (s t new : Sessions) (xs : List Parcel) (counted : AreCounted s) (sessions : (n : ℕ) → kept_in t n ≡ kept_in s n)
    (of : AreOf e xs) (reached : (n : ℕ) → (Contains (numbers_of xs) n ↔ IsTrue (reaches e (patterns_in s n)))) where
  abbrev hears : Session → Session
  hears = published config (published_at place e)

  gets_if : (n : ℕ) → is_for xs n ≡ reaches e (patterns_in s n)
  gets_if n = is_for_numbers xs n ∙ one_of_is (numbers_of xs) n (reaches e (patterns_in s n)) (reached n)

  hears_if : (n : ℕ) (k : Kept) → kept_in s n ≡ Some k → is_hit (resumed k) e ≡ is_for xs n
  hears_if n k here = hears_is e n k (patterns_in s n) (subst (λ o. IsCounted n o (patterns_in s n)) here (counted n)) ∙ sym (gets_if n)

  answers_if : (n : ℕ) (k : Kept) {b : Bool} → kept_in s n ≡ Some k → is_for xs n ≡ b → answers_by hears (Some k) ≡ cond b (answers_by (gets config place e) (Some k)) []
  answers_if n k {b} here gets_one = heard_answers (gets config place e) k b (is_hit (resumed k) e) (hears_if n k here ∙ gets_one)

  all_hear : AreApart xs → Turns config place xs t new → (n : ℕ) → kept_in new n ≡ option_map (after hears) (kept_in s n)
  all_hear apart turns n =
      sessions_turned config place e xs t new of apart turns n
      ∙ ap (λ o. cond (is_for xs n) (option_map (after (gets config place e)) o) o) (sessions n)
      ∙ by (kept_in s n) refl
    where
      by : (o : Option Kept) → kept_in s n ≡ o → cond (is_for xs n) (option_map (after (gets config place e)) o) o ≡ option_map (after hears) o
      by None h = none_heard (is_for xs n)
      by (Some k) h = heard (gets config place e) k (is_for xs n) (is_hit (resumed k) e) (hears_if n k h)

  gives_if : (n : ℕ) (a : Answered) → Contains (answers_by hears (kept_in s n)) a → Gives config place e t xs n a
  gives_if n a there = by (kept_in s n) refl there
    where
      by : (o : Option Kept) → kept_in s n ≡ o → Contains (answers_by hears o) a → Gives config place e t xs n a
      by None here in_it = absurd (nowhere a in_it)
      by (Some k) here in_it = either (is_for xs n) (Gives config place e t xs n a)
          (λ f. record { gets_one = f; given = rw (sessions n, here) (subst (λ answers. Contains answers a) (answers_if n k here f) in_it) })
          (λ f. absurd (nowhere a (subst (λ answers. Contains answers a) (answers_if n k here f) in_it)))

  if_gives : (n : ℕ) (a : Answered) → Gives config place e t xs n a → Contains (answers_by hears (kept_in s n)) a
  if_gives n a g = by (kept_in s n) refl (rw (sessions n) at g.given)
    where
      by : (o : Option Kept) → kept_in s n ≡ o → Contains (answers_by (gets config place e) o) a → Contains (answers_by hears o) a
      by None here in_it = absurd (nowhere a in_it)
      by (Some k) here in_it = subst (λ answers. Contains answers a) (sym (answers_if n k here g.gets_one)) in_it

  pub are_ready : AreCountable s → AreApart xs → All (IsPacked t) xs → AllReady t xs
  are_ready countable apart packed = all_ready t xs apart packed ready
    where
      ready : (x : Parcel) → Contains (numbers_of xs) x.number → IsPacked t x → IsReady t x
      ready x there one = record {
        here = subst (λ o. IfSome o (λ (k : Kept). (k.overflow ≡ false) × Countable k)) (sym (sessions x.number)) (by (kept_in s x.number) refl (counted x.number) (countable x.number));
        packed = one;
      }
        where
          by : (o : Option Kept) → kept_in s x.number ≡ o → IsCounted x.number o (patterns_in s x.number) → IfSome o Countable → IfSome o (λ (k : Kept). (k.overflow ≡ false) × Countable k)
          by None h c few = tt
          by (Some k) h c few =
              (either k.overflow (k.overflow ≡ false) (λ g. absurd (true≢false (sym ((reached x.number).0 there) ∙ silent e (patterns_in s x.number) (c.emptied g)))) (λ g. g), few)

  pub handed : AreApart xs → AreHeld t → t.connects ≡ s.connects → t.config ≡ s.config → Turns config place xs t new → Handed config place e s new
  handed apart held connects same turns = record {
    sessions = all_hear apart turns;
    given = λ n a there. answers_filed config place e xs t new held of apart turns n a (gives_if n a there);
    kept = λ p never. connects_kept config place e xs t new of apart turns p (λ n a gives. never n a (if_gives n a gives)) ∙ ap (λ c. connect_at c p) connects;
    known = λ p. sessions_kept config place e xs t new turns p ∙ ap (λ c. session_at (connect_at c p)) connects;
    held = held_after config place e xs t new held turns;
    config_is = config_after config place e xs t new turns ∙ same;
  }
