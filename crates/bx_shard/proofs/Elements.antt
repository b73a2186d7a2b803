-- What one more element of the list does to the registry and to each session.
use Rattle.std.proofs.Common.{◌≡◌, Bool, ℕ, ◌+◌, ◌<◌, ◌≤◌, max, ⊎_elim, true, false, Option, Some, List, [], ◌∷◌, ◌++◌, length, take, map, slice_get, ◌==◌, refl, sym, ap, ◌∙◌, arith, append-nil, append_assoc, eq-eqb, ne_eqb}
use Rattle.std.proofs.lemmas.{Bool.cases_lt, Bool.cond-false, List.map-append, List.length-map, List.length_push, List.Sums.fold-append, Grind.common_steps}
use Rattle.std.proofs.Math.Seq.{take-append_seam}
use Rattle.bx_advice.specs.declared.config.Config.{Config}
use Rattle.bx_message.specs.declared.{message_kind.MessageKind.MessageKind, message.Message.Message}
use Rattle.bx_message.specs.MessageKinds.{message_kind_of}
use Rattle.bx_entry.specs.Words.{Listed, Post, Posted, Registry, Registered, Judged, Verdict, kind_for, hold_of, newcomer, registry, entries_of, entries, found_at, sessionless_kind, Session, ridden_by, rider_of, step_by, step, unopened, session}
use Rattle.bx_entry.specs.Listing as messages
use Rattle.bx_entry.specs.declared.entry.{Entry.Entry, EntryKind.EntryKind, Rider.Rider}
use Rattle.bx_entry.specs.declared.entry.EntryKind.TheVariants.{Opened, Tick}
use Rattle.bx_theory.specs.Readings.{moment_of, opens_by}
use Rattle.bx_theory.proofs.Dues.{Mapped, Same, named_session, numbered, numbered_below, served_sessions, overdue_closed_sessions, unchanged}
use Rattle.bx_theory.proofs.{Lives.none_opened, Lives.served_opens}
use Rattle.bx_theory.proofs.Verdicts.{each_registry, each_verdict, entries_after, entry_of_place, judge_is, next_found, registry_next, verdict_of}

-- ---- the numbers of the registry

abbrev pub numbers : List Registered → List ℕ
numbers rs = map (λ (r : Registered). r.number) rs

abbrev pub opened_numbers : EntryKind → List ℕ
opened_numbers (Opened n ack) = n ∷ []
opened_numbers _ = []

numbers_through : (change : Registered → Registered) (rs : List Registered) → ((s : Registered) → Same s (change s)) → numbers (map change rs) ≡ numbers rs
numbers_through change [] same = refl
numbers_through change (r ∷ rs) same = cc ((same r).number, numbers_through change rs same)

pub same_numbers : (change : Registered → Registered) (rs ts : List Registered) → Mapped change rs ts → numbers ts ≡ numbers rs
same_numbers change rs ts m = ap numbers m.is ∙ numbers_through change rs m.same

-- ---- one element

abbrev entry_by : Registry → Listed → Verdict → Entry
entry_by r x v = (found_at (length r.judged) (max r.clock (moment_of x)) v).entry

record Adds (config : Config) (r : Registry) (x : Listed) (v : Verdict) : Type 0 where
  sessions : numbers v.state.sessions ≡ numbers r.sessions ++ opened_numbers v.kind
  new : (n : ℕ) → n < 1 + length r.sessions → opens_by n v.kind ≡ false
  fresh : (n : ℕ) → length v.state.sessions < n → step config (unopened n) (entry_by r x v) ≡ unopened n
  longer : length r.sessions ≤ length v.state.sessions

no_ride : (config : Config) (place n : ℕ) (rides : Option Rider) → ridden_by config place (unopened n) rides ≡ unopened n
no_ride config place n rides = grind (arith, common_steps)

none_numbered : (k : EntryKind) → ((n : ℕ) → opens_by n k ≡ false) → opened_numbers k ≡ []
none_numbered (Opened n ack) none = absurd (let no : true ≡ false = sym (eq-eqb n n refl) ∙ none n in cc)
none_numbered _ none = refl

opens_none : (config : Config) (r : Registry) (x : Listed) (v : Verdict) (change : Registered → Registered) → Mapped change r.sessions v.state.sessions → ((n : ℕ) → opens_by n v.kind ≡ false) →
    ((place moment n : ℕ) → length r.sessions < n → step_by config place moment (unopened n) v.kind ≡ unopened n) → Adds config r x v
opens_none config r x v change m opens fresh =
    let many : length v.state.sessions ≡ length r.sessions = ap length m.is ∙ length-map r.sessions change in
    record {
      sessions = same_numbers change r.sessions v.state.sessions m ∙ sym (ap (λ (ns : List ℕ). numbers r.sessions ++ ns) (none_numbered v.kind opens) ∙ append-nil (numbers r.sessions));
      new = λ n l. opens n;
      fresh = λ n l. ap (λ (t : Session). ridden_by config (length r.judged) t (rider_of v.kind v.rides)) (fresh (length r.judged) (max r.clock (moment_of x)) n (omega (arith, many, l)))
          ∙ no_ride config (length r.judged) n (rider_of v.kind v.rides);
      longer = omega (arith, many);
    }

served_fresh : (config : Config) (place moment : ℕ) (c : MessageKind) (p : Posted) (q : Registered) (hold n : ℕ) → (q.number == n) ≡ false → step_by config place moment (unopened n) (kind_for c p q hold) ≡ unopened n
served_fresh config place moment c p q hold n h = grind arith

sessionless_fresh : (config : Config) (place moment : ℕ) (c : MessageKind) (m : Message) (n : ℕ) → step_by config place moment (unopened n) (sessionless_kind c m) ≡ unopened n
sessionless_fresh config place moment c m n = grind (arith, common_steps)

tick_fresh : (config : Config) (place moment : ℕ) (numbers : List ℕ) (n : ℕ) → step_by config place moment (unopened n) (Tick numbers) ≡ unopened n
tick_fresh config place moment numbers n = grind (arith, common_steps)

abbrev pub entry_next : Config → List Listed → Listed → Entry
entry_next config ys x = (next_found config (registry config ys) x).entry

adds : (config : Config) (ys : List Listed) (x : Listed) → Adds config (registry config ys) x (verdict_of config (registry config ys) x)
adds config ys x =
    let r : Registry = registry config ys in
    each_verdict config r (Adds config r) (record {
      refuses = λ p sender error. opens_none config r (Post p) _ _ (unchanged r.sessions) (λ n. refl) (λ place moment n l. refl);
      opens = λ p.
          let new : Registered = newcomer config (max r.clock p.moment) p (length r.sessions + 1) in
          let many : length (r.sessions ++ newcomer config (max r.clock p.moment) p (length r.sessions + 1) ∷ []) ≡ length r.sessions + 1 = length_push r.sessions new in
          record {
            sessions = map-append (λ (q : Registered). q.number) r.sessions (new ∷ []);
            new = λ n l. ne_eqb (length r.sessions + 1) n (λ e. let f : length r.sessions + 1 ≡ n = e in omega arith);
            fresh = λ n l. cond-false (length r.sessions + 1 == n) _ (unopened n) (ne_eqb (length r.sessions + 1) n (λ e. let f : length r.sessions + 1 ≡ n = e in omega (arith, l, many)));
            longer = omega (arith, many);
          };
      none = λ p. let c : MessageKind = message_kind_of p.message.channel in
          opens_none config r (Post p) _ _ (unchanged r.sessions) (none_opened c p.message) (λ place moment n l. sessionless_fresh config place moment c p.message n);
      serves = λ p s e.
          let c : MessageKind = message_kind_of p.message.channel in
          let below : s.number < 1 + length r.sessions = named_session (λ q. q.number < 1 + length r.sessions) r.sessions c p.message s e (numbered_below 1 r.sessions (numbered config ys)) in
          opens_none config r (Post p) _ _ (served_sessions c s.number _ r.sessions) (served_opens c p s (hold_of config p))
          (λ place moment n l. served_fresh config place moment c p s (hold_of config p) n (ne_eqb s.number n (λ same. omega (arith, same, below, l))));
      ticks = λ moment. opens_none config r (messages.Tick moment) _ _ (overdue_closed_sessions _ r.sessions) (λ n. refl) (λ place now n l. tick_fresh config place now _ n);
    }) x

-- ---- one more element of the list

pub opens_no_other : (config : Config) (ys : List Listed) (x : Listed) (n : ℕ) → n < 1 + length (registry config ys).sessions → opens_by n (entry_next config ys x).kind ≡ false
opens_no_other config ys x n l = (adds config ys x).new n l

registered_next : (config : Config) (ys : List Listed) (x : Listed) → (registry config (ys ++ x ∷ [])).sessions ≡ (verdict_of config (registry config ys) x).state.sessions
registered_next config ys x = ap (λ (t : Registry). t.sessions) (registry_next config ys x ∙ judge_is config (registry config ys) x)

pub numbers_next : (config : Config) (ys : List Listed) (x : Listed) → numbers (registry config (ys ++ x ∷ [])).sessions ≡ numbers (registry config ys).sessions ++ opened_numbers (entry_next config ys x).kind
numbers_next config ys x = ap numbers (registered_next config ys x) ∙ (adds config ys x).sessions

pub session_next : (config : Config) (number : ℕ) (ys : List Listed) (x : Listed) →
    session config number (entries_of (registry config (ys ++ x ∷ []))) ≡ step config (session config number (entries_of (registry config ys))) (entry_next config ys x)
session_next config number ys x = ap (session config number) (entries_after config ys (x ∷ [])) ∙ fold-append (step config) (unopened number) (entries_of (registry config ys)) (entry_next config ys x ∷ [])

pub all_fresh : (config : Config) (ys : List Listed) (n : ℕ) → length (registry config ys).sessions < n → session config n (entries_of (registry config ys)) ≡ unopened n
all_fresh config ys = each_registry config (λ r. (n : ℕ) → length r.sessions < n → session config n (entries_of r) ≡ unopened n) (λ n l. refl) (λ zs x fresh n l.
    let a = adds config zs x in
    let long : length (verdict_of config (registry config zs) x).state.sessions < n = omega (arith, l, ap length (sym (registered_next config zs x)), ap (λ (t : Registry). length t.sessions) (registry_next config zs x)) in
    ap (λ (t : Registry). session config n (entries_of t)) (sym (registry_next config zs x)) ∙ session_next config n zs x
    ∙ ap (λ (s : Session). step config s (entry_next config zs x)) (fresh n (omega (arith, long, a.longer))) ∙ a.fresh n long) ys

pub opens_above : (config : Config) (ys : List Listed) (x : Listed) (n : ℕ) (ack : Bool) → (entry_next config ys x).kind ≡ Opened n ack → length (registry config ys).sessions < n
opens_above config ys x n ack h =
    ⊎_elim (λ (l : n < 1 + length (registry config ys).sessions). absurd (let no : false ≡ true = sym (opens_no_other config ys x n l) ∙ ap (opens_by n) h ∙ eq-eqb n n refl in cc))
    (λ (l : 1 + length (registry config ys).sessions ≤ n). omega (arith, l)) (cases_lt n (1 + length (registry config ys).sessions))

-- ---- the element of an entry

front_of : (n : ℕ) (xs ys list : List Listed) → xs ++ ys ≡ list → length xs ≡ n → take n list ≡ xs
front_of n xs ys list whole many = ap (take n) (sym whole) ∙ ap (λ (k : ℕ). take k (xs ++ ys)) (sym many) ∙ take-append_seam xs ys

pub record Met (config : Config) (list : List Listed) (n : ℕ) (e : Entry) : Type 0 where
  pub element : Listed
  pub next : take (n + 1) list ≡ take n list ++ element ∷ []
  pub same : entry_next config (take n list) element ≡ e

pub met : (config : Config) (list : List Listed) (n : ℕ) (e : Entry) → slice_get (entries config list) n ≡ Some e → Met config list n e
met config list n e there =
    let w = entry_of_place config list n e there in
    let f = w.found in
    let front : take n list ≡ f.before = front_of n f.before (f.element ∷ f.behind) list f.whole f.many in
    record {
      element = f.element;
      next = front_of (n + 1) (f.before ++ f.element ∷ []) f.behind list (append_assoc f.before (f.element ∷ []) f.behind ∙ f.whole) (length_push f.before f.element ∙ ap (λ (k : ℕ). k + 1) f.many)
          ∙ ap (λ (ys : List Listed). ys ++ f.element ∷ []) (sym front);
      same = ap (λ (ys : List Listed). entry_next config ys f.element) front ∙ ap (λ (j : Judged). j.entry) f.found ∙ w.is;
    }
