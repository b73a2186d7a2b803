-- The registry and the entries agree on which sessions are live.
use Rattle.std.proofs.Common.{◌≡◌, ℕ, ◌+◌, ◌<◌, ◌≤◌, max, Bool, true, false, cond, not, ◌&&◌, ◌||◌, Option, Some, None, List, [], ◌∷◌, ◌++◌, length, map, filter, ◌==◌, refl, sym, ap, ◌∙◌, subst, arith, eq-eqb, ne_eqb}
use Rattle.std.proofs.lemmas.{Bool.cond_both, Bool.cond-true, Bool.cond-false, List.map-append, List.length-map, List.length_push, Grind.common_steps, List.Folds.list_any-append}
use Rattle.std.specs.List.{list_any}
use Rattle.bx_advice.specs.declared.config.Config.{Config}
use Rattle.bx_message.specs.declared.{message_kind.MessageKind.MessageKind, message.Message.Message}
use Rattle.bx_entry.specs.Words.{Listed, Post, Posted, due_of, found_at, hold_of, is_ack, is_overdue, kind_for, newcomer, opened, overdue, refused, registry, served, sessionless, sessionless_kind, state_of, tick_verdict, Judged, Registered, Registry, Verdict, entries_of}
use Rattle.bx_message.specs.MessageKinds.{message_kind_of}
use Rattle.bx_entry.specs.Listing as messages
use Rattle.bx_entry.specs.declared.{entry.Entry.Entry, entry.EntryKind.EntryKind, entry.EntryKind.TheVariants.Opened, entry.EntryKind.TheVariants.Refused}
use Rattle.bx_theory.specs.Readings.{moment_of, opens_by, closes, closes_by, since_opening, unclosed, EachSession, SameLive}
use Rattle.bx_theory.proofs.Verdicts.{each_judge, each_registry, next_noted}
use Rattle.bx_theory.proofs.Dues.{NumberedFrom, Mapped, each_session_all, each_session_both, each_session_map, each_session_push, each_session_through, left, moved, numbered, numbered_below, served_sessions, shut, overdue_closed_sessions, unchanged}

reading : ℕ → List Entry → Bool
reading number es = unclosed number (since_opening number es)

-- ---- One more entry

since_push : (number : ℕ) (es : List Entry) (e : Entry) → since_opening number (es ++ e ∷ []) ≡ elim (since_opening number es) [ None ↦ cond (opens_by number e.kind) (Some []) None | Some rest ↦ Some (rest ++ e ∷ []) ]
since_push number [] e = refl
since_push number (x ∷ es) e =
    elim (opens_by number x.kind) as (λ b. cond b (Some (es ++ e ∷ [])) (since_opening number (es ++ e ∷ [])) ≡ elim (cond b (Some es) (since_opening number es)) [ None ↦ cond (opens_by number e.kind) (Some []) None | Some rest ↦ Some (rest ++ e ∷ []) ])
    [ true ↦ refl | false ↦ since_push number es e ]

not_or : (a b : Bool) → not (a || (b || false)) ≡ (not a && not b)
not_or true b = refl
not_or false true = refl
not_or false false = refl

and_true : (b : Bool) → (b && true) ≡ b
and_true true = refl
and_true false = refl

and_false : (b : Bool) → false ≡ (b && false)
and_false true = refl
and_false false = refl

reading_push : (number : ℕ) (es : List Entry) (e : Entry) → opens_by number e.kind ≡ false → reading number (es ++ e ∷ []) ≡ (reading number es && not (closes number e))
unfolding reading
reading_push number es e h = ap (unclosed number) (since_push number es e)
    ∙ (elim (since_opening number es) as (λ o. unclosed number (elim o [ None ↦ cond (opens_by number e.kind) (Some []) None | Some rest ↦ Some (rest ++ e ∷ []) ]) ≡ (unclosed number o && not (closes number e)))
    [ None ↦ ap (unclosed number) (cond-false (opens_by number e.kind) (Some []) None h) | Some rest ↦ ap not (list_any-append (closes number) rest (e ∷ [])) ∙ not_or (list_any (closes number) rest) (closes number e) ])

reading_same : (number : ℕ) (es : List Entry) (e : Entry) → opens_by number e.kind ≡ false → closes number e ≡ false → reading number (es ++ e ∷ []) ≡ reading number es
reading_same number es e h c = reading_push number es e h ∙ ap (λ b. reading number es && not b) c ∙ and_true (reading number es)

none_push : (number : ℕ) (es : List Entry) (e : Entry) → since_opening number es ≡ None → opens_by number e.kind ≡ false → since_opening number (es ++ e ∷ []) ≡ None
none_push number es e n h = since_push number es e ∙ ap (λ (o : Option (List Entry)). elim o [ None ↦ cond (opens_by number e.kind) (Some []) None | Some rest ↦ Some (rest ++ e ∷ []) ]) n ∙ cond-false (opens_by number e.kind) (Some []) None h

-- ---- The invariant

record Agrees (r : Registry) : Type 0 where
  later : (n : ℕ) → length r.sessions < n → since_opening n (entries_of r) ≡ None
  live : EachSession (λ s. s.live ≡ reading s.number (entries_of r)) r.sessions

pub entries_push : (r t : Registry) (j : Judged) → t.judged ≡ r.judged ++ j ∷ [] → entries_of t ≡ entries_of r ++ j.entry ∷ []
entries_push r t j e = ap (map (λ (k : Judged). k.entry)) e ∙ map-append (λ (k : Judged). k.entry) r.judged (j ∷ [])

agrees_next : (r : Registry) (x : Listed) (v : Verdict) (change : Registered → Registered) → Mapped change r.sessions v.state.sessions → ((n : ℕ) → opens_by n v.kind ≡ false) →
    EachSession (λ s. (change s).live ≡ (s.live && not (closes_by s.number v.kind))) r.sessions → Agrees r → Agrees (next_noted r x v)
agrees_next r x v change m opens lives a =
    let t : Registry = next_noted r x v in
    let e : Entry = (found_at (length r.judged) (max r.clock (moment_of x)) v).entry in
    let more : entries_of t ≡ entries_of r ++ e ∷ [] = entries_push r t _ refl in
    record {
      later = λ n l. let k : length r.sessions < n = omega (arith, l, ap length m.is, length-map r.sessions change) in ap (since_opening n) more ∙ none_push n (entries_of r) e (a.later n k) (opens n);
      live = subst (EachSession (λ s. s.live ≡ reading s.number (entries_of t))) (sym m.is)
          (each_session_through (λ s. (change s).live ≡ reading (change s).number (entries_of t)) (λ s. s.live ≡ reading s.number (entries_of t)) change r.sessions (λ s h. h)
          (each_session_both (λ s. s.live ≡ reading s.number (entries_of r)) (λ s. (change s).live ≡ (s.live && not (closes_by s.number v.kind))) (λ s. (change s).live ≡ reading (change s).number (entries_of t)) r.sessions
          (λ s h c. c ∙ ap (λ b. b && not (closes_by s.number v.kind)) h ∙ sym (reading_push s.number (entries_of r) e (opens s.number)) ∙ ap (reading s.number) (sym more) ∙ ap (λ (n : ℕ). reading n (entries_of t)) (sym (m.same s).number)) a.live lives));
    }

all_stay : (change : Registered → Registered) (k : EntryKind) (rs : List Registered) → ((s : Registered) → (change s).live ≡ s.live) → ((n : ℕ) → closes_by n k ≡ false) → EachSession (λ s. (change s).live ≡ (s.live && not (closes_by s.number k))) rs
all_stay change k rs h c = each_session_all (λ s. (change s).live ≡ (s.live && not (closes_by s.number k))) rs (λ s. h s ∙ sym (ap (λ b. s.live && not b) (c s.number) ∙ and_true s.live))

shut_live : (test : Registered → Bool) (s : Registered) → (shut test s).live ≡ (s.live && not (test s))
shut_live test s = grind (arith, common_steps)

-- ---- Ticks

none_overdue : (now n k : ℕ) (rs : List Registered) → n < k → NumberedFrom k rs → list_any (λ m. m == n) (overdue now rs) ≡ false
none_overdue now n k [] l d = refl
none_overdue now n k (r ∷ rs) l d =
    let rest : list_any (λ m. m == n) (overdue now rs) ≡ false = none_overdue now n (k + 1) rs (omega arith) d.1 in
    cond_both (is_overdue now r) (r ∷ filter (is_overdue now) rs) (filter (is_overdue now) rs) (λ (qs : List Registered). list_any (λ m. m == n) (map (λ (q : Registered). q.number) qs) ≡ false)
    (λ h. ap (λ b. b || list_any (λ m. m == n) (overdue now rs)) (ne_eqb r.number n (λ e. omega (arith, d.0, e))) ∙ rest) (λ h. rest)

above : (k : ℕ) (rs : List Registered) → NumberedFrom k rs → EachSession (λ s. k ≤ s.number) rs
above k [] d = tt
above k (r ∷ rs) d = (omega (arith, d.0), each_session_map (λ s. k + 1 ≤ s.number) (λ s. k ≤ s.number) rs (λ s h. omega arith) (above (k + 1) rs d.1))

named_overdue : (now k : ℕ) (rs : List Registered) → NumberedFrom k rs → EachSession (λ s. list_any (λ m. m == s.number) (overdue now rs) ≡ is_overdue now s) rs
named_overdue now k [] d = tt
named_overdue now k (r ∷ rs) d = (
  let o = none_overdue now r.number (k + 1) rs (omega (arith, d.0)) d.1 in
      (elim (is_overdue now r) as (λ b. list_any (λ m. m == r.number) (map (λ (q : Registered). q.number) (cond b (r ∷ filter (is_overdue now) rs) (filter (is_overdue now) rs))) ≡ b)
      [ true ↦ ap (λ b. b || list_any (λ m. m == r.number) (overdue now rs)) (eq-eqb r.number r.number refl) | false ↦ o ]),
  each_session_both (λ s. k + 1 ≤ s.number) (λ s. list_any (λ m. m == s.number) (overdue now rs) ≡ is_overdue now s) (λ s. list_any (λ m. m == s.number) (overdue now (r ∷ rs)) ≡ is_overdue now s) rs
      later (above (k + 1) rs d.1) (named_overdue now (k + 1) rs d.1),
)
  where
    later : (s : Registered) → k + 1 ≤ s.number → list_any (λ m. m == s.number) (overdue now rs) ≡ is_overdue now s → list_any (λ m. m == s.number) (overdue now (r ∷ rs)) ≡ is_overdue now s
    later s l h = cond_both (is_overdue now r) (r ∷ filter (is_overdue now) rs) (filter (is_overdue now) rs) (λ (qs : List Registered). list_any (λ m. m == s.number) (map (λ (q : Registered). q.number) qs) ≡ is_overdue now s)
        (λ g. ap (λ b. b || list_any (λ m. m == s.number) (overdue now rs)) (ne_eqb r.number s.number (λ e. omega (arith, d.0, e))) ∙ h) (λ g. h)

-- ---- New sessions

fresh : (n : ℕ) (es : List Entry) (e : Entry) (fs : List Entry) → since_opening n es ≡ None → opens_by n e.kind ≡ true → fs ≡ es ++ e ∷ [] → true ≡ reading n fs
unfolding reading
fresh n es e fs none h more = sym (ap (λ (xs : List Entry). unclosed n (since_opening n xs)) more ∙ ap (unclosed n) (since_push n es e ∙ ap (λ (o : Option (List Entry)). elim o [ None ↦ cond (opens_by n e.kind) (Some []) None | Some rest ↦ Some (rest ++ e ∷ []) ]) none ∙ cond-true (opens_by n e.kind) (Some []) None h))

opened_agrees : (config : Config) (r : Registry) (p : Posted) → NumberedFrom 1 r.sessions → Agrees r → Agrees (next_noted r (Post p) (opened config (state_of r) (max r.clock p.moment) p (length r.sessions + 1)))
opened_agrees config r p numbers a =
    let moment : ℕ = max r.clock p.moment in
    let number : ℕ = length r.sessions + 1 in
    let t : Registry = next_noted r (Post p) (opened config (state_of r) moment p number) in
    let new : Registered = newcomer config moment p number in
    let e : Entry = record { place = length r.judged; moment = moment; kind = Opened number (is_ack p.message.ack); rides = None } in
    let more : entries_of t ≡ entries_of r ++ e ∷ [] = entries_push r t _ refl in
    let old : (s : Registered) → s.number < 1 + length r.sessions → s.live ≡ reading s.number (entries_of r) → s.live ≡ reading s.number (entries_of t) =
    λ s l h. h ∙ sym (reading_same s.number (entries_of r) e (ne_eqb number s.number (λ g. let f : length r.sessions + 1 ≡ s.number = g in omega arith)) refl) ∙ ap (reading s.number) (sym more) in
    record {
      later = λ n l. let k : length r.sessions + 1 < n = omega (arith, l, length_push r.sessions new) in
          ap (since_opening n) more ∙ none_push n (entries_of r) e (a.later n (omega arith)) (ne_eqb number n (λ g. let f : length r.sessions + 1 ≡ n = g in omega arith));
      live = each_session_push (λ s. s.live ≡ reading s.number (entries_of t)) r.sessions new
          (each_session_both (λ s. s.number < 1 + length r.sessions) (λ s. s.live ≡ reading s.number (entries_of r)) (λ s. s.live ≡ reading s.number (entries_of t)) r.sessions old (numbered_below 1 r.sessions numbers) a.live)
          (fresh (length r.sessions + 1) (entries_of r) e (entries_of t) (a.later (length r.sessions + 1) (omega arith)) (eq-eqb (length r.sessions + 1) (length r.sessions + 1) refl) more);
    }

-- ---- Messages of a session

served_live : (c : MessageKind) (p : Posted) (s : Registered) (hold due : ℕ) (q : Registered) → (left c s.number (moved s.number due q)).live ≡ (q.live && not (closes_by q.number (kind_for c p s hold)))
served_live c p s hold due q = grind (arith, common_steps)

pub served_opens : (c : MessageKind) (p : Posted) (s : Registered) (hold n : ℕ) → opens_by n (kind_for c p s hold) ≡ false
served_opens c p s hold n = grind (arith, common_steps)

abbrev pub found_of : Config → Registry → ℕ → Posted → MessageKind → Registered → ℕ → Judged
found_of config r moment p c s hold = found_at (length r.judged) moment (served config (state_of r) moment p c s hold)

-- ---- Sessionless messages

pub none_opened : (c : MessageKind) (m : Message) (n : ℕ) → opens_by n (sessionless_kind c m) ≡ false
none_opened c m n = grind (arith, common_steps)

none_closed : (c : MessageKind) (m : Message) (n : ℕ) → closes_by n (sessionless_kind c m) ≡ false
none_closed c m n = grind (arith, common_steps)

run_agrees : (config : Config) (list : List Listed) → Agrees (registry config list)
run_agrees config list =
    each_registry config Agrees (record { later = λ n l. refl; live = tt }) (λ ys x a.
    let r : Registry = registry config ys in
    each_judge config r Agrees (record {
      refuses = λ p sender error. agrees_next r (Post p) (refused config (state_of r) p error sender) _ (unchanged r.sessions) (λ n. refl) (all_stay (λ s. s) Refused r.sessions (λ s. refl) (λ n. refl)) a;
      opens = λ p. opened_agrees config r p (numbered config ys) a;
      none = λ p.
          let c : MessageKind = message_kind_of p.message.channel in
          agrees_next r (Post p) (sessionless config (state_of r) p c) _ (unchanged r.sessions) (none_opened c p.message) (all_stay (λ s. s) (sessionless_kind c p.message) r.sessions (λ s. refl) (none_closed c p.message)) a;
      serves = λ p s e.
          let c : MessageKind = message_kind_of p.message.channel in
          let due : ℕ = due_of config (max r.clock p.moment) (hold_of config p) in
          agrees_next r (Post p) (served config (state_of r) (max r.clock p.moment) p c s (hold_of config p)) _ (served_sessions c s.number due r.sessions) (served_opens c p s (hold_of config p))
          (each_session_all _ r.sessions (served_live c p s (hold_of config p) due)) a;
      ticks = λ moment.
          let now : ℕ = max r.clock moment in
          agrees_next r (messages.Tick moment) (tick_verdict (state_of r) now) _ (overdue_closed_sessions now r.sessions) (λ n. refl)
          (each_session_map (λ s. list_any (λ m. m == s.number) (overdue now r.sessions) ≡ is_overdue now s) (λ s. (shut (is_overdue now) s).live ≡ (s.live && not (list_any (λ m. m == s.number) (overdue now r.sessions)))) r.sessions
          (λ s h. shut_live (is_overdue now) s ∙ ap (λ b. s.live && not b) (sym h)) (named_overdue now 1 r.sessions (numbered config ys))) a;
    }) x) list

pub opened_later : (config : Config) (list : List Listed) (n : ℕ) → length (registry config list).sessions < n → since_opening n (entries_of (registry config list)) ≡ None
opened_later config list n l = (run_agrees config list).later n l

pub registry_and_entries_agree_on_live : SameLive
unfolding reading
registry_and_entries_agree_on_live config list = (run_agrees config list).live
