-- A roster after a change under one number.
use Rattle.std.proofs.Common.{◌≡◌, ◌≢◌, ℕ, suc, ◌+◌, ◌-◌, ◌^◌, ◌<◌, ◌≤◌, Bool, true, false, List, [], ◌∷◌, ◌++◌, length, length-append, Option, Some, None, option_map, is_some, refl, sym, ap, subst, ◌∙◌, cond, arith, eq-eqb, ne_eqb, true≢false, inl, inr}
use Rattle.std.specs.Prelude.{◌==◌, ◌⊎◌, max, nat_eq}
use Rattle.std.proofs.lemmas.{Bool.Decides.eqb_tells, Grind.common_steps, Bool.cases_lt, List.length-map}
use Rattle.std.specs.{Map.lookup, List.list_any}
use Rattle.bx_roster.specs.Words.{Prepared, is_open, opened_by_each, room_of, IsRoster, later, live_in, IsNamed, known_of, client_and_ack_of, due_at, Record, session_of, sessions_to, vacant_count, Stands, IsKept}
use Rattle.bx_roster.specs.declared.edit.Edit.{Edit}
use Rattle.bx_entry.specs.Registry.{Registered, extended, closed}
use Rattle.bx_roster.proofs.{Live.live_in-extended, Tables.live_in-all}
use Rattle.bx_roster.proofs.Sessions.{IsTable-above, found, found-absent, found-to, client_and_ack_of-found, due_at-found, same_to, table-to, live-to, closed-to, length-closed, extended-to, closed-none, extended-none}

some-none : {A : Type 0} (a : A) → None ≡ Some a → ⊥
some-none a e = true≢false (sym (ap is_some e))

abbrev pub under : List (ℕ × Option Registered) → ℕ → Record
under es n = lookup (nat_eq n) es

pub empty-kept : (limit : ℕ) → limit < 2 ^ 64 → IsKept (under []) 0 limit 0 0
unfolding sessions_to
empty-kept limit small = grind (arith, common_steps, some-none)

pub empty-live : (at : ℕ → Record) → sessions_to at 0 ≡ []
unfolding sessions_to
empty-live at = refl

abbrev pub prepared : ℕ → ℕ → List Registered → Bool → Prepared
prepared limit opened live ready = record { members = record { limit = limit; opened = opened; live = live }; ready = ready }

pub made : (limit : ℕ) {m n : ℕ} {a b : List Registered} {r s : Bool} → m ≡ n → a ≡ b → r ≡ s →
    prepared limit m a r ≡ prepared limit n b s
made limit p q e = λ i. prepared limit (p i) (q i) (e i)

pub record Changed (at new : ℕ → Record) (n : ℕ) (w : Record) : Type 0 where
  pub here : new n ≡ w
  pub others : (q : ℕ) → q ≢ n → new q ≡ at q

pub changed-by : (at new : ℕ → Record) (n : ℕ) (w : Record) → ((q : ℕ) → new q ≡ cond (nat_eq n q) w (at q)) → Changed at new n w
changed-by at new n w u = record {
  here = u n ∙ ap (λ (b : Bool). cond b w (at n)) (eq-eqb n n refl);
  others = λ q ne. u q ∙ ap (λ (b : Bool). cond b w (at q)) (ne_eqb n q (λ e. ne (sym e)));
}

what-by : {at new : ℕ → Record} {n : ℕ} {w : Record} → Changed at new n w → (q : ℕ) → ((q == n) ≡ true) × (q ≡ n) ⊎ ((q == n) ≡ false) × (q ≢ n) → (q ≡ n) × (new q ≡ w) ⊎ (new q ≡ at q)
what-by {at} {new} {n} {w} c q (inl e) = inl (e.1, ap new e.1 ∙ c.here)
what-by {at} {new} {n} {w} c q (inr e) = inr (c.others q e.1)

what : {at new : ℕ → Record} {n : ℕ} {w : Record} → Changed at new n w → (q : ℕ) → (q ≡ n) × (new q ≡ w) ⊎ (new q ≡ at q)
what {at} {new} {n} {w} c q = what-by c q (eqb_tells q n)

module _ {at : ℕ → Record} {records limit count opened : ℕ} (k : IsKept at records limit count opened) where
  pub within : (n : ℕ) (r : Registered) → at n ≡ Some (Some r) → n ≤ opened
  within n r e = grind (arith, common_steps, k.next, k.beyond n)

  no_session : (n : ℕ) (o : Record) → at n ≡ o → opened < n → session_of o ≡ None
  no_session n o e lt = grind (arith, common_steps, within n)

  pub none-beyond : (n : ℕ) → opened < n → session_of (at n) ≡ None
  none-beyond n lt = no_session n (at n) refl lt

  pub closed-same : (n : ℕ) → session_of (at n) ≡ None → sessions_to at opened ≡ live_in (closed n (sessions_to at opened))
  closed-same n none = closed-none at k.stand n none opened

  pub extended-same : (n due : ℕ) → session_of (at n) ≡ None → sessions_to at opened ≡ live_in (extended n due (sessions_to at opened))
  extended-same n due none = extended-none at k.stand n none due opened

  -- ---- The session under a number

  module _ {A : Type 0} (pick : Registered → A) (n : ℕ) where
    found-by : (opened < n) ⊎ (n ≤ opened) → found pick n (sessions_to at opened) ≡ option_map pick (session_of (at n))
    found-by (inl lt) = found-absent pick n _ (IsTable-above 0 opened n _ lt (table-to at k.stand opened)) ∙ ap (option_map pick) (sym (none-beyond n lt))
    found-by (inr le) = found-to at k.stand pick n opened le

    pub found-kept : found pick n (sessions_to at opened) ≡ option_map pick (session_of (at n))
    found-kept = found-by (cases_lt opened n)

  pub known-kept : (n : ℕ) {o : Record} → o ≡ at n → option_map known_of (session_of o) ≡ client_and_ack_of n (sessions_to at opened)
  known-kept n e = ap (λ r. option_map known_of (session_of r)) e ∙ sym (client_and_ack_of-found n (sessions_to at opened) ∙ found-kept known_of n)

  pub due-kept : (n : ℕ) {o : Record} → o ≡ at n → option_map (λ r. r.due) (session_of o) ≡ due_at n (sessions_to at opened)
  due-kept n e = ap (λ r. option_map (λ s. s.due) (session_of r)) e ∙ sym (due_at-found n (sessions_to at opened) ∙ found-kept (λ r. r.due) n)

  -- ---- A vacant record is added for the next session

  module _ {new : ℕ → Record} {next : ℕ} (is : next ≡ opened + 1) (c : Changed at new next (Some None)) where
    pub prepared-same : sessions_to new opened ≡ sessions_to at opened
    prepared-same = same_to new at opened (λ q le. c.others q (λ e. omega (arith, le, e, is)))

    here : new (opened + 1) ≡ Some None
    here = ap new (sym is) ∙ c.here

    pub prepared-kept : {records' : ℕ} → records' ≡ count + 1 → IsKept new records' limit count opened
    prepared-kept {records'} size = record {
      fits = k.fits;
      small = k.small;
      counted = k.counted ∙ ap length (sym prepared-same);
      sized = size ∙ ap (λ o. count + vacant_count o) (sym here);
      next = ap session_of here;
      beyond = λ q lt. c.others q (λ e. omega (arith, lt, e, is)) ∙ k.beyond q lt;
      vacant = λ q e. grind (arith, common_steps, what c q, k.vacant q);
      stand = λ q r e. grind (arith, common_steps, what c q, k.stand q r);
    }

  -- ---- The vacant record is filled

  module _ {new : ℕ → Record} (s : Registered) {m : ℕ} (number : s.number ≡ m) (is : m ≡ opened + 1) (c : Changed at new m (Some (Some s))) where
    live-suc : m ≡ suc opened → sessions_to new opened ≡ sessions_to at opened → sessions_to new m ≡ sessions_to at opened ++ s ∷ []
    unfolding sessions_to
    live-suc e same = grind (arith, common_steps, here, same)

    pub opened-live : sessions_to new m ≡ sessions_to at opened ++ s ∷ []
    opened-live = live-suc (omega (arith, is)) (same_to new at opened (λ q le. c.others q (λ e. omega (arith, le, e, is))))

    pub opened-next : new (m + 1) ≡ None
    opened-next = c.others (m + 1) (λ e. omega (arith, e)) ∙ k.beyond (m + 1) (omega (arith, is))

    pub opened-kept : {records' : ℕ} → records' ≡ records → is_some (at (opened + 1)) ≡ true → count < limit → IsNamed s → s.live ≡ true → IsKept new records' limit (count + 1) m
    opened-kept {records'} size ready room named lives = record {
      fits = omega (arith, room);
      small = k.small;
      counted = omega (arith, k.counted, length-append (sessions_to at opened) (s ∷ []), ap length opened-live);
      sized = size ∙ k.sized ∙ ap (λ (b : Bool). count + cond b 1 0) ready ∙ plus ∙ ap (λ o. count + 1 + vacant_count o) (sym opened-next);
      next = ap session_of opened-next;
      beyond = λ q lt. c.others q (λ e. omega (arith, lt, e)) ∙ k.beyond q (omega (arith, lt, is));
      vacant = λ q e. grind (arith, common_steps, what c q, k.vacant q);
      stand = λ q r e. grind (arith, common_steps, what c q, k.stand q r, own);
    }
      where
        plus : count + 1 ≡ count + 1 + 0
        plus = omega arith

        own : Stands m s
        own = record { number = number; above = omega (arith, is); named = named; live = lives }

  -- ---- A session is closed

  module _ {new : ℕ → Record} (n : ℕ) (c : Changed at new n None) where
    pub closed-live : sessions_to new opened ≡ live_in (closed n (sessions_to at opened))
    closed-live = closed-to n at new k.stand c.here c.others opened

    pub closed-ready : n ≤ opened → new (opened + 1) ≡ at (opened + 1)
    closed-ready le = c.others (opened + 1) (λ e. omega (arith, e, le))

    pub closed-kept : (r : Registered) → at n ≡ Some (Some r) → {records' : ℕ} → records' + 1 ≡ records → IsKept new records' limit (count - 1) opened
    closed-kept r there {records'} size =
        let fewer = length-closed n at new k.stand c.here c.others r there opened (within n r there) in
        let same = closed-ready (within n r there) in record {
          fits = omega (arith, k.fits);
          small = k.small;
          counted = omega (arith, k.counted, fewer);
          sized = omega (arith, size, k.sized, k.counted, fewer, ap vacant_count same);
          next = ap session_of same ∙ k.next;
          beyond = λ q lt. c.others q (λ e. omega (arith, lt, e, within n r there)) ∙ k.beyond q lt;
          vacant = λ q e. grind (arith, common_steps, what c q, k.vacant q);
          stand = λ q x e. grind (arith, common_steps, what c q, k.stand q x);
        }

  -- ---- A due moment is extended

  module _ {new : ℕ → Record} (n due : ℕ) (x : Registered) (there : at n ≡ Some (Some x)) (c : Changed at new n (Some (Some (record x { due = max x.due due })))) where
    same-live : sessions_to new opened ≡ extended n due (sessions_to at opened)
    same-live = extended-to n due at new k.stand x there c.here c.others opened

    pub extended-live : sessions_to new opened ≡ live_in (extended n due (sessions_to at opened))
    extended-live = same-live ∙ ap (extended n due) (sym (live_in-all _ (live-to at k.stand opened))) ∙ sym (live_in-extended n due (sessions_to at opened))

    pub extended-ready : new (opened + 1) ≡ at (opened + 1)
    extended-ready = c.others (opened + 1) (λ e. omega (arith, e, within n x there))

    pub extended-kept : IsKept new records limit count opened
    extended-kept = record {
      fits = k.fits;
      small = k.small;
      counted = k.counted ∙ sym (length-map (sessions_to at opened) _) ∙ ap length (sym same-live);
      sized = k.sized ∙ ap (λ o. count + vacant_count o) (sym extended-ready);
      next = ap session_of extended-ready ∙ k.next;
      beyond = λ q lt. c.others q (λ e. omega (arith, lt, e, within n x there)) ∙ k.beyond q lt;
      vacant = λ q e. grind (arith, common_steps, what c q, k.vacant q);
      stand = λ q r e. grind (arith, common_steps, what c q, k.stand q r, own);
    }
      where
        moved : Registered
        moved = record x { due = max x.due due }

        own : Stands n moved
        own = let s = k.stand n x there in record { number = s.number; above = s.above; named = s.named; live = s.live }

  module _ {new : ℕ → Record} (n due : ℕ) where
    vacant-same : at n ≡ Some None → Changed at new n (Some None) → new ≡ at
    vacant-same e c = λ i q. same q i
      where
        same : (q : ℕ) → new q ≡ at q
        same q = grind (arith, common_steps, c.here, c.others q, e)

    pub moved-kept : (o : Option Registered) → at n ≡ Some o → Changed at new n (Some (option_map (later due) o)) → {records' : ℕ} → records' ≡ records → IsKept new records' limit count opened
    moved-kept None e c {records'} size = subst (λ (f : ℕ → Record). IsKept f records' limit count opened) (sym (vacant-same e c)) (subst (λ (m : ℕ). IsKept at m limit count opened) (sym size) k)
    moved-kept (Some x) e c size = subst (λ (m : ℕ). IsKept new m limit count opened) (sym size) (extended-kept n due x e c)

    pub moved-live : (o : Option Registered) → at n ≡ Some o → Changed at new n (Some (option_map (later due) o)) → sessions_to new opened ≡ live_in (extended n due (sessions_to at opened))
    moved-live o h1 h2 = grind (arith, common_steps, vacant-same, extended-same, extended-live)

    pub moved-ready : (o : Option Registered) → at n ≡ Some o → Changed at new n (Some (option_map (later due) o)) → new (opened + 1) ≡ at (opened + 1)
    moved-ready o h1 h2 = grind (arith, common_steps, vacant-same, extended-ready)

  -- ---- The record under a number

  pub prepared-size : {records' : ℕ} → records' ≡ records + cond (is_some (at (opened + 1))) 0 1 → records' ≡ count + 1
  prepared-size {records'} size = grind (arith, common_steps, k.sized)

  pub occupied : (n : ℕ) (o : Record) → at n ≡ o → is_some o ≡ true → n ≤ opened → (r : Registered) × (at n ≡ Some (Some r))
  occupied n o h1 h2 h3 = grind (arith, common_steps)

-- ---- Edits

pub ready-room : (b : Bool) → 1 ≤ room_of b → b ≡ true
ready-room b le = grind (arith, common_steps)

pub kept-roster : {at : ℕ → Record} {records limit count opened : ℕ} → IsKept at records limit count opened →
    IsRoster (record { limit = limit; opened = opened; live = sessions_to at opened })
kept-roster {at} {records} {limit} {count} {opened} k = record { table = table-to at k.stand opened; all = live-to at k.stand opened }

pub none-open : (es : List Edit) → list_any is_open es ≡ false → opened_by_each es ≡ 0
none-open [] none = refl
none-open (e ∷ es) none = grind (arith, common_steps, none-open es)
