-- The sessions after the edits of a request.
use Rattle.std.proofs.Common.{◌≡◌, ℕ, ◌+◌, ◌-◌, Bool, false, List, [], ◌∷◌, ◌++◌, length, length-append, map, fold, refl, sym, ap, subst, ◌∙◌, cond, arith}
use Rattle.std.specs.Prelude.{◌==◌, max, Option, Some, None, IsSome, if◌then◌else◌}
use Rattle.std.proofs.lemmas.{Grind.common_steps, List.length-map, List.take_all, List.Sums.fold-append}
use Rattle.std.specs.Option.{option_or}
use Rattle.bx_entry.specs.Registry.{Registered, extended, closed}
use Rattle.bx_roster.proofs.{Sessions.AllLive-push, Live.live_in-extended}
use Rattle.bx_roster.specs.Words.{Members, live_in, IsTable, AllLive, known_of, client_and_ack_of, edited, CanEdit, CanEditEach, IsNext}
use Rattle.bx_roster.specs.declared.edit.Edit.{Edit}
use Rattle.bx_roster.specs.declared.edit.Edit.TheVariants.{Open, Extend, Close}
use Rattle.bx_roster.proofs.Tables.{IsTable-filter, IsTable-map, IsTable-push, IsTable-absent, map-absent, live_in-all, AllLive-live, changed-number, changed-client, closing-number, closing-client}
use Rattle.bx_registry.specs.SessionOverlays.{IsOverlay, known_after}

-- ---- Each edit

pub can-more : (ms : Members) (es : List Edit) (e : Edit) → CanEditEach ms es → CanEdit (fold edited ms es) e → CanEditEach ms (es ++ e ∷ [])
can-more ms [] e can one = (one, tt)
can-more ms (x ∷ es) e can one = (can.0, can-more (edited ms x) es e can.1 one)

extend-all : (n due : ℕ) (rs : List Registered) → AllLive rs → live_in (extended n due rs) ≡ extended n due rs
extend-all n due rs all = live_in-extended n due rs ∙ ap (extended n due) (live_in-all rs all)

pub closed-count : (n low high : ℕ) (rs : List Registered) → IsTable low high rs → AllLive rs → IsSome (client_and_ack_of n rs) → length (live_in (closed n rs)) + 1 ≡ length rs
closed-count n low high [] t all some = cc
closed-count n low high (r ∷ rs) t all some =
    grind (arith, common_steps, closed-count n r.number high rs t.2 all.1, map-absent n (λ s. record s { live = false }) rs, IsTable-absent r.number high n rs, live_in-all rs all.1)

pub opened-overlay : (base : Members) (es : List Edit) (s : Registered) {count opened : ℕ} → IsOverlay base es count opened → IsNext (fold edited base es) s → IsOverlay base (es ++ Open s ∷ []) (count + 1) s.number
opened-overlay base es s {count} {opened} d next =
    let ms = fold edited base es in
    let now : fold edited base (es ++ Open s ∷ []) ≡ edited ms (Open s) = fold-append edited base es (Open s ∷ []) in record {
      limit = d.limit;
      small = next.small;
      start = d.start;
      can = can-more base es (Open s) d.can next;
      counted = rw now (omega (arith, d.counted, length-append ms.live (s ∷ [])));
      numbered = rw now refl;
      table = rw now (IsTable-push 0 ms.opened ms.live s (omega (arith, next.number)) next.named d.table);
      all = rw now (AllLive-push ms.live s d.all next.live);
    }

edited-overlay : (base : Members) (es : List Edit) (e : Edit) (rs : List Registered) {count opened k : ℕ} → IsOverlay base es count opened → CanEdit (fold edited base es) e →
    edited (fold edited base es) e ≡ record (fold edited base es) { live = live_in rs } → IsTable 0 (fold edited base es).opened rs → k ≡ length (live_in rs) → IsOverlay base (es ++ e ∷ []) k opened
edited-overlay base es e rs {count} {opened} {k} d can same table many =
    let now : fold edited base (es ++ e ∷ []) ≡ record (fold edited base es) { live = live_in rs } = fold-append edited base es (e ∷ []) ∙ same in record {
      limit = d.limit;
      small = d.small;
      start = d.start;
      can = can-more base es e d.can can;
      counted = rw now many;
      numbered = rw now d.numbered;
      table = rw now (IsTable-filter 0 (fold edited base es).opened _ rs table);
      all = rw now (AllLive-live rs);
    }

pub extended-overlay : (base : Members) (es : List Edit) (n due : ℕ) {count opened : ℕ} → IsOverlay base es count opened → IsOverlay base (es ++ Extend n due ∷ []) count opened
extended-overlay base es n due {count} {opened} d =
    let ms = fold edited base es in
    edited-overlay base es (Extend n due) (extended n due ms.live) d tt refl (IsTable-map 0 ms.opened _ ms.live (λ r. changed-number due r _) (λ r. changed-client due r _) d.table)
    (d.counted ∙ sym (ap length (extend-all n due ms.live d.all) ∙ length-map ms.live _))

pub closed-overlay : (base : Members) (es : List Edit) (n : ℕ) {count opened : ℕ} → IsOverlay base es count opened → IsSome (client_and_ack_of n (fold edited base es).live) → IsOverlay base (es ++ Close n ∷ []) (count - 1) opened
closed-overlay base es n {count} {opened} d some =
    let ms = fold edited base es in
    edited-overlay base es (Close n) (closed n ms.live) d some refl (IsTable-map 0 ms.opened _ ms.live (λ r. closing-number r _) (λ r. closing-client r _) d.table)
    (omega (arith, d.counted, closed-count n 0 ms.opened ms.live d.table d.all some))

pub pushed-open : (base : Members) (es new : List Edit) (e : Edit) (s : Registered) (k n : ℕ) {count opened : ℕ} → IsOverlay base es count opened → new ≡ es ++ e ∷ [] → e ≡ Open s →
    CanEdit (fold edited base es) e → k ≡ count + 1 → n ≡ s.number → IsOverlay base new k n
pushed-open base es new e s k n {count} {opened} d is what can f g =
    let P : Edit → Type 0 = λ x. CanEdit (fold edited base es) x in
    rw (is, what, f, g) (opened-overlay base es s d (subst P what can))

pub pushed-extend : (base : Members) (es new : List Edit) (e : Edit) (m due k n : ℕ) {count opened : ℕ} → IsOverlay base es count opened → new ≡ es ++ e ∷ [] → e ≡ Extend m due →
    k ≡ count → n ≡ opened → IsOverlay base new k n
pushed-extend base es new e m due k n {count} {opened} d is what f g = rw (is, what, f, g) (extended-overlay base es m due d)

pub pushed-close : (base : Members) (es new : List Edit) (e : Edit) (m k n : ℕ) {count opened : ℕ} → IsOverlay base es count opened → new ≡ es ++ e ∷ [] → e ≡ Close m →
    CanEdit (fold edited base es) e → k ≡ count - 1 → n ≡ opened → IsOverlay base new k n
pushed-close base es new e m k n {count} {opened} d is what can f g =
    let P : Edit → Type 0 = λ x. CanEdit (fold edited base es) x in
    rw (is, what, f, g) (closed-overlay base es m d (subst P what can))

limit-edited : (ms : Members) (e : Edit) → (edited ms e).limit ≡ ms.limit
limit-edited ms e = grind (arith, common_steps)

pub limit-same : (ms : Members) (es : List Edit) → (fold edited ms es).limit ≡ ms.limit
limit-same ms [] = refl
limit-same ms (e ∷ es) = limit-same (edited ms e) es ∙ limit-edited ms e

-- ---- The data of one session

client_and_ack_of-push : (n : ℕ) (rs : List Registered) (s : Registered) → client_and_ack_of n (rs ++ s ∷ []) ≡ option_or (client_and_ack_of n rs) (if s.number == n then Some (known_of s) else None)
client_and_ack_of-push n [] s = refl
client_and_ack_of-push n (r ∷ rs) s = grind (arith, common_steps, client_and_ack_of-push n rs s)

client_and_ack_of-map : (n : ℕ) (g : Registered → Registered) (rs : List Registered) → ((r : Registered) → (g r).number ≡ r.number) → ((r : Registered) → known_of (g r) ≡ known_of r) → client_and_ack_of n (map g rs) ≡ client_and_ack_of n rs
client_and_ack_of-map n g [] number known = refl
client_and_ack_of-map n g (r ∷ rs) number known = rw (number r, known r) (ap (λ (o : Option (List ℕ × Bool)). cond (r.number == n) (Some (known_of r)) o) (client_and_ack_of-map n g rs number known))

changed-known : (due : ℕ) (r : Registered) (b : Bool) → known_of (if b then record r { due = max r.due due } else r) ≡ known_of r
changed-known due r b = grind (arith, common_steps)

none-either : (b : Bool) (o : Option (List ℕ × Bool)) → o ≡ (if b then o else o)
none-either b o = grind (arith, common_steps)

client_and_ack_of-closed : (n m : ℕ) (rs : List Registered) → AllLive rs → client_and_ack_of n (live_in (closed m rs)) ≡ (if m == n then None else client_and_ack_of n rs)
client_and_ack_of-closed n m [] all = none-either (m == n) None
client_and_ack_of-closed n m (r ∷ rs) all = grind (arith, common_steps, client_and_ack_of-closed n m rs all.1)

client_and_ack_of-edited : (n : ℕ) (ms : Members) (e : Edit) → AllLive ms.live → client_and_ack_of n (edited ms e).live ≡ known_after n (client_and_ack_of n ms.live) e
client_and_ack_of-edited n ms e h1 = grind (arith, common_steps, client_and_ack_of-push, extend-all, client_and_ack_of-map, changed-number, changed-known, client_and_ack_of-closed)

AllLive-edited : (ms : Members) (e : Edit) → AllLive ms.live → CanEdit ms e → AllLive (edited ms e).live
AllLive-edited ms (Open s) all can = AllLive-push ms.live s all can.live
AllLive-edited ms (Extend m due) all can = AllLive-live (extended m due ms.live)
AllLive-edited ms (Close m) all can = AllLive-live (closed m ms.live)

pub client_and_ack_of-all : (n : ℕ) (ms : Members) (es : List Edit) → AllLive ms.live → CanEditEach ms es → client_and_ack_of n (fold edited ms es).live ≡ fold (known_after n) (client_and_ack_of n ms.live) es
client_and_ack_of-all n ms [] all can = refl
client_and_ack_of-all n ms (e ∷ es) all can =
    client_and_ack_of-all n (edited ms e) es (AllLive-edited ms e all can.0) can.1 ∙ ap (λ (o : Option (List ℕ × Bool)). fold (known_after n) o es) (client_and_ack_of-edited n ms e all)

-- ---- Lemmas for the functions of an overlay

pub ruleset counting = (live_in-all, common_steps)

pub ruleset knowing = (client_and_ack_of-all, take_all, common_steps)
