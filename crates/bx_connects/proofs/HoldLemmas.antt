-- Holds and filed answers of a place.
use Rattle.std.proofs.Common.{◌≡◌, ◌<◌, ◌≤◌, ℕ, nat_eq, Bool, true, false, cond, Option, Some, None, option_map, List, [], ◌∷◌, ◌++◌, refl, sym, ap, ◌∙◌, true≢false}
use Rattle.std.proofs.Math.Dec.{leb}
use Rattle.std.proofs.lemmas.{Bool.Decides.leb_tells, Bool.eqb-true, Bool.eq-eqb, Bool.and_parts}
use Rattle.std.specs.{Map.lookup}
use Rattle.bx_connects.specs.declared.{connects.FiledAnswer.FiledAnswer, held.HeldConnect.HeldConnect}
use Rattle.bx_connects.specs.declared.connects.ConnectState.TheVariants.{Filed}
use Rattle.bx_connects.specs.Words.{IsHeldUntil, KnownConnects, filing_at, hold_at, is_both, state_by, unwatched_hold, ends_at, is_held_until}
use Rattle.std.proofs.lemmas.Grind.{common_steps}
use Rattle.std.proofs.Common.{arith}

pub is_itself : (connects : KnownConnects) (place session deadline : ℕ) → IsHeldUntil connects place session (Some deadline) → is_held_until (hold_at connects.held place) session deadline ≡ true
is_itself connects place session deadline h = grind (arith, common_steps, eq-eqb)

ends_then : (o : Option ℕ) (moment : ℕ) → ends_at o moment ≡ true → o ≡ Some moment
ends_then o moment h1 = grind (arith, common_steps, eqb-true)

pub is_such : (connects : KnownConnects) (place session deadline : ℕ) → is_held_until (hold_at connects.held place) session deadline ≡ true → IsHeldUntil connects place session (Some deadline)
is_such connects place session deadline h = by (hold_at connects.held place) refl h
  where
    by : (o : Option HeldConnect) → hold_at connects.held place ≡ o → is_held_until o session deadline ≡ true → IsHeldUntil connects place session (Some deadline)
    by None e said = absurd (true≢false (sym said))
    by (Some held) e said =
        let ends = ends_then held.deadline deadline (and_parts (ends_at held.deadline deadline) (nat_eq held.session session) said).0 in
        let of = eqb-true held.session session (and_parts (ends_at held.deadline deadline) (nat_eq held.session session) said).1 in
        record { waker = held.waker; held = ap (λ o. state_by o (filing_at connects.filed place)) e ∙ cc }

pub unwatched_still : (o : Option HeldConnect) (s d : ℕ) → is_held_until (option_map unwatched_hold o) s d ≡ is_held_until o s d
unwatched_still o s d = grind (arith, common_steps)

pub earlier_or_later : (moment deadline : ℕ) → (deadline ≤ moment → ⊥) → moment < deadline
earlier_or_later moment deadline not_early = grind (arith, common_steps, leb_tells, leb)

pub not_held : (held : Option HeldConnect) (filed : Option FiledAnswer) (f : FiledAnswer) → is_both held filed ≡ false → filed ≡ Some f → state_by held filed ≡ Some (Filed f.session f.place f.answer)
not_held held filed f h1 h2 = grind (arith, common_steps)

pub lookup-last : {X : Type 0} (k : ℕ) (v : X) (es : List (ℕ × X)) → lookup (nat_eq k) es ≡ None → lookup (nat_eq k) (es ++ (k, v) ∷ []) ≡ Some v
lookup-last k v [] h = ap (λ b. cond b (Some v) None) (eq-eqb k k refl)
lookup-last k v (e ∷ es) h = by (nat_eq k e.0) h (lookup-last k v es)
  where
    by : (b : Bool) → cond b (Some e.1) (lookup (nat_eq k) es) ≡ None → (lookup (nat_eq k) es ≡ None → lookup (nat_eq k) (es ++ (k, v) ∷ []) ≡ Some v)
        → cond b (Some e.1) (lookup (nat_eq k) (es ++ (k, v) ∷ [])) ≡ Some v
    by b h1 h2 = grind (arith, common_steps)
