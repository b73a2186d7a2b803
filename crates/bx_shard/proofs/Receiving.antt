-- What a session keeps when it gets an event or has no room for it.
use Rattle.std.proofs.Common.{◌≡◌, ℕ, nat_eq, Bool, true, false, cond, List, Option, Some, refl, sym, ap, subst, ◌∙◌}
use Rattle.std.proofs.lemmas.Bool.{true≢false, eqb-true}
use Rattle.bx_advice.specs.declared.config.Config.{Config}
use Rattle.bx_entry.specs.Words.{Kept, after, received, resumed}
use Rattle.bx_entry.specs.Sessions.{Session, Publication, has_room, delivered, overflowed, with_event}
use Rattle.bx_names.specs.Globs.{Glob}
use Rattle.bx_theory.proofs.Keeps.{delivered_to_k}
use Rattle.bx_shard.specs.Sessions.{IsCounted, IsOwn}

same_patterns : (room : Bool) (d o s : Session) → d.patterns ≡ s.patterns → o.overflow ≡ true → (cond room d o).overflow ≡ false → (cond room d o).patterns ≡ s.patterns
same_patterns true d o s same over h = same
same_patterns false d o s same over h = absurd (true≢false (sym over ∙ h))

same_hold : (room : Bool) (d o s : Session) → d.overflow ≡ false → o.held ≡ s.held → (cond room d o).overflow ≡ true → (cond room d o).held ≡ s.held
same_hold true d o s within same h = absurd (true≢false (sym h ∙ within))
same_hold false d o s within same h = same

pub received_patterns : (config : Config) (p : Publication) (k : Kept) → (after (received config p) k).overflow ≡ false → (after (received config p) k).patterns ≡ k.patterns
received_patterns config p k h =
    let s : Session = resumed k in
    same_patterns (has_room config p.event s) (delivered config p s) (overflowed s) s (delivered_to_k config p (with_event p s) s.held).patterns refl h

pub received_hold : (config : Config) (p : Publication) (k : Kept) → k.overflow ≡ false → (after (received config p) k).overflow ≡ true → (after (received config p) k).held ≡ k.held
received_hold config p k within h =
    let s : Session = resumed k in
    same_hold (has_room config p.event s) (delivered config p s) (overflowed s) s ((delivered_to_k config p (with_event p s) s.held).overflow ∙ within) refl h

same_number : (room : Bool) (d o s : Session) → d.number ≡ s.number → o.number ≡ s.number → (cond room d o).number ≡ s.number
same_number true d o s given over = given
same_number false d o s given over = over

same_stage : (room : Bool) (d o s : Session) → d.stage ≡ s.stage → o.stage ≡ s.stage → (cond room d o).stage ≡ s.stage
same_stage true d o s given over = given
same_stage false d o s given over = over

module _ (config : Config) (p : Publication) (m : ℕ) (S T : ℕ → Option Kept) (patterns : ℕ → List Glob) (k : Kept) where
  own_on : (n : ℕ) → k.overflow ≡ false → (after (received config p) k).overflow ≡ false → IsOwn n k (patterns n) → IsOwn n (after (received config p) k) (patterns n)
  own_on n within still own =
      let s : Session = resumed k in
      let room : Bool = has_room config p.event s in
      let keeps = delivered_to_k config p (with_event p s) s.held in
      record {
        number = same_number room (delivered config p s) (overflowed s) s keeps.number refl ∙ own.number;
        live = same_stage room (delivered config p s) (overflowed s) s keeps.stage refl ∙ own.live;
        patterns_are = received_patterns config p k still ∙ own.patterns_are;
        emptied = λ over. absurd (true≢false (sym over ∙ still));
      }

  pub counted_on : ((n : ℕ) → IsCounted n (S n) (patterns n)) → S m ≡ Some k → k.overflow ≡ false → (after (received config p) k).overflow ≡ false
      → ((n : ℕ) → T n ≡ cond (nat_eq m n) (Some (after (received config p) k)) (S n)) → (n : ℕ) → IsCounted n (T n) (patterns n)
  counted_on counted here within still on n = subst (λ o. IsCounted n o (patterns n)) (sym (on n)) (by (nat_eq m n) refl)
    where
      by : (b : Bool) → nat_eq m n ≡ b → IsCounted n (cond b (Some (after (received config p) k)) (S n)) (patterns n)
      by true h = own_on n within still (subst (λ o. IsCounted n o (patterns n)) (ap S (sym (eqb-true m n h)) ∙ here) (counted n))
      by false h = counted n
