-- A connect: the hold that it supersedes, its own hold, and the answers to both.
use Rattle.std.proofs.Common.{arith, Contains, ◌≡◌, ◌≢◌, ℕ, nat_eq, Bool, cond, Option, Some, None, option_map, is_none, List, [], ◌∷◌, ◌++◌, map, refl, sym, ap, ◌∙◌, true≢false, subst}
use Rattle.std.specs.Option.{option_map_or}
use Rattle.std.proofs.lemmas.{Bool.eq-eqb, List.Elements.Contains-append_left, List.Elements.Contains-append_right}
use Rattle.bx_advice.specs.declared.config.Config.{Config}
use Rattle.bx_advice.specs.declared.advice.Outcome.TheVariants.{Failed}
use Rattle.bx_advice.specs.declared.error.Error.TheVariants.{SupersededConnect}
use Rattle.bx_entry.specs.Words.{Kept, after, answers_of, kept, resumed, Pending, admitted, connected, released, unheld}
use Rattle.bx_session.specs.declared.answered.Answered.{Answered}
use Rattle.bx_session.specs.Views.{answered_of}
use Rattle.bx_session.proofs.ConnectLemmas.{connected_answers, connected_kept, released_unheld}
use Rattle.bx_connects.specs.declared.connects.ConnectState.{ConnectState}
use Rattle.bx_connects.specs.Connects.{filing}
use Rattle.bx_shard.specs.Effects.{answers_by, connect_filing, filing_each, holding}
use Rattle.bx_shard.specs.Sessions.{held_until, holds_until}
use Rattle.bx_shard.proofs.Ends.{IsTo, Settles, to_hold, admitted_e, filing_agrees, held_to, is_to, kept_sessions, released_e, with_hold}
use Rattle.bx_shard.proofs.{Keeps.AreElsewhere, Keeps.unfiled, Singles.the_one, Ties.Agree, Ties.IsFree, Ties.still}
use Rattle.bx_shard.proofs.Ties as ties

-- ---- several answers

pub filing_along : (place : ℕ) (answers : List Answered) (C D : ℕ → Option ConnectState) → ((p : ℕ) → C p ≡ D p) → (p : ℕ) → filing_each place answers C p ≡ filing_each place answers D p
filing_along place answers C D same p = grind arith

pub filing_more : (place : ℕ) (first rest : List Answered) (C : ℕ → Option ConnectState) (p : ℕ) → filing_each place (first ++ rest) C p ≡ filing_each place rest (filing_each place first C) p
filing_more place [] rest C p = filing_along place rest C (filing_each place [] C) (λ q. refl) p
filing_more place (a ∷ first) rest C p = filing_more place first rest (filing place (Some a) C) p

-- ---- a connect begins

module _ (at m : ℕ) (connect : Pending) where
  pub held_first : (answers : List Answered) (C : ℕ → Option ConnectState) → AreElsewhere connect.place answers
      → (p : ℕ) → filing_each at answers (holding m connect C) p ≡ holding m connect (filing_each at answers C) p
  held_first [] C apart p = refl
  held_first (a ∷ rest) C apart p =
      let first : a.place ≢ connect.place = apart a (Contains-append_left (a ∷ []) rest a (the_one a)) in
      filing_along at rest (filing at (Some a) (holding m connect C)) (holding m connect (filing at (Some a) C)) (λ q. grind (arith, first)) p
      ∙ held_first rest (filing at (Some a) C) (λ b there. apart b (Contains-append_right (a ∷ []) rest b there)) p

-- ---- a connect of a session in the shard

module _ (config : Config) (connect : Pending) (acked : Option ℕ) where
  abbrev pub superseded : Kept → List Answered
  superseded k = map answered_of (answers_of (released config connect.place (Failed SupersededConnect)) k)

  abbrev pub own_answers : Kept → List Answered
  own_answers k = map answered_of (answers_of (admitted config connect acked k.overflow) (after unheld k))

  pub both_answers : (k : Kept) → superseded k ++ own_answers k ≡ answers_by (connected config connect acked) (Some k)
  both_answers k = connected_answers config connect acked k (superseded k) (own_answers k) refl refl

  pub is_superseded : (k : Kept) (a : Answered) → Contains (superseded k) a → IsTo (Some k) (superseded k) a
  is_superseded k a = is_to (Some k) (Some (kept (released config connect.place (Failed SupersededConnect) (resumed k)))) (superseded k) a (released_e config connect.place (Failed SupersededConnect) k)

  pub is_own : (k : Kept) (a : Answered) → Contains (own_answers k) a → IsTo (Some (with_hold connect (after unheld k))) (own_answers k) a
  is_own k a = is_to (Some (with_hold connect (after unheld k))) (Some (after (admitted config connect acked k.overflow) (after unheld k))) (own_answers k) a (admitted_e config connect (after unheld k) refl acked k.overflow)

  pub to_itself : (k : Kept) (a : Answered) → Contains (own_answers k) a → a.place ≡ connect.place
  to_itself k a there =
      let to : IsTo (Some (with_hold connect (after unheld k))) (own_answers k) a = is_own k a there in
      to.own ∙ ap (λ (o : Option Pending). option_map_or (λ (q : Pending). q.place) o connect.place) (sym (to_hold (Some (with_hold connect (after unheld k))) (own_answers k) a to))

  module _ (C D : ℕ → Option ConnectState) (S T : ℕ → Option Kept) (m : ℕ) where
    pub others_superseded : (k : Kept) → S m ≡ Some k → Agree C S → C connect.place ≡ None → AreElsewhere connect.place (superseded k)
    others_superseded k here agree fresh a there same =
        let to : IsTo (S m) (superseded k) a = subst (λ o. IsTo o (superseded k) a) (sym here) (is_superseded k a there) in
        true≢false (ap is_none (sym (ap (λ p. held_until (C p) m) same ∙ ap (λ o. held_until o m) fresh) ∙ held_to C S m (superseded k) a agree to))

    pub connect_agrees : (o : Option Kept) → S m ≡ o → Agree C S → C connect.place ≡ None
        → ((n : ℕ) → T n ≡ cond (nat_eq m n) (option_map (after (connected config connect acked)) o) (S n))
        → ((p : ℕ) → D p ≡ connect_filing m connect (connected config connect acked) o C p) → Agree D T
    connect_agrees None here agree fresh on at =
        still C D S T agree (λ p n. ap (λ o. held_until o n) (at p))
        (kept_sessions C D S T m None [] on (record { none = refl; same = λ p. sym (ap (λ o. holds_until o p) here) }))
    connect_agrees (Some k) here agree fresh on at =
        filing_agrees C₂ D S₂ T m (Some l) (own_answers k) connect.place second (λ n. on n ∙ sym (last (nat_eq m n) (S n))) filed settles
      where
        l : Kept
        l = after (connected config connect acked) k

        C₁ : ℕ → Option ConnectState
        C₁ p = filing_each connect.place (superseded k) C p

        S₁ : ℕ → Option Kept
        S₁ n = cond (nat_eq m n) (Some (after unheld k)) (S n)

        C₂ : ℕ → Option ConnectState
        C₂ p = holding m connect C₁ p

        S₂ : ℕ → Option Kept
        S₂ n = cond (nat_eq m n) (Some (with_hold connect (after unheld k))) (S₁ n)

        apart : AreElsewhere connect.place (superseded k)
        apart = others_superseded k here agree fresh

        lets_go : Settles (S m) (Some (after unheld k)) (superseded k)
        lets_go =
            subst (λ x. Settles x (Some (after unheld k)) (superseded k)) (sym here)
            (subst (λ (j : Kept). Settles (Some k) (Some j) (superseded k)) (released_unheld config connect.place (Failed SupersededConnect) k) (released_e config connect.place (Failed SupersededConnect) k))

        first : Agree C₁ S₁
        first = filing_agrees C C₁ S S₁ m (Some (after unheld k)) (superseded k) connect.place agree (λ n. refl) (λ p. refl) lets_go

        free : IsFree (S₁ m)
        free p = ap (λ b. holds_until (cond b (Some (after unheld k)) (S m)) p) (eq-eqb m m refl)

        second : Agree C₂ S₂
        second = ties.begun C₁ C₂ S₁ S₂ m connect (with_hold connect (after unheld k)) first (unfiled connect.place (superseded k) C connect.place apart ∙ fresh) free (λ p. refl) (λ n. refl) refl

        filed : (p : ℕ) → D p ≡ filing_each connect.place (own_answers k) C₂ p
        filed p =
            at p ∙ ap (λ (answers : List Answered). filing_each connect.place answers (holding m connect C) p) (sym (both_answers k))
            ∙ filing_more connect.place (superseded k) (own_answers k) (holding m connect C) p
            ∙ filing_along connect.place (own_answers k) _ C₂ (held_first connect.place m connect (superseded k) C apart) p

        last : (b : Bool) (rest : Option Kept) → cond b (Some l) (cond b (Some (with_hold connect (after unheld k))) (cond b (Some (after unheld k)) rest)) ≡ cond b (Some l) rest
        last b rest = grind arith

        settles : Settles (S₂ m) (Some l) (own_answers k)
        settles =
            subst (λ x. Settles x (Some l) (own_answers k)) (sym (ap (λ b. cond b (Some (with_hold connect (after unheld k))) (S₁ m)) (eq-eqb m m refl)))
            (subst (λ (j : Kept). Settles (Some (with_hold connect (after unheld k))) (Some j) (own_answers k)) (connected_kept config connect acked k) (admitted_e config connect (after unheld k) refl acked k.overflow))
