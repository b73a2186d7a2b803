-- What shards hold after one of them is swept.
use Rattle.std.proofs.Common.{arith, ◌≡◌, ℕ, Bool, true, false, ◌&&◌, is_some, Option, None, List, filter, nat_eq, ◌==◌, sym, ap, ◌∙◌, eqb-true}
use Rattle.std.proofs.lemmas.{Map.Made.is_some-lookup, Map.Views.any-filter_same}
use Rattle.std.specs.{List.list_any, Map.keys_of, Option.IsSome}
use Rattle.bx_connects.specs.declared.{connects.ConnectState.ConnectState, connects.FiledAnswer.FiledAnswer, held.HeldConnect.HeldConnect}
use Rattle.bx_connects.specs.Connects.{filed_answer, filing_at, hold_at, state_by, unswept}
use Rattle.bx_shard.specs.Words.{is_taken, State, connect_in, RefinesBesideSwept, RefinesSwept, is_swept, swept_places}
use Rattle.bx_shard.proofs.Taking.{refines_beside_gone, refines_gone}

-- ---- one connect

filed_then : (before : ℕ) (o : Option ConnectState) → is_swept before o ≡ true → IsSome (filed_answer o)
filed_then before o h = grind arith

gone_then : (before : ℕ) (o : Option ConnectState) → is_swept before o ≡ true → unswept before o ≡ None
gone_then before o h = grind arith

kept_then : (before : ℕ) (o : Option ConnectState) → is_swept before o ≡ false → unswept before o ≡ o
kept_then before o h = grind arith

-- ---- which places

either_way : (place : ℕ) (ks : List ℕ) → list_any (nat_eq place) ks ≡ is_taken ks place
either_way place ks = grind arith

known_by : (before : ℕ) (held : Option HeldConnect) (filed : Option FiledAnswer) → is_swept before (state_by held filed) ≡ true → is_some filed ≡ true
known_by before held filed said = grind arith

both : (a b : Bool) → (a ≡ true → b ≡ true) → (a && b) ≡ a
both a b h = grind arith

swept_is : (before : ℕ) (s : State) (place : ℕ) → is_taken (swept_places before s) place ≡ is_swept before (connect_in s place)
swept_is before s place =
    let keys : List ℕ = keys_of s.sessions.connects.filed in
    let test : ℕ → Bool = λ p. is_swept before (connect_in s p) in
    let among : is_taken (filter test keys) place ≡ (test place && is_taken keys place) = any-filter_same (λ t. t == place) test (test place) (λ k h. ap test (eqb-true k place h)) keys in
    let known : test place ≡ true → is_taken keys place ≡ true = λ h.
    sym (is_some-lookup (nat_eq place) s.sessions.connects.filed ∙ either_way place keys)
    ∙ known_by before (hold_at s.sessions.connects.held place) (filing_at s.sessions.connects.filed place) h in
    among ∙ both (test place) (is_taken keys place) known

-- ---- the swept shard, and the others

filed_swept : (before : ℕ) (s : State) (p : ℕ) → is_taken (swept_places before s) p ≡ true → IsSome (filed_answer (connect_in s p))
filed_swept before s p e = filed_then before (connect_in s p) (sym (swept_is before s p) ∙ e)

pub refines_swept : RefinesSwept
refines_swept setup list taken shard n before old new h swept sound =
    refines_gone setup list taken (swept_places before old) shard n old new h
    (record {
      setup_is = swept.setup;
      index_is = swept.index;
      place_is = swept.place;
      sessions = swept.sessions;
      filed = filed_swept before old;
      here = λ p e. swept.connects p ∙ gone_then before (connect_in old p) (sym (swept_is before old p) ∙ e);
      there = λ p e. swept.connects p ∙ kept_then before (connect_in old p) (sym (swept_is before old p) ∙ e);
    }) sound

pub refines_other_swept : RefinesBesideSwept
refines_other_swept setup list taken shard n before s other m beside h apart g =
    refines_beside_gone setup list taken (swept_places before s) shard n s other m beside h (filed_swept before s) apart g
