-- A session forms at most one batch at each entry.
use Rattle.std.proofs.Common.{◌≡◌, ◌≤◌, ◌+◌, ℕ, nat_le, Bool, true, Option, Some, None, IfSome, arith, refl, ap, ◌∙◌}
use Rattle.std.proofs.lemmas.{Bool.cond_both, Bool.Decides.nat_tests}
use Rattle.bx_advice.specs.declared.config.Config.{Config}
use Rattle.bx_entry.specs.declared.entry.{Entry.Entry, EntryKind.EntryKind}
use Rattle.bx_entry.specs.Words.{Kept, kept_step, is_live}
use Rattle.bx_session.proofs.NumberLemmas.{entry_forms_at_most_one_batch}
use Rattle.bx_shard.specs.declared.sessions.Sessions.{Sessions}
use Rattle.bx_shard.specs.Words.{has_formed_at_most, kept_in, if_live, opening, session_after}

-- ---- the test

passes : (a b : ℕ) → a ≤ b → nat_le a b ≡ true
passes a b h = grind (arith, nat_tests)

passed : (a b : ℕ) → nat_le a b ≡ true → a ≤ b
passed a b h = grind (arith, nat_tests)

-- ---- an entry

opening_none : (stands : Bool) (kind : EntryKind) (n : ℕ) → IfSome (opening stands kind n) (λ (k : Kept). k.num ≡ 0)
opening_none stands kind n = grind arith

module _ (config : Config) (stands : Bool) (e : Entry) (n count : ℕ) where
  stepped_few : (k : Kept) → k.num ≤ count → has_formed_at_most (count + 1) (if_live (kept_step config k e)) ≡ true
  stepped_few k few =
      let l : Kept = kept_step config k e in
      let more : (kept_step config k e).num ≤ k.num + 1 = entry_forms_at_most_one_batch config k e in
      cond_both (is_live l.stage) (Some l) None (λ o. has_formed_at_most (count + 1) o ≡ true) (λ h. passes l.num (count + 1) (omega (arith, few, more))) (λ h. refl)

  opened_few : (o : Option Kept) → IfSome o (λ (k : Kept). k.num ≡ 0) → opening stands e.kind n ≡ o → has_formed_at_most (count + 1) (session_after config stands e n None) ≡ true
  opened_few o none is = grind arith

  after_few : (o : Option Kept) → has_formed_at_most count o ≡ true → has_formed_at_most (count + 1) (session_after config stands e n o) ≡ true
  after_few None few = opened_few (opening stands e.kind n) (opening_none stands e.kind n) refl
  after_few (Some k) few = stepped_few k (passed k.num count few)

pub formed_few : (stands : Bool) (e : Entry) (count : ℕ) (old new : Sessions) → ((n : ℕ) → kept_in new n ≡ session_after old.config stands e n (kept_in old n))
    → ((n : ℕ) → has_formed_at_most count (kept_in old n) ≡ true) → (n : ℕ) → has_formed_at_most (count + 1) (kept_in new n) ≡ true
formed_few stands e count old new sessions few n = ap (has_formed_at_most (count + 1)) (sessions n) ∙ after_few old.config stands e n count (kept_in old n) (few n)
