-- A shard has applied an entry if its sessions have.
use Rattle.std.proofs.Common.{◌≡◌, ◌≤◌, ◌+◌, ℕ, Bool, None, arith, refl, sym, ap, ◌∙◌}
use Rattle.bx_advice.specs.declared.config.Config.{Config}
use Rattle.bx_entry.specs.declared.entry.Entry.{Entry}
use Rattle.bx_connects.specs.Connects.{connect_at}
use Rattle.bx_shard.specs.declared.sessions.Sessions.{Sessions}
use Rattle.bx_shard.specs.Words.{Followed, Applied, IsSound, State, opens_in}
use Rattle.bx_shard.proofs.{Gives.given_unanswered, Onwards.begun_none}

module _ (shards : ℕ) (placing : ℕ → ℕ → ℕ) (index : ℕ) (shut : Bool) where
  abbrev pub at_place : ℕ → Sessions → State
  at_place place s = record { setup = record { config = s.config; shards = shards; placing = placing }; index = index; place = place; shut = shut; sessions = s }

  pub applied : (place : ℕ) (e : Entry) (old new : Sessions) → e.place ≡ place → Followed (opens_in (at_place place old).setup index e.kind) e old new
      → Applied (at_place place old) e (at_place (place + 1) new)
  applied place e old new here f = record {
    place = ap (λ p. p + 1) (sym here);
    setup = ap (λ (c : Config). record { config = c; shards = shards; placing = placing }) f.config;
    index = refl;
    shut = refl;
    sessions = f.sessions;
    connects = f.connects;
    known = f.known;
  }

  pub still_fresh : (place : ℕ) (e : Entry) (old new : Sessions) → e.place ≡ place → IsSound (at_place place old)
      → Followed (opens_in (at_place place old).setup index e.kind) e old new → (p : ℕ) → place + 1 ≤ p → connect_at new.connects p ≡ None
  still_fresh place e old new here sound f p behind =
      f.connects.kept p (λ n a g same.
      let u = given_unanswered (at_place place old) e n a sound (sym here) g in
      let own : a.place ≡ e.place = u.own (ap (connect_at old.connects) same ∙ unknown) in
      absurd (omega (arith, own, same, here, behind)))
      ∙ begun_none (at_place place old) e e.kind p unknown (λ same. absurd (omega (arith, same, here, behind)))
    where
      unknown : connect_at old.connects p ≡ None
      unknown = sound.fresh p (omega (arith, behind))
