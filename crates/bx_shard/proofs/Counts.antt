-- After each change, the tree still has exactly the patterns of the sessions.
use Rattle.std.proofs.Common.{arith, ◌≡◌, ℕ, nat_eq, cond, Option, Some, None, option_map, List, sym, ◌∙◌}
use Rattle.std.proofs.lemmas.Grind.{common_steps}
use Rattle.bx_names.specs.Words.{Glob}
use Rattle.bx_advice.specs.declared.config.Config.{Config}
use Rattle.bx_entry.specs.Keeping.{Kept, after, kept, resumed}
use Rattle.bx_entry.specs.Sessions.{Publication, Session, published}
use Rattle.bx_theory.proofs.Keeps.{Keeps}
use Rattle.bx_shard.specs.Sessions.{IsCounted, IsOwn}

pub counts_along : (S T : ℕ → Option Kept) (P : ℕ → List Glob) (m : ℕ) (after : Option Kept) → ((n : ℕ) → IsCounted n (S n) (P n)) → ((n : ℕ) → T n ≡ cond (nat_eq m n) after (S n)) → IsCounted m after (P m) → (n : ℕ) → IsCounted n (T n) (P n)
counts_along S T P m after counted on own n = grind arith

-- ---- changes that leave the patterns

pub own_keeps : (n : ℕ) (k : Kept) (t : Session) (patterns : List Glob) → Keeps (resumed k) t → IsOwn n k patterns → IsOwn n (kept t) patterns
own_keeps n k t patterns s own = record {
  number = s.number ∙ own.number;
  live = s.stage ∙ own.live;
  patterns_are = s.patterns ∙ own.patterns_are;
  emptied = λ h. own.emptied (sym s.overflow ∙ h);
}

pub keeps_counts : (change : Session → Session) → ((k : Kept) → Keeps (resumed k) (change (resumed k))) → (n : ℕ) (o : Option Kept) (patterns : List Glob) → IsCounted n o patterns → IsCounted n (option_map (after change) o) patterns
keeps_counts change keeps n None patterns counted = counted
keeps_counts change keeps n (Some k) patterns counted = own_keeps n k (change (resumed k)) patterns (keeps k) counted

-- ---- stages and answers

pub published_stage : (k : Kept) (config : Config) (e : Publication) → (published config e (resumed k)).stage ≡ k.stage
published_stage k config e = grind (arith, common_steps)
