use Rattle.std.proofs.Common.{◌≡◌, ◌+◌, ℕ, List, [], ◌∷◌, ◌++◌, length, sym, ap, ◌∙◌, subst}
use Rattle.std.proofs.lemmas.{List.length_push, List.Elements.All-append, List.Elements.All-cons, List.Elements.All-nil}
use Rattle.std.specs.List.{All}
use Rattle.bx_tree.specs.Patterns.{patterns_of}
use Rattle.bx_shard.specs.declared.sessions.Sessions.{Sessions}
use Rattle.bx_reshard.specs.Heirs.{IsEmptyOf}
use Rattle.bx_reshard.proofs.heirs.Heirs.new.Goals as goal

pub loop-index-preserved : goal.loop-index-preserved
loop-index-preserved c =
    let loop = c.loop-index in
    let made = c.new.ensures in
    let one : IsEmptyOf c.args.config c.new.result = record {
      config_is = made.config;
      sessions = made.sessions;
      patterns = λ n. ap (λ t. patterns_of t n) made.patterns;
      connects = made.connects;
    } in
    let pushed : c.push.new.self.items ≡ loop.shards.items ++ c.new.result ∷ [] = c.in_ok-push.ensures.items in
    record {
      many = ap (λ (xs : List Sessions). length xs) pushed ∙ length_push loop.shards.items c.new.result ∙ ap (λ (n : ℕ). n + 1) loop.invariant.many;
      empty = subst (All (IsEmptyOf c.args.config)) (sym pushed)
          (All-append (IsEmptyOf c.args.config) loop.shards.items (c.new.result ∷ []) loop.invariant.empty (All-cons (IsEmptyOf c.args.config) c.new.result [] one (All-nil (IsEmptyOf c.args.config))));
    }
