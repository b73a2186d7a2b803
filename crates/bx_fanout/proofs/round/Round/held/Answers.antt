use Rattle.std.proofs.Common.{arith, ◌≡◌, ◌∙◌, ◌++◌, ◌∷◌, [], false, true, Global, List, Vec, ap, filter, map, subst, sym, ℕ}
use Rattle.bx_entry.specs.Requests.{read_input}
use Rattle.bx_world.specs.Seen.{setup_of, world_of}
use Rattle.bx_fanout.specs.Words.{numbers, waits, AreHeldBefore, is_collecting, seen_out}
use Rattle.bx_fanout.proofs.Holding.{held-before, held-none, held-some, none-collecting}
use Rattle.bx_fanout.proofs.round.Round.held.Goals.{in-Some+in_ok-push, in_default}
use Rattle.bx_fanout.proofs.round.Round.held.Goals as goal

pub returns-clause-held : goal.returns-clause-held
returns-clause-held g c = λ either.
    let p = c.args.self.now.state in
    let none : is_collecting p.stage ≡ false = none-collecting p.stage either (λ some all. c.args.self.now.consistent.lags some (λ k n found. let is = all.level k n found in omega (arith, is))) in
    let batch = p.world.registry.config.limits.some_batch in
    let staged = c.args.self.now.consistent.staged in
    elim c.match-collecting.branch [
      | in-Some+in_ok-push w ↦ let some : is_collecting p.stage ≡ true = ap is_collecting w.in-Some.ensures.some in cc
      | in_default w ↦
          ap (λ (v : Vec ℕ Global). v.items) w.numbers-is ∙ c.in_ok-numbers.ensures
          ∙ held-none (setup_of p.world) (map read_input p.inputs) (world_of p.world) p.held p.stage (map seen_out p.added) batch w.in_default.ensures.none staged
    ]

pub returns-clause-collecting : goal.returns-clause-collecting
returns-clause-collecting g c = λ some.
    let p = c.args.self.now.state in
    let batch = p.world.registry.config.limits.some_batch in
    let staged = c.args.self.now.consistent.staged in
    elim c.match-collecting.branch [
      | in-Some+in_ok-push w ↦
          let n = w.in-Some.current.now in
          let are : c.match-collecting.numbers.items ≡ numbers (filter waits p.held) ++ n.number ∷ [] =
          ap (λ (v : Vec ℕ Global). v.items) w.numbers-is ∙ w.in_ok-push.ensures.items ∙ ap (λ (ns : List ℕ). ns ++ n.number ∷ []) c.in_ok-numbers.ensures in
          subst (AreHeldBefore (setup_of p.world).config (map read_input p.inputs)) (sym are)
          (held-before (setup_of p.world) (map read_input p.inputs) (world_of p.world) p.held p.stage n (map seen_out p.added) batch w.in-Some.ensures.some staged)
      | in_default w ↦ let none : is_collecting p.stage ≡ false = w.in_default.ensures.none in cc
    ]

pub returns-clause-settled : goal.returns-clause-settled
returns-clause-settled g c = λ all.
    let p = c.args.self.now.state in
    let batch = p.world.registry.config.limits.some_batch in
    let staged = c.args.self.now.consistent.staged in
    elim c.match-collecting.branch [
      | in-Some+in_ok-push w ↦
          let n = w.in-Some.current.now in
          ap (λ (v : Vec ℕ Global). v.items) w.numbers-is ∙ w.in_ok-push.ensures.items ∙ ap (λ (ns : List ℕ). ns ++ n.number ∷ []) c.in_ok-numbers.ensures
          ∙ held-some (setup_of p.world) (map read_input p.inputs) (world_of p.world) p.held p.stage n (map seen_out p.added) batch w.in-Some.ensures.some staged all
      | in_default w ↦
          ap (λ (v : Vec ℕ Global). v.items) w.numbers-is ∙ c.in_ok-numbers.ensures
          ∙ held-none (setup_of p.world) (map read_input p.inputs) (world_of p.world) p.held p.stage (map seen_out p.added) batch w.in_default.ensures.none staged
    ]
