use Rattle.std.proofs.Common.{◌≡◌, ℕ, ◌+◌, ◌<◌, ◌≤◌, false, true, List, [], ◌∷◌, ◌++◌, ◌∙◌, Result, Ok, Err, append_assoc, ap, arith, get_or, length, sym, take}
use Rattle.std.proofs.lemmas.List.{take_all, take_more}
use Rattle.std.specs.Prelude.{OnOk, is_err}
use Rattle.bx_entry.specs.declared.{Placing.Ghosts, input.Input.Input}
use Rattle.bx_world.specs.Seen.{setup_of}
use Rattle.bx_fanout.specs.RoundStates.{AddsOuts}
use Rattle.bx_fanout.specs.declared.{out.Out.Out, round_state.RoundState.RoundState}
use Rattle.bx_fanout.proofs.run.run.Goals.{After-settle-in-loop-index, After-catch_up}
use Rattle.bx_fanout.proofs.run.run.Goals as goal

at_ok : {T E A : Type 0} (r : Result T E) → is_err r ≡ false → OnOk r A → A
at_ok (Ok x) fine a = a
at_ok (Err e) fine a = let contrary : true ≡ false = fine in cc

within : (n : ℕ) → n ≤ n
within n = omega arith

next-within : (i n : ℕ) → i < n → i + 1 ≤ n
next-within i n less = omega arith

more : {X : Type 0} (a b d xs ys : List X) → b ≡ a ++ xs → d ≡ b ++ ys → d ≡ a ++ (xs ++ ys)
more {X} a b d xs ys first second = second ∙ ap (λ (s : List X). s ++ ys) first ∙ append_assoc a xs ys

one-more : {X : Type 0} (all a b d : List X) (i : ℕ) (x : X) → i < length all → x ≡ get_or all i x → b ≡ a ++ take i all → d ≡ b ++ x ∷ [] → d ≡ a ++ take (i + 1) all
one-more {X} all a b d i x less is first second =
    more a b d (take i all) (x ∷ []) first second ∙ ap (λ (s : List X). a ++ s) (ap (λ (y : X). take i all ++ y ∷ []) is ∙ sym (take_more all i x less))

module _ {P : Type 0} {g : Ghosts P} where
  adds-both : (p q r : RoundState P g) (a b d : List Out) → AddsOuts p a b q → AddsOuts q b d r → AddsOuts p a d r
  adds-both p q r a b d first second = record {
    more = first.more ++ second.more;
    behind = more a b d first.more second.more first.behind second.behind;
    added = more p.added q.added r.added first.more second.more first.added second.added;
    setup = second.setup ∙ first.setup;
  }

  adds-over : (p q r : RoundState P g) (a b : List Out) → AddsOuts p a b q → r.added ≡ q.added → setup_of r.world ≡ setup_of q.world → AddsOuts p a b r
  adds-over p q r a b adds added setup = record {
    more = adds.more;
    behind = adds.behind;
    added = added ∙ adds.added;
    setup = setup ∙ adds.setup;
  }

next-adds : (g : _) (c : After-settle-in-loop-index g) → AddsOuts c.settle.new.state c.settle.new.outs.items c.settle-in-loop-index.new.outs.items c.settle-in-loop-index.new.state
next-adds g c =
    let p = c.settle.new.state in
    let q = c.take_in_next.new.state in
    adds-both p q c.settle-in-loop-index.new.state c.settle.new.outs.items c.loop-index.outs.items c.settle-in-loop-index.new.outs.items
    (adds-over p c.loop-index.state q c.settle.new.outs.items c.loop-index.outs.items c.loop-index.invariant.2 c.take_in_next.ensures.added c.take_in_next.ensures.setup)
    c.settle-in-loop-index.ensures.adds

next-inputs : (g : _) (c : After-settle-in-loop-index g) → c.settle-in-loop-index.new.state.inputs ≡ c.settle.new.state.inputs ++ take (c.loop-index.index + 1) c.args.inputs.now
next-inputs g c =
    c.settle-in-loop-index.ensures.inputs ∙
    one-more c.args.inputs.now c.settle.new.state.inputs c.loop-index.state.inputs c.take_in_next.new.state.inputs c.loop-index.index c.index-inputs-index.result c.loop-index-test.true c.index-inputs-index.is c.loop-index.invariant.3
    (at_ok c.take_in_next.result (sym c.if-is_err-2.ensures.value) c.take_in_next.ensures.inputs)

pub returns-then-is_err-3-clause-runs : goal.returns-then-is_err-3-clause-runs
returns-then-is_err-3-clause-runs g c =
    let at = (goal.at.returns-then-is_err-3-clause-runs g c).After-settle-in-loop-index in (
      adds-both c.args.state.now c.settle.new.state c.settle-in-loop-index.new.state c.args.outs.now.items c.settle.new.outs.items c.settle-in-loop-index.new.outs.items c.settle.ensures.adds (next-adds g at),
      next-within c.loop-index.index (length c.args.inputs.now) c.loop-index-test.true,
      next-inputs g at ∙ ap (λ (s : List Input). s ++ take (c.loop-index.index + 1) c.args.inputs.now) c.settle.ensures.inputs,
    )

pub loop-index-preserved : goal.loop-index-preserved
loop-index-preserved g c =
    let at = (goal.at.loop-index-preserved g c).After-settle-in-loop-index in (
      c.settle-in-loop-index.ensures.consistent,
      at_ok c.settle-in-loop-index.result (sym c.if-is_err-3.ensures.value) c.settle-in-loop-index.ensures.calm,
      next-adds g at,
      next-inputs g at,
    )

all-adds : (g : _) (c : After-catch_up g) → AddsOuts c.args.state.now c.args.outs.now.items c.loop-index.outs.items c.catch_up.new.state
all-adds g c =
    let p = c.args.state.now in
    let q = c.loop-index.state in
    adds-over p q c.catch_up.new.state c.args.outs.now.items c.loop-index.outs.items
    (adds-both p c.settle.new.state q c.args.outs.now.items c.settle.new.outs.items c.loop-index.outs.items c.settle.ensures.adds c.loop-index.invariant.2)
    c.catch_up.ensures.added c.catch_up.ensures.setup

all-inputs : (g : _) (c : After-catch_up g) → c.catch_up.new.state.inputs ≡ c.args.state.now.inputs ++ c.args.inputs.now
all-inputs g c =
    c.catch_up.ensures.inputs ∙ c.loop-index.invariant.3 ∙ ap (λ (s : List Input). s ++ take c.loop-index.index c.args.inputs.now) c.settle.ensures.inputs ∙
    ap (λ (s : List Input). c.args.state.now.inputs ++ s) (take_all c.loop-index.index c.args.inputs.now c.loop-index-test.false)

pub returns-then-is_err-4-clause-runs : goal.returns-then-is_err-4-clause-runs
returns-then-is_err-4-clause-runs g c =
    let at = (goal.at.returns-then-is_err-4-clause-runs g c).After-catch_up in (
      all-adds g at,
      within (length c.args.inputs.now),
      all-inputs g at ∙ ap (λ (s : List Input). c.args.state.now.inputs ++ s) (sym (take_all (length c.args.inputs.now) c.args.inputs.now (within (length c.args.inputs.now)))),
    )

pub returns-clause-runs : goal.returns-clause-runs
returns-clause-runs g c =
    let at = (goal.at.returns-clause-runs g c).After-catch_up in (
      all-adds g at,
      all-inputs g at,
      at_ok c.catch_up.result (sym c.if-is_err-4.ensures.value) c.catch_up.ensures.settled,
    )
