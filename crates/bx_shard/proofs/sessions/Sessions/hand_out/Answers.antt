use Rattle.std.proofs.Common.{◌≡◌, ℕ, nat_eq, false, cond, option_map, subst, sym, ap, ◌∙◌}
use Rattle.bx_entry.specs.Words.{after, received}
use Rattle.bx_connects.specs.Connects.{connect_at}
use Rattle.bx_connects.proofs.WakingLemmas.{woken_onwards}
use Rattle.bx_shard.specs.Effects.{answers_by, filing_each}
use Rattle.bx_shard.specs.Words.{AllReady, Turn, Turns, published_at, kept_in}
use Rattle.bx_shard.proofs.Handing.{ready_along}
use Rattle.bx_shard.proofs.sessions.Sessions.hand_out.Goals as goal

pub loop-parcel-preserved : goal.loop-parcel-preserved
loop-parcel-preserved c =
    let kept = c.loop-parcel.invariant in
    let old = c.loop-parcel.self in
    let new = c.receive.new.self in
    let x = c.in-Some.parcel in
    let rest = c.next.new.self.rest.items in
    let steps = c.in-Some.ensures.steps.0 in
    let ready = subst (AllReady old) steps kept.0 in
    let one = c.receive.ensures in
    let others : (n : ℕ) → nat_eq x.number n ≡ false → kept_in new n ≡ kept_in old n =
    (λ n other. one.sessions n ∙ ap (λ b. cond b (option_map (after (received old.config (published_at c.args.place x.event))) (kept_in old x.number)) (kept_in old n)) other) in
    let turn : Turn c.args.self.now.config c.args.place x old new = record {
      sessions = λ n. one.sessions n ∙ ap (λ g. cond (nat_eq x.number n) (option_map (after (received g (published_at c.args.place x.event))) (kept_in old x.number)) (kept_in old n)) kept.3;
      connects = λ p. one.connects p ∙ ap (λ g. filing_each c.args.place (answers_by (received g (published_at c.args.place x.event)) (kept_in old x.number)) (connect_at old.connects) p) kept.3;
      held = one.held kept.1;
      config_is = one.config;
    } in (
      ready_along old new x.number rest ready.1 others one.room ready.2,
      one.held kept.1,
      one.counted kept.2,
      one.config ∙ kept.3,
      (λ last rest_turns. kept.4 last (subst (λ l. Turns c.args.self.now.config c.args.place l old last) (sym steps) (new, turn, rest_turns))),
      woken_onwards (connect_at c.args.self.now.connects) (connect_at old.connects) (connect_at new.connects) c.args.wakers.now c.loop-parcel.wakers c.receive.new.wakers kept.5 one.woken,
    )
