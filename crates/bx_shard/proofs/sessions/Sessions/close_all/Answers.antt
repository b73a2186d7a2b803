use Rattle.std.proofs.Common.{◌==◌, nat_eq, None, cond, get_or, ap, ◌∙◌, refl}
use Rattle.std.specs.List.{list_any}
use Rattle.std.proofs.lemmas.List.{take_all}
use Rattle.bx_connects.specs.Connects.{connect_at}
use Rattle.bx_connects.proofs.WakingLemmas.{woken_onwards, woken_still}
use Rattle.bx_shard.specs.Words.{kept_in, dropped_by}
use Rattle.bx_shard.proofs.Closing.{closing_parts, gone_more, dropped_by_more, dropped_by_none, parted_from}
use Rattle.bx_shard.proofs.sessions.Sessions.close_all.Goals as goal

pub loop-number-init : goal.loop-number-init
loop-number-init c = record {
  sessions = λ n. refl;
  connects = λ p. dropped_by_none (connect_at c.args.self.now.connects p);
  counted = λ counted. counted;
  held = c.requires.held;
  config = refl;
  woken = woken_still (connect_at c.args.self.now.connects) (connect_at c.args.self.now.connects) c.args.wakers.now (λ p. refl);
}

pub loop-number-preserved : goal.loop-number-preserved
loop-number-preserved c =
    let numbers = c.args.numbers.now in
    let i = c.loop-number.number-index in
    let number = get_or numbers i 0 in
    let before = c.loop-number.self in
    let loop = c.loop-number.invariant in
    record {
      sessions = λ n.
          c.close.ensures.sessions n ∙ ap (cond (nat_eq number n) None) (loop.sessions n) ∙ gone_more numbers i c.loop-number-test.true n (kept_in c.args.self.now n);
      connects = λ p.
          c.close.ensures.connects p ∙ closing_parts (connect_at before.connects) (kept_in before) number loop.held p
          ∙ ap (parted_from number) (loop.connects p) ∙ dropped_by_more numbers i c.loop-number-test.true (connect_at c.args.self.now.connects p);
      counted = λ counted. c.close.ensures.counted (loop.counted counted);
      held = c.close.ensures.held loop.held;
      config = c.close.ensures.config ∙ loop.config;
      woken = woken_onwards (connect_at c.args.self.now.connects) (connect_at before.connects) (connect_at c.close.new.self.connects) c.args.wakers.now c.loop-number.wakers c.close.new.wakers loop.woken c.close.ensures.woken;
    }

pub returns-clause-sessions : goal.returns-clause-sessions
returns-clause-sessions c = λ n.
    c.loop-number.invariant.sessions n
    ∙ ap (λ numbers. cond (list_any (λ m. m == n) numbers) None (kept_in c.args.self.now n)) (take_all c.loop-number.number-index c.args.numbers.now c.loop-number-test.false)

pub returns-clause-connects : goal.returns-clause-connects
returns-clause-connects c = λ p.
    c.loop-number.invariant.connects p
    ∙ ap (λ numbers. dropped_by numbers (connect_at c.args.self.now.connects p)) (take_all c.loop-number.number-index c.args.numbers.now c.loop-number-test.false)
