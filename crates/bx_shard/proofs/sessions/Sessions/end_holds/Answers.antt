use Rattle.std.proofs.Common.{Some, cond, nat_eq, option_map, ap, ◌∙◌, refl}
use Rattle.bx_connects.specs.Connects.{connect_at}
use Rattle.bx_connects.proofs.WakingLemmas.{woken_onwards, woken_still}
use Rattle.bx_entry.specs.Keeping as keeping
use Rattle.bx_entry.specs.Sessions.{expired}
use Rattle.bx_shard.specs.Effects.{answers_by, filing_each}
use Rattle.bx_shard.specs.Sessions.{kept_in}
use Rattle.bx_shard.proofs.Ticking.{all_given, all_sessions, due_answered, none_due, none_ticked, one_ticked}
use Rattle.bx_shard.proofs.sessions.Sessions.end_holds.Goals as goal

pub loop-number-init : goal.loop-number-init
loop-number-init c = record {
  ticked = none_ticked c.args.self.now.config c.args.place c.args.moment (kept_in c.args.self.now) (connect_at c.args.self.now.connects);
  counted = λ counted. counted;
  held = c.requires.held;
  config = refl;
  woken = woken_still (connect_at c.args.self.now.connects) (connect_at c.args.self.now.connects) c.args.wakers.now (λ p. refl);
}

pub loop-number-smaller : goal.loop-number-smaller
loop-number-smaller c =
    let before = c.loop-number.self in
    let due = c.in-Some.ensures.due in
    let answered = due_answered before.config c.args.place c.args.moment (connect_at before.connects) (kept_in before) c.loop-number.invariant.held c.in-Some.number due.place due.deadline due.held.waker due.held.held due.due in
    c.tick.ensures.fewer answered.answer c.in-Some.number (Some due.deadline) due.held.waker answered.given (ap (connect_at before.connects) answered.own ∙ due.held.held)

pub loop-number-preserved : goal.loop-number-preserved
loop-number-preserved c =
    let old = c.args.self.now in
    let before = c.loop-number.self in
    let after = c.tick.new.self in
    let number = c.in-Some.number in
    let loop = c.loop-number.invariant in
    let due = c.in-Some.ensures.due in
    let answered = due_answered old.config c.args.place c.args.moment (connect_at before.connects) (kept_in before) loop.held number due.place due.deadline due.held.waker due.held.held due.due in
    record {
      ticked = one_ticked old.config c.args.place c.args.moment (kept_in old) (kept_in before) (kept_in after)
          (connect_at old.connects) (connect_at before.connects) (connect_at after.connects) number (Some due.deadline) due.held.waker answered.answer
          loop.ticked answered.given (ap (connect_at before.connects) answered.own ∙ due.held.held)
          (λ n. c.tick.ensures.sessions n ∙ ap (λ config. cond (nat_eq number n) (option_map (keeping.after (expired config c.args.place c.args.moment)) (kept_in before number)) (kept_in before n)) loop.config)
          (λ p. c.tick.ensures.connects p ∙ ap (λ config. filing_each c.args.place (answers_by (expired config c.args.place c.args.moment) (kept_in before number)) (connect_at before.connects) p) loop.config);
      counted = λ counted. c.tick.ensures.counted (loop.counted counted);
      held = c.tick.ensures.held loop.held;
      config = c.tick.ensures.others.0 ∙ loop.config;
      woken = woken_onwards (connect_at old.connects) (connect_at before.connects) (connect_at after.connects) c.args.wakers.now c.loop-number.wakers c.tick.new.wakers loop.woken c.tick.ensures.woken;
    }

pub returns-clause-sessions : goal.returns-clause-sessions
returns-clause-sessions c = λ n.
    let old = c.args.self.now in
    let after = c.loop-number.self in
    let loop = c.loop-number.invariant in
    let idle = none_due old.config c.args.place c.args.moment (connect_at after.connects) (kept_in after) loop.held c.ranges.moment.fits
    (λ place m deadline held. c.in_default.ensures.none place m deadline (record { waker = held.waker; held = held.is })) in
    all_sessions old.config c.args.place c.args.moment (kept_in old) (kept_in after) (connect_at old.connects) (connect_at after.connects) loop.ticked idle n

pub returns-clause-given : goal.returns-clause-given
returns-clause-given c = λ n a given.
    let old = c.args.self.now in
    let after = c.loop-number.self in
    let loop = c.loop-number.invariant in
    let idle = none_due old.config c.args.place c.args.moment (connect_at after.connects) (kept_in after) loop.held c.ranges.moment.fits
    (λ place m deadline held. c.in_default.ensures.none place m deadline (record { waker = held.waker; held = held.is })) in
    all_given old.config c.args.place c.args.moment (kept_in old) (kept_in after) (connect_at old.connects) (connect_at after.connects) loop.ticked idle n a given

pub returns-clause-kept : goal.returns-clause-kept
returns-clause-kept c = λ p none. c.loop-number.invariant.ticked.kept_at p none

pub returns-clause-known : goal.returns-clause-known
returns-clause-known c = λ p. c.loop-number.invariant.ticked.known p
