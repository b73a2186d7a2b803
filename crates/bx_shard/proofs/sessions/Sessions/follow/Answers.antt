use Rattle.std.proofs.Common.{rules, Some, sym, ap, ◌∙◌}
use Rattle.std.proofs.lemmas.Result.{on_ok_weaker}
use Rattle.std.specs.Option.{option_copied}
use Rattle.bx_connects.specs.Words.{connect_at, waker_of}
use Rattle.bx_connects.specs.declared.connects.ConnectState.TheVariants.{Filed}
use Rattle.bx_connects.proofs.WakingLemmas.{woken_onwards, woken_put}
use Rattle.bx_shard.specs.Words.{completed_by, unridden, kept_in}
use Rattle.bx_shard.proofs.Riding.{away, followed_alone, followed_riding, mid_fits, rides_here}
use Rattle.bx_shard.proofs.Waking.{completed_waker}
use Rattle.bx_shard.proofs.sessions.Sessions.follow.Goals as goal

pub returns-in_default-clause-done : goal.returns-in_default-clause-done
returns-in_default-clause-done c =
    let none = sym c.rider_here.ensures ∙ ap option_copied c.in_default.is in
    on_ok_weaker c.follow_alone.result (followed_alone c.args.belongs c.args.entry.now c.args.self.now c.follow_alone.new.self (away (kept_in c.args.self.now) c.args.entry.now none) c.requires.counted) c.follow_alone.ensures.done

pub ride-requires : goal.ride-requires
ride-requires c =
    let r = rides_here (kept_in c.args.self.now) c.args.entry.now c.in-Some.rider.now c.in-Some.ensures in
    record {
      room = mid_fits c.args.belongs c.args.entry.now c.in-Some.rider.now r.rides c.args.self.now c.prepare_ride.new.self c.follow_alone-2.new.self r.here c.requires.fresh c.requires.counted c.requires.held
          (search rules) (search rules) (search rules) (search rules) c.in_ok-room.room c.in_ok-room.ensures.room;
    }

pub returns-clause-done : goal.returns-clause-done
returns-clause-done c =
    let r = rides_here (kept_in c.args.self.now) c.args.entry.now c.in-Some.rider.now c.in-Some.ensures in
    followed_riding c.args.belongs c.args.entry.now c.in-Some.rider.now r.rides c.args.self.now c.prepare_ride.new.self c.follow_alone-2.new.self r.here c.requires.fresh c.requires.counted c.requires.held
    (search rules) (search rules) (search rules) (search rules) c.ride.new.self c.ride.ensures.sessions c.ride.ensures.connects c.ride.ensures.others.0 (search rules) (search rules)

pub returns-clause-woken : goal.returns-clause-woken
returns-clause-woken c =
    let place = c.args.entry.now.place in
    let rider = c.in-Some.rider.now in
    let old = connect_at c.args.self.now.connects in
    let prepared = connect_at c.prepare_ride.new.self.connects in
    let mid = c.follow_alone-2.new.self in
    let followed = connect_at mid.connects in
    let last = connect_at c.ride.new.self.connects in
    let wakers = c.args.wakers.now in
    let new = c.follow_alone-2.new.wakers in
    let begun = woken_put place old prepared (Some (Filed rider.session place (unridden rider))) wakers c.in_ok-room.ensures.connects (sym (ap waker_of c.requires.fresh)) in
    let given = completed_by mid.config (kept_in mid rider.session) (followed place) in
    let ridden = woken_put place followed last given new c.ride.ensures.connects (completed_waker mid.config (kept_in mid rider.session) (followed place)) in
    woken_onwards old followed last wakers new new (woken_onwards old prepared followed wakers wakers new begun c.follow_alone-2.ensures.woken) ridden
