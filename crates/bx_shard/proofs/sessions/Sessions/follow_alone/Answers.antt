use Rattle.std.proofs.Common.{rules, ℕ, List, ap, sym, ◌∙◌}
use Rattle.bx_connects.specs.Connects.{connect_at}
use Rattle.bx_connects.proofs.WakingLemmas.{woken_onwards}
use Rattle.bx_entry.specs.declared.entry.EntryKind.TheVariants as kinds
use Rattle.bx_shard.proofs.Followed.{followed_connect, followed_disconnect, followed_publish, followed_tick}
use Rattle.bx_shard.proofs.sessions.Sessions.follow_alone.Goals as goal

pub returns-in_ok-connect-in-Connect-2-clause-done : goal.returns-in_ok-connect-in-Connect-2-clause-done
returns-in_ok-connect-in-Connect-2-clause-done c =
    let x = c.in-Connect in
    let h = c.in_ok-connect-in-Connect-2.ensures in
    followed_connect c.args.belongs c.args.entry.now x.session x.client x.id x.acked x.hold c.in_ok-connect-in-Connect.connect c.args.self.now c.connect.new.self
    x.is (search rules) (search rules) h.sessions h.connects c.connect.ensures.others c.connect.ensures.counted c.connect.ensures.held c.requires.counted c.requires.held

pub returns-in_ok-publish-in-Publish-clause-done : goal.returns-in_ok-publish-in-Publish-clause-done
returns-in_ok-publish-in-Publish-clause-done c =
    let h = c.in_ok-publish-in-Publish.ensures in
    followed_publish c.args.belongs c.args.entry.now c.in-Publish.event c.args.self.now c.publish.new.self c.in-Publish.is
    h.sessions h.given h.kept h.known c.publish.ensures.config c.requires.counted c.publish.ensures.counted c.publish.ensures.held

pub returns-in-Disconnect-clause-done : goal.returns-in-Disconnect-clause-done
returns-in-Disconnect-clause-done c =
    let h = c.disconnect.ensures in
    followed_disconnect c.args.belongs c.args.entry.now c.in-Disconnect.session c.args.self.now c.disconnect.new.self c.in-Disconnect.is
    h.sessions h.connects h.config h.counted h.held c.requires.counted c.requires.held

pub returns-in-Tick-clause-done : goal.returns-in-Tick-clause-done
returns-in-Tick-clause-done c =
    let h = c.end_holds.ensures in
    let k = c.close_all.ensures in
    followed_tick c.args.belongs c.args.entry.now c.as_slice-in-Tick.result.now c.args.self.now c.end_holds.new.self c.close_all.new.self
    (c.in-Tick.is ∙ ap (λ (ns : List ℕ). kinds.Tick ns) (sym c.as_slice-in-Tick.ensures))
    h.sessions h.given h.kept h.known h.config k.sessions k.connects k.config c.requires.counted (k.counted (h.counted c.requires.counted)) k.held

pub returns-in-Tick-clause-woken : goal.returns-in-Tick-clause-woken
returns-in-Tick-clause-woken c =
    woken_onwards (connect_at c.args.self.now.connects) (connect_at c.end_holds.new.self.connects) (connect_at c.close_all.new.self.connects)
    c.args.wakers.now c.end_holds.new.wakers c.close_all.new.wakers c.end_holds.ensures.woken c.close_all.ensures.woken
