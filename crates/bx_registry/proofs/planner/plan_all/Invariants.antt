use Rattle.std.proofs.Common.{◌≡◌, drop, length}
use Rattle.bx_entry.specs.Listing.{listed_from, request}
use Rattle.bx_registry.specs.Words.{members_of, setup_of}
use Rattle.bx_registry.proofs.Planning.{SoFar}
use Rattle.bx_registry.proofs.planner.plan_all.Given as goal

abbrev pub invariant-loop-message : goal.invariant-loop-message
invariant-loop-message g l = (l.left ≡ length (drop l.message-index l.messages))
    × SoFar (setup_of g.P.Placing.place_of l.setup) (members_of l.fn.overlay) l.fn.overlay.base l.start.clock l.start.place (request l.start.moment l.start.nonce l.messages)
    (listed_from l.start.moment l.start.nonce l.sole l.seen (drop l.message-index l.messages)) l.overlay l.senders l.now l.place l.entries l.slots
