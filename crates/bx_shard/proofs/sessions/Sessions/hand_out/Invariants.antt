use Rattle.std.proofs.Common.{◌≡◌}
use Rattle.bx_connects.specs.Words.{connect_at, AreWoken}
use Rattle.bx_shard.specs.declared.sessions.Sessions.{Sessions}
use Rattle.bx_shard.specs.Words.{AllReady, Turns, AreCounted, AreHeld}
use Rattle.bx_shard.proofs.sessions.Sessions.hand_out.Given as goal

abbrev pub invariant-loop-parcel : goal.invariant-loop-parcel
invariant-loop-parcel l =
    AllReady l.self l.parcel-iterator.rest.items × AreHeld l.self × AreCounted l.self × (l.self.config ≡ l.fn.self.config)
    × ((last : Sessions) → Turns l.fn.self.config l.fn.place l.parcel-iterator.rest.items l.self last → Turns l.fn.self.config l.fn.place l.fn.parcels.items l.fn.self last)
    × AreWoken (connect_at l.fn.self.connects) (connect_at l.self.connects) l.fn.wakers l.wakers
