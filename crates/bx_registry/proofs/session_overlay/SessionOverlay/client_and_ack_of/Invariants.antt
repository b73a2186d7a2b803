use Rattle.std.proofs.Common.{◌≡◌, take, fold}
use Rattle.std.specs.Prelude.{option_map}
use Rattle.bx_roster.specs.Tables.{client_and_ack_of}
use Rattle.bx_registry.specs.SessionOverlays.{known_after}
use Rattle.bx_registry.proofs.session_overlay.SessionOverlay.client_and_ack_of.Given as goal

abbrev pub invariant-loop-edit : goal.invariant-loop-edit
invariant-loop-edit l = option_map (λ k. (k.client.now, k.ack)) l.known ≡ fold (known_after l.number) (client_and_ack_of l.number l.self.base.live) (take l.edit-index l.edit-items)
