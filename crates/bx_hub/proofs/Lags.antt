-- Why the shard with the lowest position leaves no room in a full window.
use Rattle.std.proofs.Common.{◌≡◌, ◌<◌, ℕ, List, Option, Some, None, sym, subst}
use Rattle.std.specs.Prelude.{IfSome}
use Rattle.bx_hub.specs.Advancing.{IsAdvance}
use Rattle.bx_hub.specs.Faults.{IsAt, IsStopped}
use Rattle.bx_hub.specs.Lags.{IsLagging, no_room_of}
use Rattle.bx_hub.specs.Posts.{IsWithoutRoom}
use Rattle.bx_hub.specs.declared.{fault.HubFault.HubFault, fault.PostFault.PostFault, shard_state.evidence.ShardAdvance.ShardAdvance}
use Rattle.bx_hub.specs.declared.fault.HubFault.TheVariants as stops
use Rattle.bx_hub.specs.declared.fault.PostFault.TheVariants.{Overrun, WrongShard}
use Rattle.bx_window.specs.Steps.{begin_of}
use Rattle.bx_window.specs.declared.law.LogStep.{LogStep}

module _ {L : Type 0} where
  pub without_room : (front : List LogStep) (s : ShardAdvance L) (fault : PostFault) → IsAdvance front s → no_room_of s.index s.stays ≡ Some fault →
      IsWithoutRoom fault s.front × IsLagging fault (Some s) s.front
  without_room front s fault is why = by s.stays why is.stopped
    where
      by : (stays : Option HubFault) → no_room_of s.index stays ≡ Some fault → IfSome stays (λ f. IsStopped f s.index s.front × IsAt f s.place) →
          IsWithoutRoom fault s.front × IsLagging fault (Some s) s.front
      by None e h = absurd (cc e)
      by (Some stops.Closed) e h = absurd (cc e)
      by (Some stops.Paused) e h = absurd (cc e)
      by (Some stops.Memory) e h = absurd (cc e)
      by (Some (stops.Overrun shard place)) e h =
          let same : Overrun shard place ≡ fault = cc e in
          let begins = subst (λ (n : ℕ). n < begin_of s.front) h.1 h.0.1 in
          subst (λ (f : PostFault). IsWithoutRoom f s.front × IsLagging f (Some s) s.front) same (h.0.1, (sym h.0.0, (sym h.1, begins)))
      by (Some (stops.WrongShard found)) e h =
          let same : WrongShard s.index found ≡ fault = cc e in
          subst (λ (f : PostFault). IsWithoutRoom f s.front × IsLagging f (Some s) s.front) same (h.0, tt)
