-- How many shards lag, with one more shard.
use Rattle.std.proofs.Common.{◌≡◌, ◌≤◌, ◌+◌, List, [], ◌∷◌, ◌++◌, length, Option, Some, None, refl, ap, ◌∙◌, arith}
use Rattle.bx_hub.specs.Faults.{count_of, one_more}
use Rattle.bx_hub.specs.Lagging.{lagging_of}
use Rattle.bx_hub.specs.declared.fault.{HubFault.HubFault, Lagging.Lagging}
use Rattle.bx_hub.specs.declared.fault.HubFault.TheVariants as stops

either_first : (f g : HubFault) (l : Lagging) → one_more f (one_more g l) ≡ one_more g (one_more f l)
either_first stops.Closed stops.Closed l = refl
either_first stops.Closed stops.Paused l = refl
either_first stops.Closed (stops.Overrun t q) l = refl
either_first stops.Closed stops.Memory l = refl
either_first stops.Closed (stops.WrongShard n) l = refl
either_first stops.Paused stops.Closed l = refl
either_first stops.Paused stops.Paused l = refl
either_first stops.Paused (stops.Overrun t q) l = refl
either_first stops.Paused stops.Memory l = refl
either_first stops.Paused (stops.WrongShard n) l = refl
either_first (stops.Overrun s p) stops.Closed l = refl
either_first (stops.Overrun s p) stops.Paused l = refl
either_first (stops.Overrun s p) (stops.Overrun t q) l = refl
either_first (stops.Overrun s p) stops.Memory l = refl
either_first (stops.Overrun s p) (stops.WrongShard n) l = refl
either_first stops.Memory stops.Closed l = refl
either_first stops.Memory stops.Paused l = refl
either_first stops.Memory (stops.Overrun t q) l = refl
either_first stops.Memory stops.Memory l = refl
either_first stops.Memory (stops.WrongShard n) l = refl
either_first (stops.WrongShard m) stops.Closed l = refl
either_first (stops.WrongShard m) stops.Paused l = refl
either_first (stops.WrongShard m) (stops.Overrun t q) l = refl
either_first (stops.WrongShard m) stops.Memory l = refl
either_first (stops.WrongShard m) (stops.WrongShard n) l = refl

pub lagging-last : (stays : List (Option HubFault)) (f : HubFault) → lagging_of (stays ++ Some f ∷ []) ≡ one_more f (lagging_of stays)
lagging-last [] f = refl
lagging-last (None ∷ stays) f = lagging-last stays f
lagging-last (Some g ∷ stays) f = ap (one_more g) (lagging-last stays f) ∙ either_first g f (lagging_of stays)

pub level-last : (stays : List (Option HubFault)) → lagging_of (stays ++ None ∷ []) ≡ lagging_of stays
level-last [] = refl
level-last (None ∷ stays) = level-last stays
level-last (Some g ∷ stays) = ap (one_more g) (level-last stays)

counted : (f : HubFault) (l : Lagging) → count_of (one_more f l) ≡ count_of l + 1
counted stops.Closed l = omega arith
counted _ l = omega arith

pub few_lag : (stays : List (Option HubFault)) → count_of (lagging_of stays) ≤ length stays
few_lag [] = omega arith
few_lag (None ∷ stays) = let e = few_lag stays in omega (arith, e)
few_lag (Some f ∷ stays) = let e = few_lag stays in let c = counted f (lagging_of stays) in omega (arith, e, c)
