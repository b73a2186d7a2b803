-- Whether there is a session with a number.
use Rattle.std.proofs.Common.{◌≡◌, ℕ, List, [], ◌∷◌, refl, arith}
use Rattle.std.specs.Prelude.{◌==◌, Option, is_some, option_map}
use Rattle.std.proofs.lemmas.Grind.{common_steps}
use Rattle.std.specs.List.{list_any}
use Rattle.bx_entry.specs.Registry.{Registered}
use Rattle.bx_roster.specs.Tables.{client_and_ack_of}

pub is_some_known_at : (n : ℕ) (rs : List Registered) → is_some (client_and_ack_of n rs) ≡ list_any (λ (r : Registered). r.number == n) rs
is_some_known_at n [] = refl
is_some_known_at n (r ∷ rs) = grind (arith, common_steps, is_some_known_at n rs)

pub is_some_map : {X Y : Type 0} (f : X → Y) (o : Option X) → is_some o ≡ is_some (option_map f o)
is_some_map f o = grind (arith, common_steps)
