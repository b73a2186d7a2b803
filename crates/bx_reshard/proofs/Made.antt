-- Shards that are created one after another.
use Rattle.std.proofs.Common.{ℕ, suc, List, [], ◌∷◌, ◌++◌, Bool, length, arith}
use Rattle.std.proofs.lemmas.List.Elements.{All-cons}
use Rattle.std.specs.List.{All}
use Rattle.std.specs.declared.sync.Arc.{Arc}
use Rattle.bx_history.proofs.Elements.{each_push}
use Rattle.bx_shard.specs.declared.shard.Shard.{Shard}
use Rattle.bx_reshard.specs.Making.{AreHandlesOf, AreMadeWith, IsMade}

pub none_made : {P Z : Type 0} (handles : List (Arc P Z)) (count place : ℕ) (shut : Bool) → AreMadeWith handles count place shut []
none_made handles count place shut placing all k s e = absurd (cc)

pub one_more_made : {P Z : Type 0} (handles : List (Arc P Z)) (count place : ℕ) (shut : Bool) (xs : List (Shard P)) (y : Shard P) → AreMadeWith handles count place shut xs →
    ((placing : P) → AreHandlesOf placing handles → IsMade placing count place shut (length xs) y) → AreMadeWith handles count place shut (xs ++ y ∷ [])
one_more_made handles count place shut xs y made here placing all = each_push (IsMade placing count place shut) xs y (made placing all) (here placing all)

pub all_but_last : {X : Type 0} (Q : X → Type 0) (xs : List X) (y : X) → All Q (xs ++ y ∷ []) → All Q xs
all_but_last Q [] y all = λ i d l. absurd (omega (arith, l))
all_but_last Q (x ∷ xs) y all = All-cons Q x xs (all 0 x (omega arith)) (all_but_last Q xs y (λ i d l. all (suc i) d (omega (arith, l))))

pub last_of_all : {X : Type 0} (Q : X → Type 0) (xs : List X) (y : X) → All Q (xs ++ y ∷ []) → Q y
last_of_all Q [] y all = all 0 y (omega arith)
last_of_all Q (x ∷ xs) y all = last_of_all Q xs y (λ i d l. all (suc i) d (omega (arith, l)))
