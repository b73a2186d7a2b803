-- The object at the front of a text, and its parts.
use Rattle.std.proofs.Common.{◌≡◌, ℕ, zero, suc, ◌-◌, ◌<◌, ◌≤◌, List, length, take, Option, Some, None, option_map, option_and_then, refl, ap, ◌∙◌, arith}
use Rattle.std.proofs.lemmas.{List.length-drop, Grind.common_steps}
use Rattle.std.specs.List.{prefix_len}
use Rattle.json.specs.Word.{is_space}
use Rattle.bx_cut.specs.Words.{past_blank, after_first, past_byte, Member, split_member, separated, listed, first_and_more, then_more, Object, closed, split_object}
use Rattle.bx_cut.proofs.{Reach.from_map, Reach.from_and_then, Reach.after_first-length, Reach.past_byte-shorter, Lists.Shortens, Lists.Shortens-split_member}

pub object-none : (t : List ℕ) → None ≡ after_first 123 (past_blank t) → None ≡ split_object t
unfolding split_object
object-none t e = ap (option_and_then (λ (inside : List ℕ). closed (past_blank t) (listed split_member inside))) e

module _ (t u inside : List ℕ) (ms : List Member × List ℕ) (at : u ≡ past_blank t) (opened : Some inside ≡ after_first 123 u) (found : ms ≡ listed split_member inside) where
  object-closed : closed u ms ≡ split_object t
  unfolding split_object
  object-closed = grind (arith, common_steps)

  pub object-open : None ≡ past_byte 125 ms.1 → None ≡ split_object t
  object-open e = ap (option_map (λ (rest : List ℕ). ((take (length u - length rest) u, ms.0), rest))) e ∙ object-closed

  pub object-some : (after : List ℕ) → Some after ≡ past_byte 125 ms.1 → Some ((take (length u - length after) u, ms.0), after) ≡ split_object t
  object-some after e = ap (option_map (λ (rest : List ℕ). ((take (length u - length rest) u, ms.0), rest))) e ∙ object-closed

module _ {A : Type 0} (split : List ℕ → Option (A × List ℕ)) (shortens : Shortens split) where
  then_within : (more : List ℕ → List A × List ℕ) (t : List ℕ) (o : Option (List ℕ)) (n : ℕ) → length t ≤ n → ((r : List ℕ) → Some r ≡ o → length (more r).1 ≤ n) → length (then_more split more t o).1 ≤ n
  then_within more t o n h1 h2 = grind (arith, common_steps)

  first_within : (more : List ℕ → List A × List ℕ) (t : List ℕ) (o : Option (A × List ℕ)) → o ≡ split t → ((r : List ℕ) → length r < length t → length (more r).1 ≤ length t) → length (first_and_more split more t o).1 ≤ length t
  first_within more t o h1 h2 = grind (arith, common_steps, then_within, past_byte-shorter)

  separated-within : (n : ℕ) (t : List ℕ) → length (separated split n t).1 ≤ length t
  unfolding separated
  separated-within zero t = omega arith
  separated-within (suc n) t = first_within (separated split n) t (split t) refl (λ r h. omega (arith, separated-within n r))

  pub listed-within : (t : List ℕ) → length (listed split t).1 ≤ length t
  listed-within t = separated-within (length t) t

pub Shortens-split_object : Shortens split_object
unfolding split_object
Shortens-split_object t p e =
    let u = past_blank t in
    let inside = from_and_then (λ (i : List ℕ). closed u (listed split_member i)) (after_first 123 u) p e in
    let ms = listed split_member inside.0 in
    let rest = from_map (λ (r : List ℕ). ((take (length u - length r) u, ms.0), r)) (past_byte 125 ms.1) p inside.2 in
    let same = ap (λ (q : Object × List ℕ). length q.1) rest.2 in
    omega (arith, same, past_byte-shorter 125 ms.1 rest.0 rest.1, listed-within split_member Shortens-split_member inside.0, after_first-length 123 u inside.0 inside.1, length-drop (prefix_len is_space t) t)
