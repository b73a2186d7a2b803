use Rattle.std.proofs.Common.{◌≡◌, ℕ, List, [], ◌∷◌, sym, ap, refl, ◌∙◌, rules}
use Rattle.bx_cut.specs.Words.{first_and_more, listed, past_byte, split_value, elements_inside}
use Rattle.bx_cut.proofs.{Names.rest_or_nothing, Names.then_elements, Lists.turn, Lists.listed-none, Lists.Shortens-split_value}
use Rattle.bx_cut.proofs.split.ElementsIterator.next.Goals as goal

pub returns-in_err-element-clause-steps : goal.returns-in_err-element-clause-steps
returns-in_err-element-clause-steps c =
    let none = listed-none split_value Shortens-split_value c.self.inside.rest.now c.in_err-element.ensures.value in
    let empty : c.args.self.now ≡ [] = sym c.self.view_is ∙ ap (λ (q : List (List ℕ) × List ℕ). q.0) none in
    rw c.from_residual.ensures (empty, empty)

pub returns-clause-steps : goal.returns-clause-steps
returns-clause-steps c =
    let t = c.self.inside.rest.now in
    let after = c.in_ok-element.after.now in
    let p : List ℕ × List ℕ = (c.in_ok-element.element.now, after) in
    let o = past_byte 44 after in
    let whole = turn split_value Shortens-split_value t ∙ ap (first_and_more split_value (listed split_value) t) (sym c.in_ok-element.ensures.value) in
    let rest = rest_or_nothing c.past.result _ c.unwrap_or-self-inside.result refl c.unwrap_or-self-inside.ensures ∙ ap elements_inside c.past.ensures.value in
    sym c.self.view_is ∙ ap (λ (q : List (List ℕ) × List ℕ). q.0) whole ∙ ap (λ (l : List (List ℕ)). p.0 ∷ l) (then_elements after o ∙ sym rest)

pub returns-clause-goes : goal.returns-clause-goes
returns-clause-goes c = rw (returns-clause-steps c) (search rules)
