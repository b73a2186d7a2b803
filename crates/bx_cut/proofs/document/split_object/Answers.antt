use Rattle.std.proofs.Common.{ℕ, List, Some, ap, ◌∙◌, map}
use Rattle.bx_cut.specs.Words.{Member, member_view}
use Rattle.bx_cut.proofs.{Objects.object-none, Objects.object-open, Objects.object-some}
use Rattle.bx_cut.proofs.document.split_object.Goals as goal

pub returns-in_default-clause-value : goal.returns-in_default-clause-value
returns-in_default-clause-value c = object-none c.args.text.now (rw c.past_blank-text.ensures.value at c.in_default.ensures.value)

pub returns-in_default-past-clause-value : goal.returns-in_default-past-clause-value
returns-in_default-past-clause-value c =
    let ms : List Member × List ℕ = (map member_view c.in_ok-members.members.items, c.in_ok-members.rest.now) in
    object-open c.args.text.now c.past_blank-text.result.now c.in-Some.inside.now ms c.past_blank-text.ensures.value c.in-Some.ensures.value c.in_ok-members.ensures.value c.in_default-past.ensures.value

pub returns-clause-value : goal.returns-clause-value
returns-clause-value c =
    let u = c.past_blank-text.result.now in
    let after = c.in-Some-past.after.now in
    let ms : List Member × List ℕ = (map member_view c.in_ok-members.members.items, c.in_ok-members.rest.now) in
    let cut = object-some c.args.text.now u c.in-Some.inside.now ms c.past_blank-text.ensures.value c.in-Some.ensures.value c.in_ok-members.ensures.value after c.in-Some-past.ensures.value in
    ap (λ (text : List ℕ). Some ((text, ms.0), after)) c.split_at.ensures.front ∙ cut
