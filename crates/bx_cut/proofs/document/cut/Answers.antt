use Rattle.std.proofs.Common.{◌≡◌, ℕ, List, ◌++◌, Some, None, ap, ◌∙◌, rules}
use Rattle.bx_cut.specs.Words.{listed, Object, split_object, pieces}
use Rattle.bx_cut.proofs.{Lists.found-none, Lists.found-last, Lists.found-more, Objects.Shortens-split_object}
use Rattle.bx_cut.proofs.document.cut.Goals as goal

pub returns-in_default-past : goal.returns-in_default-past
returns-in_default-past c =
    let t = c.loop-pieces.rest.now in
    let p : Object × List ℕ = (c.in-Some-3.piece, c.in-Some-3.after.now) in
    let cut : Some p ≡ split_object t = rw c.in-Some-3.is at c.in_ok-piece-2.ensures.value in
    c.in_ok-push-2.ensures.items ∙ found-last split_object Shortens-split_object c.loop-pieces.pieces.items t p (pieces c.args.text.now) cut c.in_default-past.ensures.value c.loop-pieces.invariant.1

pub loop-pieces-preserved : goal.loop-pieces-preserved
loop-pieces-preserved c =
    let t = c.loop-pieces.rest.now in
    let next = c.in-Some-past.next.now in
    let p : Object × List ℕ = (c.in-Some-3.piece, c.in-Some-3.after.now) in
    let cut : Some p ≡ split_object t = rw c.in-Some-3.is at c.in_ok-piece-2.ensures.value in
    let more = found-more split_object Shortens-split_object c.loop-pieces.pieces.items t p next (pieces c.args.text.now) cut c.in-Some-past.ensures.value c.loop-pieces.invariant.1 in
    (search rules, ap (λ (l : List Object). l ++ (listed split_object next).0) c.in_ok-push-2.ensures.items ∙ more)

pub returns : goal.returns
returns c =
    let t = c.loop-pieces.rest.now in
    let none : None ≡ split_object t = rw c.in_default-3.is at c.in_ok-piece-2.ensures.value in
    found-none split_object Shortens-split_object c.loop-pieces.pieces.items t (pieces c.args.text.now) none c.loop-pieces.invariant.1
