use Rattle.std.proofs.Common.{◌≡◌, ◌+◌, ◌-◌, List, ℕ, sym, ◌∙◌, subst, arith}
use Rattle.std.specs.{Str.IsCharBoundary}
use Rattle.std.proofs.lemmas.{Str.IsCharBoundary-after_ascii, Grind.common_steps}
use Rattle.bx_cut.proofs.Contents.{at-quote, at-backslash, at-fault}
use Rattle.bx_cut.proofs.string.next_part.Goals as goal

pub returns-then-begins_with : goal.returns-then-begins_with
returns-then-begins_with c = at-quote c.args.text.now (sym c.begins_with.ensures ∙ c.if-begins_with.true)

pub returns-in_default : goal.returns-in_default
returns-in_default c = at-fault c.args.text.now c.requires (sym c.begins_with.ensures ∙ c.if-begins_with.false) c.in_default.ensures.value

pub returns-in-None : goal.returns-in-None
returns-in-None c = grind (arith, common_steps, at-backslash)

pub split_at-requires : goal.split_at-requires
split_at-requires c =
    let e = c.in-Some-escape.ensures in
    let len = c.in-Some-escape.len in
    let bytes = c.as_bytes.result.now in
    let back : len - 1 + 1 ≡ len = omega (arith, e.1) in
    subst (λ (s : List ℕ). IsCharBoundary s len) c.as_bytes.ensures.value
    (subst (IsCharBoundary bytes) back (IsCharBoundary-after_ascii bytes (len - 1) c.as_bytes.ensures.utf8 (omega (arith, e.1, e.2)) e.3))

pub returns-in-Some-escape : goal.returns-in-Some-escape
returns-in-Some-escape c = grind (arith, common_steps, at-backslash)
