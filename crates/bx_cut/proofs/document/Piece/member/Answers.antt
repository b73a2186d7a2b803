use Rattle.std.proofs.Common.{◌≡◌, ℕ, ◌+◌, cond, List, [], ◌∷◌, ◌++◌, Some, option_map, map, take, get_or, sym, ap, ◌∙◌, arith}
use Rattle.std.proofs.lemmas.{Grind.common_steps, List.map-append, List.take_more}
use Rattle.std.specs.Borrow.{Bor}
use Rattle.bx_cut.specs.Words.{last_member, member_view}
use Rattle.bx_cut.specs.declared.split.Member as code
use Rattle.bx_cut.proofs.Names.{one_more}
use Rattle.bx_cut.proofs.document.Piece.member.Goals as goal

abbrev nothing : Bor (List ℕ)
nothing = record { ref_ptr = (0, 0); now = [] }

abbrev no_member : code.Member
no_member = record { key = nothing; value = nothing }

pub loop-member-preserved : goal.loop-member-preserved
loop-member-preserved c =
    let items = c.deref-member-items.result.now in
    let i = c.loop-member.member-index in
    let m = member_view (get_or items i no_member) in
    let seen = map member_view (take i items) in
    let before = option_map (λ (x : Bor (List ℕ)). x.now) c.loop-member.found in
    let after = option_map (λ (x : Bor (List ℕ)). x.now) c.if-spells.found in
    let step : after ≡ cond c.spells.result (Some m.1) before = grind (arith, common_steps) in
    let taken : map member_view (take (i + 1) items) ≡ seen ++ m ∷ [] =
    ap (map member_view) (take_more items i no_member (omega arith)) ∙ map-append member_view (take i items) (get_or items i no_member ∷ []) in
    one_more c.args.name.now seen m before after c.spells.result c.spells.ensures.value c.loop-member.invariant step ∙ ap (last_member c.args.name.now) (sym taken)
