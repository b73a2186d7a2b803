use Rattle.std.proofs.Common.{◌≡◌, ℕ, List, map, option_map, take}
use Rattle.std.specs.Borrow.{Bor}
use Rattle.bx_cut.specs.Words.{last_member, member_view}
use Rattle.bx_cut.proofs.document.Piece.member.Given as goal

abbrev pub invariant-loop-member : goal.invariant-loop-member
invariant-loop-member l = option_map (λ (x : Bor (List ℕ)). x.now) l.found ≡ last_member l.name (map member_view (take l.member-index l.member-items))
