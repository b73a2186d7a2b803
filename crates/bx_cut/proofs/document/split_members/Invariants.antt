use Rattle.std.proofs.Common.{◌≡◌, ◌++◌, length, map}
use denote.Text.{Utf8}
use denote.Shadow.{shadow}
use Rattle.bx_cut.specs.Words.{IsRest, listed, split_member, member_view}
use Rattle.bx_cut.proofs.document.split_members.Given as goal

abbrev pub invariant-loop-member : goal.invariant-loop-member
invariant-loop-member l =
    shadow (Utf8 l.rest) × IsRest l.rest l.text × ((map member_view l.members.items ++ (listed split_member l.rest).0, (listed split_member l.rest).1) ≡ listed split_member l.text)

abbrev pub decreases-loop-member : goal.decreases-loop-member
decreases-loop-member l = length l.rest
