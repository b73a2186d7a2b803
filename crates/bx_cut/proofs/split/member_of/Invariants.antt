use Rattle.std.proofs.Common.{◌≡◌, List, ◌++◌, length, option_map}
use denote.Text.{Utf8}
use denote.Shadow.{shadow}
use Rattle.bx_cut.specs.Words.{Member, listed, split_member, members, last_member}
use Rattle.bx_cut.proofs.split.member_of.Given as goal

abbrev pub invariant-loop-member : goal.invariant-loop-member
invariant-loop-member l =
    shadow (Utf8 l.rest) × ((seen : List Member) × (seen ++ (listed split_member l.rest).0 ≡ members l.object) × (option_map (λ value. value.now) l.found ≡ last_member l.name seen))

abbrev pub decreases-loop-member : goal.decreases-loop-member
decreases-loop-member l = length l.rest
