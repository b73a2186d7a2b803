-- Values of the code's types as the definitions represent them.
use Rattle.bx_cut.specs.Cut as cut
use Rattle.bx_cut.specs.declared.split.Member.{Member}

abbrev pub member_view : Member → cut.Member
member_view m = (m.key.now, m.value.now)
