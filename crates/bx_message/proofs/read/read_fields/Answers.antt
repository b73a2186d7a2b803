use Rattle.std.proofs.Common.{refl}
use Rattle.bx_message.proofs.read.read_fields.Goals as goal

pub returns : goal.returns
returns c =
    rw (c.channel.view_is, c.texts.view_is, c.in_ok-texts.ensures.texts, c.in_ok-texts.ensures.listed, c.in_ok-id_member.ensures, c.in_ok-text_member.ensures, c.in_ok-text_member-2.ensures, c.in_ok-listed_texts.ensures, c.member.ensures, c.in_ok-text_member-3.ensures, c.in_ok-copy_of.ensures, c.member-subscription.ensures, c.in_ok-copy_of-2.ensures, c.member-2.ensures, c.ack_member.ensures, c.timeout_member.ensures) refl
