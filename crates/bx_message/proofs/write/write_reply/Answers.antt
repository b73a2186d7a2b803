use Rattle.std.proofs.Common.{codes, Some}
use Rattle.bx_message.specs.Texts.{text_member, raw_member, advice_member, error_member, ack_member, success_text, handshake_members}
use Rattle.bx_message.proofs.ObjectLemmas.{none_yet, adding, closed-holds}
use Rattle.bx_message.proofs.write.write_reply.Goals as goal

pub returns : goal.returns
returns c =
    let r = c.args.reply.now in
    let begun = none_yet c.in_ok-object.ensures in
    let advice = adding (advice_member r.advice) begun c.in_ok-write_advice.ensures in
    let channel = adding (text_member (codes "channel") (Some r.channel)) advice c.in_ok-text.ensures in
    let client = adding (text_member (codes "clientId") r.client) channel c.in_ok-write_text.ensures in
    let error = adding (error_member r.outcome) client c.in_ok-write_error.ensures in
    let ack = adding (ack_member r.ack) error c.in_ok-write_ack.ensures in
    let id = adding (raw_member (codes "id") r.id) ack c.in_ok-write_raw.ensures in
    let subscription = adding (raw_member (codes "subscription") r.subscription) id c.in_ok-write_raw-2.ensures in
    let successful = adding (raw_member (codes "successful") (Some (success_text r.outcome))) subscription (rw c.success_text.ensures at c.in_ok-raw.ensures) in
    let all = adding (handshake_members r.message_kind) successful c.in_ok-write_handshake.ensures in
    rw (closed-holds all) at c.end.ensures
