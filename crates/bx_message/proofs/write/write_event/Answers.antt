use Rattle.std.proofs.Common.{codes, Some}
use Rattle.bx_message.specs.Texts.{text_member, raw_member}
use Rattle.bx_message.proofs.ObjectLemmas.{none_yet, adding, closed-holds}
use Rattle.bx_message.proofs.write.write_event.Goals as goal

pub returns : goal.returns
returns c =
    let e = c.args.event.now in
    let begun = none_yet c.in_ok-object.ensures in
    let channel = adding (text_member (codes "channel") (Some e.channel)) begun c.in_ok-text.ensures in
    let payload = adding (raw_member (codes "data") (Some e.payload)) channel (rw c.as_str.ensures at c.in_ok-raw.ensures) in
    let all = adding (raw_member (codes "id") e.id) payload c.in_ok-write_raw.ensures in
    rw (closed-holds all) at c.end.ensures
