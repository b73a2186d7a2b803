use Rattle.std.proofs.Common.{[], ◌∷◌, ap, ◌∙◌, codes, decimal}
use Rattle.json.specs.Print.{quoted}
use Rattle.bx_message.specs.Objects.{resumed}
use Rattle.bx_message.specs.Texts.{member, number_member, reconnect_text, advice_text}
use Rattle.bx_message.proofs.ObjectLemmas.{none_yet, adding, closed-holds, resumed-with_name}
use Rattle.bx_message.proofs.write.write_advice.Goals as goal

pub returns : goal.returns
returns c =
    let a = c.in-Some.advice in
    let begun = none_yet c.in_ok-open.ensures in
    let interval = adding (member (codes "interval") (decimal a.interval) ∷ []) begun (rw c.from.ensures at c.in_ok-number.ensures) in
    let reconnect = adding (member (codes "reconnect") (quoted (reconnect_text a.reconnect)) ∷ []) interval (rw c.reconnect_text.ensures.text at c.in_ok-word.ensures) in
    let all = adding (number_member (codes "timeout") a.timeout) reconnect c.in_ok-write_number.ensures in
    rw c.in-Some.is (rw (ap resumed (closed-holds all) ∙ resumed-with_name c.args.object.now (codes "advice") (advice_text a)) at c.close.ensures)
