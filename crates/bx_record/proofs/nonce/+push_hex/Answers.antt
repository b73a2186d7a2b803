use Rattle.bx_record.proofs.Digits.{digits_pushed}
use Rattle.bx_record.proofs.nonce.+push_hex.Goals as goal

pub returns : goal.returns
returns t c =
    digits_pushed c.args.text.now.items c.push_hex.new.text.items _ c.args.width c.args.number c.hex_digit.result c.if-width-eq0.false c.in_ok-push_hex.ensures c.hex_digit.ensures c.in_ok-push.ensures.items
