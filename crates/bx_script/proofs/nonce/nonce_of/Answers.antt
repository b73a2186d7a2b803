use Rattle.std.proofs.Common.{sym, ◌∙◌}
use Rattle.bx_script.proofs.Nonces.{hexadecimal_is_text, nonce_from_parse}
use Rattle.bx_script.proofs.nonce.nonce_of.Goals as goal

pub returns-in-Ok : goal.returns-in-Ok
returns-in-Ok c =
    c.ok.ensures.value ∙ nonce_from_parse c.args.digits.now c.from_str_radix.result (rw c.in-Ok.ensures.cases.0 at c.from_str_radix.ensures.value) c.if-digits-ne-NONCE_DIGITS.false (sym c.are_hexadecimal.ensures ∙ c.if-not-are_hexadecimal.false)

pub returns-in-Err : goal.returns-in-Err
returns-in-Err c = absurd (c.in-Err.ensures.cases.0 (hexadecimal_is_text c.args.digits.now (sym c.are_hexadecimal.ensures ∙ c.if-not-are_hexadecimal.false)))
