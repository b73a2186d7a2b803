use Rattle.std.proofs.Common.{arith, ap, sym, drop, length, ◌-◌, ◌∙◌, ◌≤◌, length-drop}
use Rattle.std.proofs.lemmas.List.{drop_all, take_all}
use Rattle.bx_registry.specs.Ids.{hex_value}
use Rattle.bx_registry.proofs.id.number_in.Goals as goal

pub returns-then-id-lt-NONCE_DIGITS : goal.returns-then-id-lt-NONCE_DIGITS
returns-then-id-lt-NONCE_DIGITS c = ap hex_value (sym (drop_all 32 c.args.client.now (omega arith)))

pub returns-else-id-lt-NONCE_DIGITS : goal.returns-else-id-lt-NONCE_DIGITS
returns-else-id-lt-NONCE_DIGITS c =
    let id = c.as_bytes-id.result.now in
    let whole : length (drop 32 id) ≤ length id - 32 = omega (arith, length-drop 32 id) in
    c.hex_value.ensures ∙ ap hex_value (take_all (length id - 32) (drop 32 id) whole) ∙ ap (λ bytes. hex_value (drop 32 bytes)) c.as_bytes-id.ensures.value
