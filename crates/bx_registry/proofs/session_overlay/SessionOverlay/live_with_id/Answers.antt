use Rattle.std.proofs.Common.{◌≡◌, List, ℕ, Bool, true, false, ap, sym, subst, ◌∙◌, arith}
use Rattle.std.specs.Prelude.{Option, Some, None}
use Rattle.std.proofs.lemmas.{Slice.Eq.bytes_eq-Decides, Grind.common_steps}
use Rattle.bx_entry.specs.Registry.{live_with_id}
use Rattle.bx_roster.specs.Tables.{client_and_ack_of}
use Rattle.bx_registry.specs.Words.{number_in, Overlay, IsOverlay, IsSender, members_of}
use Rattle.bx_registry.proofs.Digits.{Finds, finds}
use Rattle.bx_registry.proofs.session_overlay.SessionOverlay.live_with_id.Goals as goal

found : (d seen : Overlay) (text : List ℕ) (number : ℕ) {count opened : ℕ} → IsOverlay d.base d.edits count opened → d ≡ seen → number ≡ number_in text → Finds (members_of seen).live text (client_and_ack_of number (members_of seen).live)
found d seen text number i same e = grind (arith, common_steps, finds)

none-some : (o : Option (List ℕ × Bool)) (k : List ℕ × Bool) → None ≡ o → o ≡ Some k → ⊥
none-some o k e f = cc

some-same : (o : Option (List ℕ × Bool)) (known k : List ℕ × Bool) → Some known ≡ o → o ≡ Some k → known ≡ k
some-same o known k e f = cc

pub returns-in_err-known : goal.returns-in_err-known
returns-in_err-known c =
    let finds = found (record { base = c.self.inside.table.now.members; edits = c.self.inside.edits }) c.args.self.now c.args.client.now c.number_in-number.result c.self.invariant c.self.view_is (c.number_in-number.ensures ∙ ap number_in c.as_str.ensures) in
    rw c.from_residual.ensures (finds.1 (λ k e is. none-some (client_and_ack_of c.number_in-number.result (members_of c.args.self.now).live) k c.in_err-known.ensures e))

pub returns-then-eq : goal.returns-then-eq
returns-then-eq c =
    let text : List ℕ = c.args.client.now in
    let finds = found (record { base = c.self.inside.table.now.members; edits = c.self.inside.edits }) c.args.self.now c.args.client.now c.number_in-number.result c.self.invariant c.self.view_is (c.number_in-number.ensures ∙ ap number_in c.as_str.ensures) in
    let same : c.as_str-2.result.now ≡ c.as_str-3.result.now = (bytes_eq-Decides c.as_str-2.result.now c.as_str-3.result.now).0 (sym c.if-eq.ensures) in
    let known : c.in_ok-known.known.client.now ≡ text = sym c.as_str-2.ensures ∙ same ∙ c.as_str-3.ensures in
    subst (λ (k : ℕ). IsSender (live_with_id (members_of c.args.self.now).live text) k text c.in_ok-known.known.ack) (sym (c.number_in-number.ensures ∙ ap number_in c.as_str.ensures))
    (finds.0 (c.in_ok-known.known.client.now, c.in_ok-known.known.ack) (sym c.in_ok-known.ensures) known)

pub returns-else-eq : goal.returns-else-eq
returns-else-eq c =
    let finds = found (record { base = c.self.inside.table.now.members; edits = c.self.inside.edits }) c.args.self.now c.args.client.now c.number_in-number.result c.self.invariant c.self.view_is (c.number_in-number.ensures ∙ ap number_in c.as_str.ensures) in
    finds.1 (λ k e is.
    let whole : (c.in_ok-known.known.client.now, c.in_ok-known.known.ack) ≡ k =
    some-same (client_and_ack_of c.number_in-number.result (members_of c.args.self.now).live) (c.in_ok-known.known.client.now, c.in_ok-known.known.ack) k c.in_ok-known.ensures e in
    let known : c.in_ok-known.known.client.now ≡ c.args.client.now = ap (λ (x : List ℕ × Bool). x.0) whole ∙ is in
    let same : c.as_str-2.result.now ≡ c.as_str-3.result.now = c.as_str-2.ensures ∙ known ∙ sym c.as_str-3.ensures in
    let yes : true ≡ false = sym ((bytes_eq-Decides c.as_str-2.result.now c.as_str-3.result.now).1 same) ∙ sym c.if-eq.ensures in
    cc)
