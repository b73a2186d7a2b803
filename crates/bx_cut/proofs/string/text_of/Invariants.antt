use Rattle.std.proofs.Common.{◌≡◌, length, string_bytes}
use denote.Text.{Utf8}
use denote.Shadow.{shadow}
use Rattle.json.specs.Text.{content, plain, prepend}
use Rattle.bx_cut.specs.Strings.{spelled}
use Rattle.bx_cut.proofs.string.text_of.Given as goal

abbrev pub invariant-loop-text : goal.invariant-loop-text
invariant-loop-text l = shadow (Utf8 l.rest) × (spelled l.value ≡ prepend (string_bytes l.text) (content plain l.rest))

abbrev pub decreases-loop-text : goal.decreases-loop-text
decreases-loop-text l = length l.rest
