-- Proves that a search finds out whether a text has a newline.
use Rattle.std.proofs.Common.{◌≡◌, ℕ, false, List, Option, Some, None, is_some, sym, arith}
use Rattle.std.specs.List.{list_any}
use Rattle.std.proofs.lemmas.{Bool.false_from_ne_true, List.Elements.All-from_get_or, List.Folds.list_any_none, List.Folds.list_any_at}
use Rattle.memchr.specs.Find.{IsFirstByte, is_byte}
use Rattle.bx_script.specs.Words.{is_newline}

pub newline_found : (text : List ℕ) (r : Option ℕ) → IsFirstByte (is_byte 10) text r → is_some r ≡ list_any is_newline text
newline_found text None none =
    sym (list_any_none is_newline text (All-from_get_or (λ x. is_newline x ≡ false) text 0 (λ k inside. false_from_ne_true _ (none k (omega arith) inside))))
newline_found text (Some k) found = sym (list_any_at is_newline text k 0 found.0.high found.1)
