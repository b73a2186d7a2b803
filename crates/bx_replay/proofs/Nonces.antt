-- Proves which nonce the next request of a script has.
use Rattle.std.proofs.Common.{◌≡◌, ℕ, List, [], ◌∷◌, ◌++◌, sym, ap, ◌∙◌}
use Rattle.std.proofs.lemmas.{List.map-append, List.Sums.fold-append}
use Rattle.bx_script.specs.Words.{nonce_at, nonce_after, meaning_of}
use Rattle.bx_script.specs.declared.line.Line as script
use Rattle.bx_replay.specs.Serving.{read_lines}

pub nonce_more : (ls ms : List script.Line) (l k : script.Line) (nonce : ℕ) → ms ≡ ls ++ l ∷ [] → l ≡ k → nonce ≡ nonce_after (nonce_at (read_lines ls)) (meaning_of k) → nonce ≡ nonce_at (read_lines ms)
nonce_more ls ms l k nonce e is n =
    let same : ms ≡ ls ++ k ∷ [] = e ∙ ap (λ (x : script.Line). ls ++ x ∷ []) is in
    n ∙ sym (ap (λ (us : List script.Line). nonce_at (read_lines us)) same ∙ ap nonce_at (map-append meaning_of ls (k ∷ [])) ∙ fold-append nonce_after 0 (read_lines ls) (meaning_of k ∷ []))
