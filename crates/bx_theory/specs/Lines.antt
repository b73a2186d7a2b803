-- What a replay prints for a script's first lines, for one more line, and at the end.
use Rattle.std.specs.Prelude.{ℕ, ◌+◌, ◌<◌, ◌≡◌, Bool, true, false, List, [], ◌∷◌, ◌++◌, length, map, flat_map, slice_get, codes, decimal, ⊤}
use Rattle.std.specs.List.{list_all}
use Rattle.bx_advice.specs.declared.config.Config.{Config}
use Rattle.bx_entry.specs.Words.{ReadInput, Out, wholes, outs, held}
use Rattle.bx_script.specs.Replay.{Dialect, Line, Bad, Rejected, Accepted, Resharded, Announced, Noted, Numbered, Script, inputs_from, line_of, line_text, line_with, nonce_at, out_by, printed_from, printed, held_text, with_nonces}

-- The inputs among these lines of a script, in order.
abbrev pub inputs_in : List Line → List ReadInput
inputs_in ls = map (λ (n : Numbered). n.input) (inputs_from 1 ls)

-- What a replay prints for these lines, without the lines for held inputs at the end.
abbrev pub printed_so_far : Config → List Line → List ℕ
printed_so_far config ls = printed_from (wholes config (inputs_in ls)) (inputs_from 1 ls) 1 0 ls

-- If the line is an input, the input appends the outs `more` after those of `inputs`. Nothing is
-- claimed of other lines.
abbrev pub AddsOuts : Config → List ReadInput → Line → List Out → Type 0
AddsOuts config inputs (Accepted callback input) more = outs config (inputs ++ input ∷ []) ≡ outs config inputs ++ more
AddsOuts config inputs _ more = ⊤

-- What a replay prints for the outs `os`. `numbered`: the run's inputs, with the numbers of their
-- lines.
abbrev pub outs_text : List Numbered → List Out → List ℕ
outs_text numbered os = flat_map (λ (o : Out). out_by o (slice_get numbered o.input)) os

-- What line `number` prints: `bad`, the status of a rejected body or query, or the outs `more` that
-- its input appends. Other lines print nothing.
abbrev pub line_prints : ℕ → List Numbered → Line → List Out → List ℕ
line_prints number numbered Bad more = line_text number (codes "bad")
line_prints number numbered (Rejected status) more = line_text number (decimal status)
line_prints number numbered (Accepted callback input) more = outs_text numbered more
line_prints number numbered (Resharded shards) more = []
line_prints number numbered (Announced nonce) more = []
line_prints number numbered Noted more = []

-- The input of the next line, if any, comes after the inputs of the earlier lines.
abbrev pub InputsGoOn : Type 0
InputsGoOn = (ls : List Line) (l : Line) → inputs_from 1 (ls ++ l ∷ []) ≡ inputs_from 1 ls ++ inputs_from (length ls + 1) (l ∷ [])

-- What the next line prints comes after what the earlier lines print.
abbrev pub LinesGoOn : Type 0
LinesGoOn = (config : Config) (ls : List Line) (l : Line) (more : List Out) → 0 < config.limits.batch → AddsOuts config (inputs_in ls) l more →
    printed_so_far config (ls ++ l ∷ []) ≡ printed_so_far config ls ++ line_prints (length ls + 1) (inputs_from 1 (ls ++ l ∷ [])) l more

-- A replay prints the lines of held inputs after everything else.
abbrev pub HeldComeLast : Type 0
HeldComeLast = (config : Config) (ls : List Line) →
    printed config (inputs_from 1 ls) ls ≡ printed_so_far config ls ++ flat_map (λ index. held_text (slice_get (inputs_from 1 ls) index)) (held config (inputs_in ls))

-- Whether a line announces no nonce.
abbrev pub says_no_nonce : Line → Bool
says_no_nonce (Announced nonce) = false
says_no_nonce _ = true

-- The request of the next line gets the nonce that the earlier lines leave. The requests of the
-- earlier lines keep their nonces.
abbrev pub NoncesGoOn : Type 0
NoncesGoOn = (ls : List Line) (l : Line) → with_nonces 0 (ls ++ l ∷ []) ≡ with_nonces 0 ls ++ line_with (nonce_at ls) l ∷ []

-- If no line announces a nonce, all lines stay as they are read.
abbrev pub NoncesStay : Type 0
NoncesStay = (dialect : Dialect) (texts : List (List ℕ)) → list_all says_no_nonce (map (line_of dialect) texts) ≡ true →
    with_nonces 0 (map (line_of dialect) texts) ≡ map (line_of dialect) texts

-- No line of a script announces a nonce.
abbrev pub ScriptsSayNone : Type 0
ScriptsSayNone = (text : List ℕ) → says_no_nonce (line_of Script text) ≡ true
