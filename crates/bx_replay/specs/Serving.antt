-- The lines that a replay's server has processed, and what it printed for them.
use Rattle.std.specs.Prelude.{ℕ, ◌≡◌, ◌++◌, List, [], ◌∷◌, length, map, ⊤, Option, Some, None}
use Rattle.std.specs.{BTreeMap.get, Io.KnownBytes.Appends, Ordering.nat_cmp}
use Rattle.bx_replay.specs.Kept.{AllKept, AreKept, PrintsOuts, held_texts}
use Rattle.bx_replay.specs.declared.{kept.PendingLine.PendingLine, server.ReplayServer.ReplayServer}
use Rattle.bx_advice.specs.declared.config.Config.{Config}
use Rattle.bx_entry.specs.Words.{ReadInput, Out, held, outs}
use Rattle.bx_script.specs.Words.{Dialect, Line, Numbered, inputs_from, line_with, lines_in, nonce_at, meaning_of, with_nonces, AppendsFront}
use Rattle.bx_entry.specs.declared.Placing.{Ghosts}
use Rattle.bx_fanout.specs.Rounds.{added_by, inputs_of, setup_in}
use Rattle.bx_fanout.specs.declared.round.Round.{Round}
use Rattle.bx_theory.specs.Lines.{inputs_in, outs_text, printed_so_far}
use Rattle.bx_script.specs.declared.line.Line as script
use Rattle.bx_script.specs.declared.line.Line.TheVariants.{Bad, Rejected, Accepted, Resharded}

-- The lines that a replay's server has processed, in the form that the definitions use.
abbrev pub read_lines : List script.Line → List Line
read_lines ls = map meaning_of ls

-- The lines that a replay's server has processed, in the form that the definitions use. Each
-- request has its nonce.
abbrev pub seen_lines : List script.Line → List Line
seen_lines ls = with_nonces 0 (read_lines ls)

-- The line `l`, which follows the lines `ls`, in the form that the definitions use. A request has
-- its nonce.
abbrev pub seen_after : List script.Line → script.Line → Line
seen_after ls l = line_with (nonce_at (read_lines ls)) (meaning_of l)

-- The number of shards after a line, given the number before it.
abbrev pub shards_after : script.Line → ℕ → ℕ
shards_after (Resharded shards) before = shards
shards_after _ before = before

-- The output `after` is `before` followed by `text`, which is what the lines of `new` after those
-- of `old` print.
pub record Prints (config : Config) (old new : List script.Line) (before after : Option (List ℕ)) : Type 0 where
  pub text : List ℕ
  pub appends : Appends before after text
  pub is : printed_so_far config (seen_lines new) ≡ printed_so_far config (seen_lines old) ++ text

-- Printing failed: the output `after` is `before` followed by only a prefix of `text`. `text` is
-- what the lines of `new` after those of `old` print.
pub record PrintsFront (config : Config) (old new : List script.Line) (before after : Option (List ℕ)) : Type 0 where
  pub text : List ℕ
  pub front : AppendsFront before after text
  pub is : printed_so_far config (seen_lines new) ≡ printed_so_far config (seen_lines old) ++ text

-- If the text is known, its lines are `ls`, which were read, followed by the lines of the rest.
abbrev pub Reads : Dialect → Option (List ℕ) → Option (List ℕ) → List script.Line → Type 0
Reads dialect None new ls = ⊤
Reads dialect (Some xs) None ls = ⊥
Reads dialect (Some xs) (Some ys) ls = lines_in dialect xs ≡ read_lines ls ++ lines_in dialect ys

-- If the text is known, `ls` are all its lines.
abbrev pub IsAll : Dialect → Option (List ℕ) → List script.Line → Type 0
IsAll dialect None ls = ⊤
IsAll dialect (Some text) ls = read_lines ls ≡ lines_in dialect text

-- What is printed at the end for the inputs that are still held.
abbrev pub held_lines : Config → List script.Line → List ℕ
held_lines config ls = held_texts (inputs_from 1 (seen_lines ls)) (held config (inputs_in (seen_lines ls)))

-- `inputs` are those of the lines `ls`, and `added` are all their outs. What is kept belongs to
-- inputs, and each held input is kept. `number` is the number of lines.
pub record Served (config : Config) (ls : List Line) (inputs : List ReadInput) (added : List Out) (kept : ℕ → Option PendingLine) (number : ℕ) : Type 0 where
  pub inputs_are : inputs ≡ inputs_in ls
  pub added_are : added ≡ outs config (inputs_in ls)
  pub kept_are : AreKept (inputs_from 1 ls) kept
  pub all_are : AllKept kept (held config (inputs_in ls))
  pub number_is : number ≡ length ls

module _ {P : Type 0} {g : Ghosts P} where
  -- The round `new` is `old` after one more input, `one`. The outs that this added were printed:
  -- the output was `before`, and is `after`. `keeps` has what is still kept, which includes each
  -- held input.
  pub record Hands (old : Round P g) (one : Numbered) (new : Round P g) (before after : Option (List ℕ)) (kept keeps : ℕ → Option PendingLine) : Type 0 where
    pub more : List Out
    pub inputs : inputs_of new ≡ inputs_of old ++ one.input ∷ []
    pub added : added_by new ≡ added_by old ++ more
    pub all : added_by new ≡ outs (setup_in new).config (inputs_of new)
    pub setup : (setup_in new).config ≡ (setup_in old).config
    pub shards : (setup_in new).shards ≡ (setup_in old).shards
    pub held_are : AllKept keeps (held (setup_in new).config (inputs_of new))
    pub prints : (numbered : List Numbered) → length numbered ≡ length (inputs_of old) → AreKept numbered kept → PrintsOuts (numbered ++ one ∷ []) more before after keeps

  -- Printing failed after one more input, `one`, of the round `old`. The output `after` is `before`
  -- followed by only a prefix of the text of the outs that `one` adds.
  pub record HandsFront (old : Round P g) (one : Numbered) (before after : Option (List ℕ)) (kept : ℕ → Option PendingLine) : Type 0 where
    pub more : List Out
    pub adds : outs (setup_in old).config (inputs_of old ++ one.input ∷ []) ≡ outs (setup_in old).config (inputs_of old) ++ more
    pub prints : (numbered : List Numbered) → length numbered ≡ length (inputs_of old) → AreKept numbered kept → AppendsFront before after (outs_text (numbered ++ one ∷ []) more)

  -- The server `s` has run the inputs of its lines, and keeps something of each held input. It has
  -- the nonce of the next request.
  pub record Serves (s : ReplayServer P g) : Type 0 where
    pub served : Served (setup_in s.round).config (seen_lines s.lines) (inputs_of s.round) (added_by s.round) (get nat_cmp s.kept) s.number
    pub nonce_is : s.nonce ≡ nonce_at (read_lines s.lines)
