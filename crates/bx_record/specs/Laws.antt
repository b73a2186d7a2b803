-- What is read from a record: the configuration in its first line, and the inputs in the others.
use Rattle.std.specs.Prelude.{ℕ, ◌^◌, ◌<◌, ◌≡◌, Bool, true, false, List, [], ◌∷◌, ◌++◌, map, take, if◌then◌else◌, is_ok, Some, None}
use Rattle.std.specs.List.{list_all, AllByRecursion}
use Rattle.bx_advice.specs.declared.{config.Config.Config, limit.TheConstants.Limit.ALL}
use Rattle.bx_advice.specs.Limits.{accepts, limit_of, standard_limits}
use Rattle.bx_cut.specs.Bodies.{texts_of}
use Rattle.bx_entry.specs.declared.{input.Arrival.Arrival, input.Input.Input, input.Input.TheVariants.Post, input.Input.TheVariants.Tick}
use Rattle.bx_entry.specs.Words.{arrival_messages, held, outs, read_input}
use Rattle.bx_script.specs.Words.{Accepted, Announced, Line, Noted, Recorded, first_of, is_newline, line_of, lines_in, rest_of, with_nonces}
use Rattle.bx_theory.specs.Lines.{inputs_in}
use Rattle.bx_record.specs.Configs.{config_text, recorded_config}
use Rattle.bx_record.specs.Answers.{Given, IsSha256, Part, Taken, answer_text, record_with, taken_inputs}
use Rattle.bx_record.specs.Record.{can_say, record_of, as_recorded}

-- ---- Inputs

-- Lines can express the request `a`. Its messages are readable, its listener allows them, and its
-- documents fit in a line. Its moment has at most 64 bits, and its nonce at most 128.
pub record IsRecordable (a : Arrival) : Type 0 where
  pub moment : a.moment < 2 ^ 64
  pub nonce : a.nonce < 2 ^ 128
  pub readable : is_ok (arrival_messages a) ≡ true
  pub sayable : can_say (texts_of a.bodies) ≡ true

-- A record can have the input. This holds for a request that lines can express, and for a tick with
-- a moment below 2^64.
abbrev pub CanRecord : Input → Type 0
CanRecord (Post a) = IsRecordable a
CanRecord (Tick moment) = moment < 2 ^ 64

-- Whether a line is an input without a callback, or a nonce.
abbrev pub is_of_record : Line → Bool
is_of_record (Accepted None input) = true
is_of_record (Announced nonce) = true
is_of_record line = false

-- The lines of a text that is read as a record, each request with its nonce.
abbrev pub record_lines : List ℕ → List Line
record_lines text = with_nonces 0 (lines_in Recorded text)

-- The lines that are read from the record of the inputs, each request with its nonce.
abbrev pub recorded_lines : List Input → List Line
recorded_lines inputs = record_lines (record_of inputs)

-- The lines read from the record of `inputs` are `inputs`, in order, and otherwise only nonces. An
-- input that does not use its nonce is read with nonce 0.
pub record ReadsBack (inputs : List Input) : Type 0 where
  pub inputs_are : inputs_in (recorded_lines inputs) ≡ map (λ input. as_recorded (read_input input)) inputs
  pub nothing_else : list_all is_of_record (recorded_lines inputs) ≡ true

-- If a record can have the inputs, reading their record gives them back, in order.
abbrev pub RecordsReadBack : Type 0
RecordsReadBack = (inputs : List Input) → AllByRecursion CanRecord inputs → ReadsBack inputs

-- Under `config`, the inputs read from the record of `inputs` have the same outs as `inputs`: the
-- same responses and rejections. The same inputs are not completely answered at the end.
pub record AnswersAlike (config : Config) (inputs : List Input) : Type 0 where
  pub outs_are : outs config (inputs_in (recorded_lines inputs)) ≡ outs config (map read_input inputs)
  pub held_are : held config (inputs_in (recorded_lines inputs)) ≡ held config (map read_input inputs)

-- Under every configuration, the inputs read from a record are answered as the recorded ones.
abbrev pub RecordsAnswerAlike : Type 0
RecordsAnswerAlike = (config : Config) (inputs : List Input) → AllByRecursion CanRecord inputs → AnswersAlike config inputs

-- ---- Answers

-- The reader of a record skips the first line of `text`, and `rest` follows that line.
pub record SaysAnswer (text rest : List ℕ) : Type 0 where
  pub noted : line_of Recorded (first_of text) ≡ Noted
  pub left : rest_of text ≡ rest

-- The line of an answer is skipped, whatever follows it.
abbrev pub AnswersAreSkipped : Type 0
AnswersAreSkipped = (place : ℕ) (digest rest : List ℕ) → place < 2 ^ 64 → IsSha256 digest → SaysAnswer (answer_text place digest ++ rest) rest

-- A record can have the part: an input that a record can have, or the line of an answer. The line
-- must have a place below 2^64 and a digest of 32 bytes.
abbrev pub CanStand : Part → Type 0
CanStand (Taken input) = CanRecord input
CanStand (Given place digest) = (place < 2 ^ 64) × IsSha256 digest

-- Whether a line is an input without a callback, a nonce, or the line of an answer.
abbrev pub is_of_either : Line → Bool
is_of_either Noted = true
is_of_either line = is_of_record line

-- Reading the record with `parts` gives the inputs among `parts`, in order. All other lines are
-- nonces and answers. Under every configuration, the inputs that are read have the same outs as
-- those among `parts`. The same inputs are not completely answered at the end.
pub record ReadsWith (parts : List Part) : Type 0 where
  pub inputs_are : inputs_in (record_lines (record_with parts)) ≡ map (λ input. as_recorded (read_input input)) (taken_inputs parts)
  pub nothing_else : list_all is_of_either (record_lines (record_with parts)) ≡ true
  pub outs_are : (config : Config) → outs config (inputs_in (record_lines (record_with parts))) ≡ outs config (map read_input (taken_inputs parts))
  pub held_are : (config : Config) → held config (inputs_in (record_lines (record_with parts))) ≡ held config (map read_input (taken_inputs parts))

-- Lines of answers between inputs change neither which inputs are read nor how they are answered.
abbrev pub AnswersChangeNothing : Type 0
AnswersChangeNothing = (parts : List Part) → AllByRecursion CanStand parts → ReadsWith parts

-- ---- Truncated records

-- The complete lines of a text, given its first byte and the complete lines after that byte. If
-- there are no lines after it, the byte is dropped unless it is a newline.
abbrev pub ended_by : ℕ → List ℕ → List ℕ
ended_by byte [] = if is_newline byte then byte ∷ [] else []
ended_by byte (x ∷ xs) = byte ∷ x ∷ xs

-- The complete lines of a text: its bytes up to and including the last newline.
abbrev pub ended_lines : List ℕ → List ℕ
ended_lines [] = []
ended_lines (x ∷ xs) = ended_by x (ended_lines xs)

-- The complete lines of `front`, the beginning of a record, are the first `count` of `inputs`, in
-- order, and otherwise only nonces.
pub record ReadsUpTo (inputs : List Input) (front : List ℕ) : Type 0 where
  pub count : ℕ
  pub inputs_are : inputs_in (record_lines (ended_lines front)) ≡ map (λ input. as_recorded (read_input input)) (take count inputs)
  pub nothing_else : list_all is_of_record (record_lines (ended_lines front)) ≡ true

-- Wherever a record is truncated, its complete lines give a prefix of its inputs, and otherwise
-- only nonces.
abbrev pub RecordsBreakOff : Type 0
RecordsBreakOff = (inputs : List Input) (front behind : List ℕ) → AllByRecursion CanRecord inputs → front ++ behind ≡ record_of inputs → ReadsUpTo inputs front

-- The complete lines of `front`, the beginning of a record with answers, give the inputs among the
-- first `count` of `parts`, in order. All other complete lines are nonces and answers.
pub record ReadsWithUpTo (parts : List Part) (front : List ℕ) : Type 0 where
  pub count : ℕ
  pub inputs_are : inputs_in (record_lines (ended_lines front)) ≡ map (λ input. as_recorded (read_input input)) (taken_inputs (take count parts))
  pub nothing_else : list_all is_of_either (record_lines (ended_lines front)) ≡ true

-- Wherever a record with answers is truncated, its complete lines give a prefix of its inputs, and
-- otherwise only nonces and answers.
abbrev pub AnswersBreakOff : Type 0
AnswersBreakOff = (parts : List Part) (front behind : List ℕ) → AllByRecursion CanStand parts → front ++ behind ≡ record_with parts → ReadsWithUpTo parts front

-- ---- The configuration

-- A record's first line can give `c`: its times are below 2^32, its limits have values that can be
-- configured, and those that cannot be configured are the default ones.
pub record CanSay (c : Config) : Type 0 where
  pub times : (c.timeout < 2 ^ 32) × (c.interval < 2 ^ 32) × (c.max_interval < 2 ^ 32)
  pub limits : AllByRecursion (λ limit. accepts limit (limit_of limit c.limits) ≡ true) ALL
  pub batch : c.limits.batch ≡ standard_limits.batch
  pub texts : c.limits.texts ≡ standard_limits.texts

-- The first line of `text` gives `c`, and `rest` follows that line.
pub record SaysConfig (c : Config) (text rest : List ℕ) : Type 0 where
  pub config : recorded_config text ≡ Some c
  pub left : rest_of text ≡ rest

-- The line of a configuration gives this configuration, whatever text follows the line.
abbrev pub ConfigsReadBack : Type 0
ConfigsReadBack = (c : Config) (rest : List ℕ) → CanSay c → SaysConfig c (config_text c ++ rest) rest
