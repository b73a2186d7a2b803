-- What a server keeps of a session: all that the rules read, without history.
use Rattle.std.specs.Prelude.{ℕ, ◌≡◌, ◌<◌, ◌≤◌, Bool, true, false, List, [], ◌++◌, length, fold, Option, is_some}
use Rattle.bx_names.specs.Globs.{Glob}
use Rattle.bx_advice.specs.declared.config.Config.{Config}
use Rattle.bx_entry.specs.declared.entry.Entry.{Entry}
use Rattle.bx_entry.specs.Windows.{bytes_of}
use Rattle.bx_entry.specs.Sessions.{Session, Publication, Pending, Filed, Stage, unopened, step, session}

-- ---- State

-- A session without its history: `events`, `done` and `answers`.
pub record Kept : Type 0 where
  pub number : ℕ
  pub stage : Stage
  pub ack : Bool
  pub overflow : Bool
  pub held : Option Pending
  pub patterns : List Glob
  pub queue : List Publication
  pub out : ℕ
  pub num : ℕ

-- What a server keeps of a session: all but its history (`events`, `done` and `answers`).
abbrev pub kept : Session → Kept
kept s = record {
  number = s.number;
  stage = s.stage;
  ack = s.ack;
  overflow = s.overflow;
  held = s.held;
  patterns = s.patterns;
  queue = s.queue;
  out = s.out;
  num = s.num;
}

-- A session with the kept state `k` and an empty history.
abbrev pub resumed : Kept → Session
resumed k = record {
  number = k.number;
  stage = k.stage;
  ack = k.ack;
  overflow = k.overflow;
  held = k.held;
  patterns = k.patterns;
  queue = k.queue;
  out = k.out;
  num = k.num;
  events = [];
  done = 0;
  answers = [];
}

-- What is kept of a session after `change`, if `k` is kept of it before.
abbrev pub after : (Session → Session) → Kept → Kept
after change k = kept (change (resumed k))

-- The answers that `change` gives to a session, if `k` is kept of the session before.
abbrev pub answers_of : (Session → Session) → Kept → List Filed
answers_of change k = (change (resumed k)).answers

-- What is kept of a session after entry `e`, if `k` is kept of it before.
abbrev pub kept_step : Config → Kept → Entry → Kept
kept_step config k e = after (λ s. step config s e) k

-- The answers that entry `e` gives to a session, if `k` is kept of the session before.
abbrev pub kept_answers : Config → Kept → Entry → List Filed
kept_answers config k e = answers_of (λ s. step config s e) k

-- ---- Laws

-- What is kept determines what is kept after an entry, and the answers that the entry gives.
pub record StepsAlike (config : Config) (s : Session) (e : Entry) : Type 0 where
  pub state : kept (step config s e) ≡ kept_step config (kept s) e
  pub answers : (step config s e).answers ≡ s.answers ++ kept_answers config (kept s) e

-- What is kept is enough to apply any entry to any session.
abbrev pub KeptSteps : Type 0
KeptSteps = (config : Config) (s : Session) (e : Entry) → StepsAlike config s e

-- What is kept of session `number` after the entries `es`, computed from nothing but what is kept.
abbrev pub kept_run : Config → ℕ → List Entry → Kept
kept_run config number es = fold (kept_step config) (kept (unopened number)) es

-- Applying the entries to what is kept gives what is kept of the session after them.
abbrev pub KeptRuns : Type 0
KeptRuns = (config : Config) (number : ℕ) (es : List Entry) → kept (session config number es) ≡ kept_run config number es

-- ---- Bounds

-- The queue and the outstanding batch are within their limits, and the batch is the front of the
-- queue. A session that does not acknowledge has no batch. While a connect is held, the queue is
-- empty.
pub record InBounds (config : Config) (k : Kept) : Type 0 where
  pub queue : length k.queue ≤ config.limits.events
  pub bytes : bytes_of k.queue ≤ config.limits.bytes
  pub batch : k.out ≤ config.limits.batch
  pub front : k.out ≤ length k.queue
  pub plain : k.ack ≡ false → k.out ≡ 0
  pub idle : is_some k.held ≡ true → k.queue ≡ []

-- What is kept of a session after any entries is `InBounds`, if the limit `batch` is at least 1.
abbrev pub KeptInBounds : Type 0
KeptInBounds = (config : Config) (number : ℕ) (es : List Entry) → 0 < config.limits.batch → InBounds config (kept (session config number es))
