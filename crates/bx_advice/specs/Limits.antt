-- The limits of a server.
use Rattle.std.specs.Prelude.{ℕ, ◌==◌, ◌&&◌, ◌||◌, Bool, List, codes, nat_le}
use Rattle.std.proofs.Common.{lit≤}
use Rattle.bx_advice.specs.declared.limit.{Limits.Limits, Limit.Limit}
use Rattle.bx_advice.specs.declared.limit.Limit.TheVariants.{Bytes, Sessions, Patterns, Events}
use Rattle.bx_advice.specs.declared.limit.TheConstants.{MAX_MOMENT, MAX_ENTRIES}

-- The greatest moment of a request or a tick, in milliseconds since the server started.
abbrev pub greatest_moment : ℕ
greatest_moment = MAX_MOMENT

-- The maximum number of entries in the list.
abbrev pub greatest_length : ℕ
greatest_length = MAX_ENTRIES

-- The default limits of sessions and messages.
abbrev pub standard_limits : Limits
standard_limits = record {
  events = 1024;
  bytes = 4611686018427387904;
  patterns = 1024;
  batch = 256;
  sessions = 65536;
  texts = 64;
  some_batch = lit≤ tt;
}

-- ---- Limits that can be configured

-- The name of a limit in arguments and in records.
abbrev pub limit_name : Limit → List ℕ
limit_name Bytes = codes "bytes"
limit_name Sessions = codes "sessions"
limit_name Patterns = codes "patterns"
limit_name Events = codes "limit"

-- The greatest value of a limit that can be configured.
abbrev pub greatest : Limit → ℕ
greatest Bytes = 4294967295
greatest Sessions = 65536
greatest Patterns = 1024
greatest Events = 65536

-- The value of a limit.
abbrev pub limit_of : Limit → Limits → ℕ
limit_of Bytes limits = limits.bytes
limit_of Sessions limits = limits.sessions
limit_of Patterns limits = limits.patterns
limit_of Events limits = limits.events

-- The limits with another value of one of them.
abbrev pub with_limit : Limit → ℕ → Limits → Limits
with_limit Bytes n limits = record limits { bytes = n }
with_limit Sessions n limits = record limits { sessions = n }
with_limit Patterns n limits = record limits { patterns = n }
with_limit Events n limits = record limits { events = n }

-- The default value of a limit.
abbrev pub standard : Limit → ℕ
standard limit = limit_of limit standard_limits

-- Whether a value of a limit can be configured: the default, or one from 1 to the greatest.
abbrev pub accepts : Limit → ℕ → Bool
accepts limit n = (nat_le 1 n && nat_le n (greatest limit)) || n == standard limit
