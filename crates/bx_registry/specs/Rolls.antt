-- A roll: the part of a registry that the program stores, with its live sessions and the list's
-- length. It judges elements as the registry does.
use Rattle.std.specs.Prelude.{ℕ, ◌+◌, max, List, [], ◌∷◌, length, fold}
use Rattle.bx_advice.specs.declared.config.Config.{Config}
use Rattle.bx_entry.specs.declared.senders.Senders.{Senders}
use Rattle.bx_entry.specs.Words.{Listed, Post, Registry, State, Verdict, Judged, found_at, tick_verdict, verdict}
use Rattle.bx_entry.specs.Listing as messages
use Rattle.bx_roster.specs.Live.{Members, live_in}

-- The part of a registry that the program stores. It has the configuration, the live sessions, the
-- greatest moment so far, the list's length, and the senders of the current request so far.
pub record Roll : Type 0 where
  pub config : Config
  pub members : Members
  pub clock : ℕ
  pub length : ℕ
  pub senders : Senders

-- The part of the registry `r` that the program stores: its live sessions, its clock, its senders,
-- and how many elements and sessions it has.
abbrev pub roll_of : Config → Registry → Roll
roll_of config r = record {
  config = config;
  members = record { limit = config.limits.sessions; opened = length r.sessions; live = live_in r.sessions };
  clock = r.clock;
  length = length r.judged;
  senders = r.senders;
}

-- The state that the rules for messages read: the sessions `ms`, and the senders of the request so
-- far.
abbrev pub state_of : Members → Senders → State
state_of ms senders = record { sessions = ms.live; opened = ms.opened; senders = senders }

-- The sessions after the verdict `v`: the live ones, how many were ever opened, and the limit of
-- `ms`.
abbrev pub members_after : Members → Verdict → Members
members_after ms v = record { limit = ms.limit; opened = v.state.opened; live = live_in v.state.sessions }

-- The roll after an element, and the element's judgement.
pub record Step : Type 0 where
  pub roll : Roll
  pub found : Judged

-- The step from `roll` that the verdict `v` at `moment` makes. The list gets one element longer.
abbrev pub noted : Roll → ℕ → Verdict → Step
noted roll moment v = record {
  roll = record { config = roll.config; members = members_after roll.members v; clock = moment; length = roll.length + 1; senders = v.state.senders };
  found = found_at roll.length moment v;
}

-- The step from `roll` for the next `element`, which is judged by the sessions before it. Its
-- moment is the greatest so far, including the element's own.
abbrev pub step : Roll → Listed → Step
step roll (Post p) = noted roll (max roll.clock p.moment) (verdict roll.config (state_of roll.members roll.senders) (max roll.clock p.moment) p)
step roll (messages.Tick moment) = noted roll (max roll.clock moment) (tick_verdict (state_of roll.members roll.senders) (max roll.clock moment))

-- The roll after one more element.
abbrev pub next : Roll → Listed → Roll
next roll element = (step roll element).roll

-- The roll after these elements.
abbrev pub after : Roll → List Listed → Roll
after roll list = fold next roll list

-- The judgements of these elements, in order.
abbrev pub found : Roll → List Listed → List Judged
found roll [] = []
found roll (element ∷ list) = (step roll element).found ∷ found (next roll element) list
