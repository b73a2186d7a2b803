-- The judgement of a request's messages, one after another.
use Rattle.std.specs.Prelude.{ℕ, ◌≡◌, ◌+◌, ◌≤◌, List, [], ◌∷◌, length}
use Rattle.bx_advice.specs.declared.config.Config.{Config}
use Rattle.bx_advice.specs.Limits.{greatest_moment}
use Rattle.bx_entry.specs.{Words.Listed, Words.Verdict, Placings.Setup}
use Rattle.bx_entry.specs.declared.{entry.Entry.Entry, entry.Slot.Slot, senders.Senders.Senders, senders.Senders.TheVariants.NoneYet}
use Rattle.bx_roster.specs.Live.{Members}
use Rattle.bx_registry.specs.Rolls.{Roll, after, found, members_after}
use Rattle.bx_registry.specs.{Plans.entries_in, Plans.slots_in, Slots.given_by}

-- `ms`, `senders`, `entry` and `slot` are those that the verdict `o` gives for a message at
-- `place`, if the sessions were `before` and the clock is at `moment`.
pub record IsFoundAt (setup : Setup) (place moment : ℕ) (before : Members) (o : Verdict) (ms : Members) (senders : Senders) (entry : Entry) (slot : Slot) : Type 0 where
  pub members : ms ≡ members_after before o
  pub behind : senders ≡ o.state.senders
  pub noted : entry ≡ record { place = place; moment = moment; kind = o.kind; rides = o.rides }
  pub answer : given_by setup place o.slot ≡ slot ∷ []

-- The roll with these parts. `ms`: the sessions.
abbrev pub roll_with : Config → Members → Senders → ℕ → ℕ → Roll
roll_with config ms senders clock length = record { config = config; members = ms; clock = clock; length = length; senders = senders }

-- The roll with these parts between requests, when there are no senders yet. `ms`: the sessions.
abbrev pub roll_between : Config → Members → ℕ → ℕ → Roll
roll_between config ms clock length = roll_with config ms NoneYet clock length

-- Judging the elements of `list`, from place `first` on, gives `entries` and `slots`. It turns the
-- sessions `before` into `later`, and the clock `clock` into `now`. The elements are whole
-- requests or ticks. Afterwards, no more sessions were opened than the list has elements, and `now`
-- is within its limit.
pub record IsPlannedBy (setup : Setup) (before later : Members) (clock first : ℕ) (list : List Listed) (entries : List Entry) (slots : List Slot) (now : ℕ) : Type 0 where
  pub roll : after (roll_between setup.config before clock first) list ≡ roll_between setup.config later now (first + length list)
  pub listed : entries ≡ entries_in (found (roll_between setup.config before clock first) list)
  pub answers : slots ≡ slots_in setup (found (roll_between setup.config before clock first) list)
  pub opened : later.opened ≤ first + length list
  pub moment : now ≤ greatest_moment
