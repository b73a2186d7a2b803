-- A request that is being judged, message by message.
use Rattle.std.specs.Prelude.{ℕ, ◌≡◌, ◌<◌, ◌^◌, ◌==◌, Bool, true, List, length, fold, if◌then◌else◌, Option, Some, None}
use Rattle.std.specs.Option.{option_or}
use Rattle.bx_entry.specs.Registry.{Registered}
use Rattle.bx_roster.specs.Words.{Members, AllLive, IsTable, known_of, edited, CanEditEach}
use Rattle.bx_roster.specs.declared.edit.Edit.{Edit}
use Rattle.bx_roster.specs.declared.edit.Edit.TheVariants.{Open, Extend, Close}
use Rattle.bx_registry.specs.declared.session_overlay.Sender.{Sender}

-- The sessions before the request, and the edits of its messages so far.
pub record Overlay : Type 0 where
  pub base : Members
  pub edits : List Edit

-- The sessions after the edits of the overlay `d`.
abbrev pub members_of : Overlay → Members
members_of d = fold edited d.base d.edits

-- The client id and `ack` of session `number` after one more edit, or `None` if the session is then
-- not live. `known`: what they are before the edit, or `None`.
abbrev pub known_after : ℕ → Option (List ℕ × Bool) → Edit → Option (List ℕ × Bool)
known_after number known (Open s) = option_or known (if s.number == number then Some (known_of s) else None)
known_after number known (Extend n due) = known
known_after number known (Close n) = if n == number then None else known

-- The `edits` can be made to the sessions `base`, in order. After them, `count` sessions are live,
-- in ascending order of number, and `opened` were ever opened. Both `opened` and the limit are less
-- than 2^64.
pub record IsOverlay (base : Members) (edits : List Edit) (count opened : ℕ) : Type 0 where
  pub limit : base.limit < 2 ^ 64
  pub small : opened < 2 ^ 64
  pub start : AllLive base.live
  pub can : CanEditEach base edits
  pub counted : count ≡ length (fold edited base edits).live
  pub numbered : opened ≡ (fold edited base edits).opened
  pub table : IsTable 0 (fold edited base edits).opened (fold edited base edits).live
  pub all : AllLive (fold edited base edits).live

-- There is a session, and it has this number, client id and `ack`.
abbrev pub IsSender : Option Registered → ℕ → List ℕ → Bool → Type 0
IsSender None number client ack = ⊥
IsSender (Some r) number client ack = (r.number ≡ number) × (r.client ≡ client) × (r.ack ≡ ack)

-- A live session with the number, client id and `ack` of the sender `s`, and with due moment 0.
abbrev pub named : Sender → Registered
named s = record { number = s.number; client = s.client.now; ack = s.ack; due = 0; live = true }
