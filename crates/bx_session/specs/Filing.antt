-- Filed answers: each with the place of its connect or rider, and that of the entry that gives it.
use Rattle.std.specs.Prelude.{ℕ, ◌≡◌, map}
use Rattle.bx_advice.specs.declared.config.Config.{Config}
use Rattle.bx_entry.specs.declared.entry.Entry.{Entry}
use Rattle.bx_entry.specs.Words.{PlacedAnswer, answer_of, Filed, Kept, kept_answers}
use Rattle.bx_session.specs.declared.answered.Answered.{Answered}
use Rattle.bx_session.specs.Views.{answered_of}

-- A filed answer as a pair: the place of its connect or rider, and the answer.
abbrev pub filed_as : Filed → ℕ × PlacedAnswer
filed_as f = (f.connect, answer_of f)

-- Answer `a`, as the program returns it, as a pair: the place of its connect or rider, and the
-- answer. `place`: the place of the entry that gives it.
abbrev pub filed_at : ℕ → Answered → ℕ × PlacedAnswer
filed_at place a = (a.place, record { place = place; events = a.answer.events; reply = a.answer.reply })

-- Each answer has the place of the entry that gives it.
abbrev pub FilesAlike : Type 0
FilesAlike = (config : Config) (k : Kept) (e : Entry) → map filed_as (kept_answers config k e) ≡ map (filed_at e.place) (map answered_of (kept_answers config k e))
