use Rattle.std.proofs.Common.{Some, sym, ap, ◌∙◌}
use Rattle.std.specs.Option.{option_map}
use Rattle.bx_roster.specs.Words.{known_of}
use Rattle.bx_roster.proofs.Kept.{known-kept, due-kept}
use Rattle.bx_roster.proofs.roster.Roster.find.Goals as goal

pub returns-in-Some-clause-known : goal.returns-in-Some-clause-known
returns-in-Some-clause-known c = rw (← c.self.view_is) (known-kept c.self.invariant c.args.number (ap Some (sym c.in-Some.is) ∙ c.in_ok-session.ensures.value))

pub returns-in-None-clause-known : goal.returns-in-None-clause-known
returns-in-None-clause-known c = rw (← c.self.view_is) (known-kept c.self.invariant c.args.number (ap Some (sym c.in-None.is) ∙ c.in_ok-session.ensures.value))

pub returns-in_err-session-clause-known : goal.returns-in_err-session-clause-known
returns-in_err-session-clause-known c = ap (option_map (λ s. known_of s.now)) c.from_residual.ensures ∙ rw (← c.self.view_is) (known-kept c.self.invariant c.args.number c.in_err-session.ensures.value)

pub returns-in-Some-clause-due : goal.returns-in-Some-clause-due
returns-in-Some-clause-due c = rw (← c.self.view_is) (due-kept c.self.invariant c.args.number (ap Some (sym c.in-Some.is) ∙ c.in_ok-session.ensures.value))

pub returns-in-None-clause-due : goal.returns-in-None-clause-due
returns-in-None-clause-due c = rw (← c.self.view_is) (due-kept c.self.invariant c.args.number (ap Some (sym c.in-None.is) ∙ c.in_ok-session.ensures.value))

pub returns-in_err-session-clause-due : goal.returns-in_err-session-clause-due
returns-in_err-session-clause-due c = ap (option_map (λ s. s.now.due)) c.from_residual.ensures ∙ rw (← c.self.view_is) (due-kept c.self.invariant c.args.number c.in_err-session.ensures.value)
