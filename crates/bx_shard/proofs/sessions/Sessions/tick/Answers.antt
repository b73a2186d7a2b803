use Rattle.std.proofs.Common.{rules, option_map}
use Rattle.bx_entry.specs.Words.{after, resumed, expired}
use Rattle.bx_theory.proofs.Keeps.{expired_from_k}
use Rattle.bx_shard.specs.Effects.{answers_by}
use Rattle.bx_shard.specs.Sessions.{kept_in, patterns_in}
use Rattle.bx_shard.proofs.{Counts.counts_along, Counts.keeps_counts, Ends.filing_agrees, Ends.tick_settles}
use Rattle.bx_shard.proofs.sessions.Sessions.tick.Goals as goal

pub returns-in-Some-tick-clause-held : goal.returns-in-Some-tick-clause-held
returns-in-Some-tick-clause-held c = λ held.
    let old = c.args.self.now in
    let change = expired old.config c.args.place c.args.moment in
    filing_agrees _ _ (kept_in old) _ c.args.number (option_map (after change) (kept_in old c.args.number)) (answers_by change (kept_in old c.args.number)) c.args.place
    held (search rules) (search rules) (tick_settles old.config c.args.place c.args.moment (kept_in old c.args.number))

pub returns-in_default-tick-clause-held : goal.returns-in_default-tick-clause-held
returns-in_default-tick-clause-held c = λ held.
    let old = c.args.self.now in
    let change = expired old.config c.args.place c.args.moment in
    filing_agrees _ _ (kept_in old) _ c.args.number (option_map (after change) (kept_in old c.args.number)) (answers_by change (kept_in old c.args.number)) c.args.place
    held (search rules) (search rules) (tick_settles old.config c.args.place c.args.moment (kept_in old c.args.number))

pub returns-in-Some-tick-clause-counted : goal.returns-in-Some-tick-clause-counted
returns-in-Some-tick-clause-counted c = λ counted.
    let old = c.args.self.now in
    let change = expired old.config c.args.place c.args.moment in
    counts_along (kept_in old) _ (patterns_in old) c.args.number (option_map (after change) (kept_in old c.args.number)) counted
    (search rules) (keeps_counts change (λ k. expired_from_k old.config c.args.place c.args.moment (resumed k) k.held) c.args.number (kept_in old c.args.number) (patterns_in old c.args.number) (counted c.args.number))

pub returns-in_default-tick-clause-counted : goal.returns-in_default-tick-clause-counted
returns-in_default-tick-clause-counted c = λ counted.
    let old = c.args.self.now in
    let change = expired old.config c.args.place c.args.moment in
    counts_along (kept_in old) _ (patterns_in old) c.args.number (option_map (after change) (kept_in old c.args.number)) counted
    (search rules) (keeps_counts change (λ k. expired_from_k old.config c.args.place c.args.moment (resumed k) k.held) c.args.number (kept_in old c.args.number) (patterns_in old c.args.number) (counted c.args.number))
