use Rattle.std.proofs.Common.{rules, ◌≡◌, ◌↔◌, ℕ, Contains, IsTrue, List, sym, subst}
use Rattle.std.specs.List.Sorted.{IsStrictlyIncreasing}
use Rattle.bx_shard.specs.declared.sessions.Sessions.{Sessions}
use Rattle.bx_shard.specs.Words.{Turns, numbers_of, reaches, patterns_in}
use Rattle.bx_shard.proofs.Handing.{AreApart, AreOf, Handed, are_apart, are_of, are_ready, handed}
use Rattle.bx_shard.proofs.sessions.Sessions.publish.Goals as goal
use Rattle.bx_shard.proofs.sessions.Sessions.publish.Goals.{In_ok-parcels}

of : (c : In_ok-parcels) → AreOf c.args.event.now c.in_ok-parcels.parcels.items
of c = are_of c.args.event.now c.in_ok-parcels.parcels.items c.in_ok-parcels.ensures.event

reached : (c : In_ok-parcels) (n : ℕ) → (Contains (numbers_of c.in_ok-parcels.parcels.items) n ↔ IsTrue (reaches c.args.event.now (patterns_in c.args.self.now n)))
reached c n =
    let exact : Contains c.in_ok-numbers.numbers.items n ↔ IsTrue (reaches c.args.event.now (patterns_in c.args.self.now n)) = c.in_ok-numbers.ensures.exact n in
    let numbers : numbers_of c.in_ok-parcels.parcels.items ≡ c.in_ok-numbers.numbers.items = search rules in
    subst (λ (ns : List ℕ). Contains ns n ↔ IsTrue (reaches c.args.event.now (patterns_in c.args.self.now n))) (sym numbers) exact

apart : (c : In_ok-parcels) → AreApart c.in_ok-parcels.parcels.items
apart c =
    let numbers : numbers_of c.in_ok-parcels.parcels.items ≡ c.in_ok-numbers.numbers.items = search rules in
    are_apart c.in_ok-parcels.parcels.items (subst IsStrictlyIncreasing (sym numbers) c.in_ok-numbers.ensures.ascending)

pub hand_out-requires-clause-ready : goal.hand_out-requires-clause-ready
hand_out-requires-clause-ready c =
    let s = c.args.self.now in
    let t = c.pack.new.self in
    let e = c.args.event.now in
    let xs = c.in_ok-parcels.parcels.items in
    let k = (goal.at.hand_out-requires-clause-ready c).In_ok-parcels in
    are_ready s.config c.args.place e s t t xs c.requires.counted c.pack.ensures.sessions (of k) (reached k) c.requires.countable (apart k) c.in_ok-parcels.ensures.packed

given_out : (c : In_ok-parcels) (new : Sessions) → Turns c.args.self.now.config c.args.place c.in_ok-parcels.parcels.items c.pack.new.self new → Handed c.args.self.now.config c.args.place c.args.event.now c.args.self.now new
given_out c new turns =
    let s = c.args.self.now in
    let t = c.pack.new.self in
    handed s.config c.args.place c.args.event.now s t new c.in_ok-parcels.parcels.items c.requires.counted c.pack.ensures.sessions (of c) (reached c) (apart c) (search rules) c.pack.ensures.others.2 c.pack.ensures.others.0 turns

pub returns-clause-sessions : goal.returns-clause-sessions
returns-clause-sessions c = (given_out (goal.at.returns-clause-sessions c).In_ok-parcels c.hand_out.new.self (search rules)).sessions

pub returns-clause-given : goal.returns-clause-given
returns-clause-given c = (given_out (goal.at.returns-clause-given c).In_ok-parcels c.hand_out.new.self (search rules)).given

pub returns-clause-kept : goal.returns-clause-kept
returns-clause-kept c = (given_out (goal.at.returns-clause-kept c).In_ok-parcels c.hand_out.new.self (search rules)).kept

pub returns-clause-known : goal.returns-clause-known
returns-clause-known c = (given_out (goal.at.returns-clause-known c).In_ok-parcels c.hand_out.new.self (search rules)).known

pub returns-clause-held : goal.returns-clause-held
returns-clause-held c = (given_out (goal.at.returns-clause-held c).In_ok-parcels c.hand_out.new.self (search rules)).held

pub returns-clause-config : goal.returns-clause-config
returns-clause-config c = (given_out (goal.at.returns-clause-config c).In_ok-parcels c.hand_out.new.self (search rules)).config_is
