use Rattle.std.proofs.Common.{◌+◌, [], ℕ, codes, decimal, option_map, string_bytes, refl, ap, arith, sym, ◌∙◌}
use Rattle.std.specs.{BTreeMap.get, Ordering.nat_cmp}
use Rattle.bx_replay.specs.Serving.{seen_lines, shards_after}
use Rattle.bx_message.specs.Statuses.{code_of}
use Rattle.bx_entry.specs.Words.{read_input}
use Rattle.bx_script.specs.Words.{line_text, nonce_left, with_nonce, written}
use Rattle.bx_fanout.specs.Rounds.{added_by, inputs_of, setup_in}
use Rattle.bx_script.specs.declared.line.Line.{Line}
use Rattle.bx_replay.proofs.{Keeping.appends_none, Fronts.front_as, Fronts.front_line, Fronts.handed_front, Nonces.nonce_more}
use Rattle.bx_replay.proofs.Steps.{added_served, served_line, served_same, few_served, handed_served, handed_prints, hands_as, keeps_served, prints_bare, read_after}
use Rattle.bx_script.proofs.Fronts.{front_none}
use Rattle.bx_replay.proofs.server.answer.Goals as goal
use Rattle.bx_fanout.proofs.TakingIn.{on-err}

pub hand-requires-clause-few : goal.hand-requires-clause-few
hand-requires-clause-few g c κs within =
    let s = c.args.server in
    omega (arith, few_served (setup_in s.round).config (seen_lines s.lines) (inputs_of s.round) (added_by s.round) (get nat_cmp s.kept) s.number c.requires.serves.served, c.requires.few)

pub hand-requires-clause-added : goal.hand-requires-clause-added
hand-requires-clause-added g c κs within =
    let s = c.args.server in
    added_served (setup_in s.round).config (seen_lines s.lines) (inputs_of s.round) (added_by s.round) (get nat_cmp s.kept) s.number c.requires.serves.served

pub hand-requires-clause-kept : goal.hand-requires-clause-kept
hand-requires-clause-kept g c κs within =
    let s = c.args.server in
    keeps_served (setup_in s.round).config (seen_lines s.lines) (inputs_of s.round) (added_by s.round) (get nat_cmp s.kept) s.number c.requires.serves.served

pub returns-in_ok-write_bad-in-Bad-clause-serves :
    goal.returns-in_ok-write_bad-in-Bad-clause-serves
returns-in_ok-write_bad-in-Bad-clause-serves g c =
    let s = c.args.server in
    record {
      served = served_line (setup_in s.round).config s.lines c.push.new.self c.args.line Line.Bad (inputs_of s.round) (added_by s.round) (get nat_cmp s.kept) s.number c.push.ensures c.in-Bad.is (λ n. refl) c.requires.serves.served;
      nonce_is = nonce_more s.lines c.push.new.self c.args.line Line.Bad s.nonce c.push.ensures c.in-Bad.is c.requires.serves.nonce_is;
    }

pub returns-in_ok-write_bad-in-Bad-clause-prints :
    goal.returns-in_ok-write_bad-in-Bad-clause-prints
returns-in_ok-write_bad-in-Bad-clause-prints g c =
    let s = c.args.server in
    prints_bare (setup_in s.round).config s.lines c.push.new.self c.args.line Line.Bad [] (line_text (s.number + 1) (codes "bad")) (written g.W.Write.contents c.args.writer.now) (written g.W.Write.contents c.write_bad.new.writer)
    (setup_in s.round).config.limits.some_batch c.push.ensures c.in-Bad.is tt (ap (λ (n : ℕ). line_text (n + 1) (codes "bad")) c.requires.serves.served.number_is) c.in_ok-write_bad-in-Bad.ensures.text

pub returns-in_ok-write_status-in-Rejected-clause-serves :
    goal.returns-in_ok-write_status-in-Rejected-clause-serves
returns-in_ok-write_status-in-Rejected-clause-serves g c =
    let s = c.args.server in
    record {
      served = served_line (setup_in s.round).config s.lines c.push.new.self c.args.line (Line.Rejected c.in-Rejected.status) (inputs_of s.round) (added_by s.round) (get nat_cmp s.kept) s.number c.push.ensures c.in-Rejected.is (λ n. refl) c.requires.serves.served;
      nonce_is = nonce_more s.lines c.push.new.self c.args.line (Line.Rejected c.in-Rejected.status) s.nonce c.push.ensures c.in-Rejected.is c.requires.serves.nonce_is;
    }

pub returns-in_ok-write_status-in-Rejected-clause-prints :
    goal.returns-in_ok-write_status-in-Rejected-clause-prints
returns-in_ok-write_status-in-Rejected-clause-prints g c =
    let s = c.args.server in
    prints_bare (setup_in s.round).config s.lines c.push.new.self c.args.line (Line.Rejected c.in-Rejected.status) [] (line_text (s.number + 1) (decimal (code_of c.in-Rejected.status))) (written g.W.Write.contents c.args.writer.now) (written g.W.Write.contents c.write_status.new.writer)
    (setup_in s.round).config.limits.some_batch c.push.ensures c.in-Rejected.is tt (ap (λ (n : ℕ). line_text (n + 1) (decimal (code_of c.in-Rejected.status))) c.requires.serves.served.number_is) c.in_ok-write_status-in-Rejected.ensures.text

pub returns-in_ok-hand-in-Accepted-clause-serves : goal.returns-in_ok-hand-in-Accepted-clause-serves
returns-in_ok-hand-in-Accepted-clause-serves g c =
    let s = c.args.server in
    let before = written g.W.Write.contents c.args.writer.now in
    let after = written g.W.Write.contents c.hand.new.writer in
    let input = c.in-Accepted.input in
    let taken = c.take_nonce-input.ensures in
    record {
      served = handed_served s.round c.hand.new.round s.lines c.push.new.self c.args.line c.in-Accepted.callback input before after (get nat_cmp s.kept) (get nat_cmp c.hand.new.kept) s.number c.requires.serves.served
          (hands_as s.round c.hand.new.round (s.number + 1) (option_map string_bytes c.in-Accepted.callback) (read_input c.take_nonce-input.result.0) (read_after s.lines input) before after (get nat_cmp s.kept) (get nat_cmp c.hand.new.kept)
          (taken.input ∙ ap (λ (n : ℕ). with_nonce n (read_input input)) c.requires.serves.nonce_is) c.in_ok-hand-in-Accepted.ensures.hands)
          c.push.ensures c.in-Accepted.is;
      nonce_is = nonce_more s.lines c.push.new.self c.args.line (Line.Accepted c.in-Accepted.callback input) c.take_nonce-input.result.1 c.push.ensures c.in-Accepted.is
          (taken.left ∙ ap (λ (n : ℕ). nonce_left n (read_input input)) c.requires.serves.nonce_is);
    }

pub returns-in_ok-hand-in-Accepted-clause-prints : goal.returns-in_ok-hand-in-Accepted-clause-prints
returns-in_ok-hand-in-Accepted-clause-prints g c =
    let s = c.args.server in
    let before = written g.W.Write.contents c.args.writer.now in
    let after = written g.W.Write.contents c.hand.new.writer in
    let input = c.in-Accepted.input in
    handed_prints s.round c.hand.new.round s.lines c.push.new.self c.args.line c.in-Accepted.callback input before after (get nat_cmp s.kept) (get nat_cmp c.hand.new.kept) s.number (setup_in c.hand.new.round).config.limits.some_batch c.requires.serves.served
    (hands_as s.round c.hand.new.round (s.number + 1) (option_map string_bytes c.in-Accepted.callback) (read_input c.take_nonce-input.result.0) (read_after s.lines input) before after (get nat_cmp s.kept) (get nat_cmp c.hand.new.kept)
    (c.take_nonce-input.ensures.input ∙ ap (λ (n : ℕ). with_nonce n (read_input input)) c.requires.serves.nonce_is) c.in_ok-hand-in-Accepted.ensures.hands)
    c.push.ensures c.in-Accepted.is

pub returns-in_ok-round-in-Resharded-clause-serves :
    goal.returns-in_ok-round-in-Resharded-clause-serves
returns-in_ok-round-in-Resharded-clause-serves g c =
    let s = c.args.server in
    let r = c.in_ok-round-in-Resharded.round in
    let e = c.in_ok-round-in-Resharded.ensures in
    record {
      served = served_same (setup_in s.round).config (setup_in r).config (seen_lines c.push.new.self) (inputs_of s.round) (inputs_of r) (added_by s.round) (added_by r) (get nat_cmp s.kept) (s.number + 1) e.config e.inputs e.added
          (served_line (setup_in s.round).config s.lines c.push.new.self c.args.line (Line.Resharded c.in-Resharded.shards) (inputs_of s.round) (added_by s.round) (get nat_cmp s.kept) s.number c.push.ensures c.in-Resharded.is (λ n. refl) c.requires.serves.served);
      nonce_is = nonce_more s.lines c.push.new.self c.args.line (Line.Resharded c.in-Resharded.shards) s.nonce c.push.ensures c.in-Resharded.is c.requires.serves.nonce_is;
    }

pub returns-in_ok-round-in-Resharded-clause-prints :
    goal.returns-in_ok-round-in-Resharded-clause-prints
returns-in_ok-round-in-Resharded-clause-prints g c =
    let s = c.args.server in
    let r = c.in_ok-round-in-Resharded.round in
    let writer = written g.W.Write.contents c.args.writer.now in
    prints_bare (setup_in r).config s.lines c.push.new.self c.args.line (Line.Resharded c.in-Resharded.shards) [] [] writer writer (setup_in r).config.limits.some_batch c.push.ensures c.in-Resharded.is tt refl (appends_none writer)

pub returns-in-Announced-clause-serves : goal.returns-in-Announced-clause-serves
returns-in-Announced-clause-serves g c =
    let s = c.args.server in
    let l = Line.Announced c.in-Announced.nonce in
    record {
      served = served_line (setup_in s.round).config s.lines c.push.new.self c.args.line l (inputs_of s.round) (added_by s.round) (get nat_cmp s.kept) s.number c.push.ensures c.in-Announced.is (λ n. refl) c.requires.serves.served;
      nonce_is = nonce_more s.lines c.push.new.self c.args.line l c.in-Announced.nonce c.push.ensures c.in-Announced.is refl;
    }

pub returns-in-Announced-clause-prints : goal.returns-in-Announced-clause-prints
returns-in-Announced-clause-prints g c =
    let s = c.args.server in
    let writer = written g.W.Write.contents c.args.writer.now in
    prints_bare (setup_in s.round).config s.lines c.push.new.self c.args.line (Line.Announced c.in-Announced.nonce) [] [] writer writer (setup_in s.round).config.limits.some_batch c.push.ensures c.in-Announced.is tt refl (appends_none writer)

pub returns-in-Noted-clause-serves : goal.returns-in-Noted-clause-serves
returns-in-Noted-clause-serves g c =
    let s = c.args.server in
    record {
      served = served_line (setup_in s.round).config s.lines c.push.new.self c.args.line Line.Noted (inputs_of s.round) (added_by s.round) (get nat_cmp s.kept) s.number c.push.ensures c.in-Noted.is (λ n. refl) c.requires.serves.served;
      nonce_is = nonce_more s.lines c.push.new.self c.args.line Line.Noted s.nonce c.push.ensures c.in-Noted.is c.requires.serves.nonce_is;
    }

pub returns-in-Noted-clause-prints : goal.returns-in-Noted-clause-prints
returns-in-Noted-clause-prints g c =
    let s = c.args.server in
    let writer = written g.W.Write.contents c.args.writer.now in
    prints_bare (setup_in s.round).config s.lines c.push.new.self c.args.line Line.Noted [] [] writer writer (setup_in s.round).config.limits.some_batch c.push.ensures c.in-Noted.is tt refl (appends_none writer)

pub returns-in-Noted-clause-shards : goal.returns-in-Noted-clause-shards
returns-in-Noted-clause-shards g c = ap (λ (l : Line). shards_after l (setup_in c.args.server.round).shards) (sym c.in-Noted.is)

pub returns-in-Announced-clause-shards : goal.returns-in-Announced-clause-shards
returns-in-Announced-clause-shards g c = ap (λ (l : Line). shards_after l (setup_in c.args.server.round).shards) (sym c.in-Announced.is)

pub returns-in_ok-write_bad-in-Bad-clause-shards :
    goal.returns-in_ok-write_bad-in-Bad-clause-shards
returns-in_ok-write_bad-in-Bad-clause-shards g c = ap (λ (l : Line). shards_after l (setup_in c.args.server.round).shards) (sym c.in-Bad.is)

pub returns-in_ok-write_status-in-Rejected-clause-shards :
    goal.returns-in_ok-write_status-in-Rejected-clause-shards
returns-in_ok-write_status-in-Rejected-clause-shards g c = ap (λ (l : Line). shards_after l (setup_in c.args.server.round).shards) (sym c.in-Rejected.is)

pub returns-in_ok-hand-in-Accepted-clause-shards :
    goal.returns-in_ok-hand-in-Accepted-clause-shards
returns-in_ok-hand-in-Accepted-clause-shards g c = c.in_ok-hand-in-Accepted.ensures.hands.shards ∙ ap (λ (l : Line). shards_after l (setup_in c.args.server.round).shards) (sym c.in-Accepted.is)

pub returns-in_ok-round-in-Resharded-clause-shards :
    goal.returns-in_ok-round-in-Resharded-clause-shards
returns-in_ok-round-in-Resharded-clause-shards g c = c.in_ok-round-in-Resharded.ensures.shards ∙ ap (λ (l : Line). shards_after l (setup_in c.args.server.round).shards) (sym c.in-Resharded.is)

pub returns-in_err-write_bad-in-Bad-clause-fault :
    goal.returns-in_err-write_bad-in-Bad-clause-fault
returns-in_err-write_bad-in-Bad-clause-fault g c =
    let s = c.args.server in
    on-err c.from_residual.result
    (front_line (setup_in s.round).config s.lines c.args.line Line.Bad [] (line_text (s.number + 1) (codes "bad")) (written g.W.Write.contents c.args.writer.now) (written g.W.Write.contents c.write_bad.new.writer)
    (setup_in s.round).config.limits.some_batch c.in-Bad.is tt (ap (λ (n : ℕ). line_text (n + 1) (codes "bad")) c.requires.serves.served.number_is) c.in_err-write_bad-in-Bad.ensures.text)

pub returns-in_err-write_status-in-Rejected-clause-fault :
    goal.returns-in_err-write_status-in-Rejected-clause-fault
returns-in_err-write_status-in-Rejected-clause-fault g c =
    let s = c.args.server in
    on-err c.from_residual-in_err-write_status-in-Rejected.result
    (front_line (setup_in s.round).config s.lines c.args.line (Line.Rejected c.in-Rejected.status) [] (line_text (s.number + 1) (decimal (code_of c.in-Rejected.status))) (written g.W.Write.contents c.args.writer.now) (written g.W.Write.contents c.write_status.new.writer)
    (setup_in s.round).config.limits.some_batch c.in-Rejected.is tt (ap (λ (n : ℕ). line_text (n + 1) (decimal (code_of c.in-Rejected.status))) c.requires.serves.served.number_is) c.in_err-write_status-in-Rejected.ensures.text)

pub returns-in_err-hand-in-Accepted-clause-fault : goal.returns-in_err-hand-in-Accepted-clause-fault
returns-in_err-hand-in-Accepted-clause-fault g c =
    let s = c.args.server in
    let before = written g.W.Write.contents c.args.writer.now in
    let after = written g.W.Write.contents c.hand.new.writer in
    let input = c.in-Accepted.input in
    on-err c.from_residual-in_err-hand-in-Accepted.result
    (handed_front s.round s.lines c.args.line c.in-Accepted.callback input before after (get nat_cmp s.kept) s.number (setup_in s.round).config.limits.some_batch c.requires.serves.served
    (front_as s.round (s.number + 1) (option_map string_bytes c.in-Accepted.callback) (read_input c.take_nonce-input.result.0) (read_after s.lines input) before after (get nat_cmp s.kept)
    (c.take_nonce-input.ensures.input ∙ ap (λ (n : ℕ). with_nonce n (read_input input)) c.requires.serves.nonce_is) c.in_err-hand-in-Accepted.ensures.fault)
    c.in-Accepted.is)

pub returns-in_err-round-in-Resharded-clause-fault :
    goal.returns-in_err-round-in-Resharded-clause-fault
returns-in_err-round-in-Resharded-clause-fault g c =
    let s = c.args.server in
    let writer = written g.W.Write.contents c.args.writer.now in
    on-err c.from_residual-in_err-round-in-Resharded.result
    (front_line (setup_in s.round).config s.lines c.args.line (Line.Resharded c.in-Resharded.shards) [] [] writer writer (setup_in s.round).config.limits.some_batch c.in-Resharded.is tt refl (front_none writer []))
