use Rattle.std.proofs.Common.{◌≡◌, drop}
use Rattle.bx_entry.specs.Requests.{allows_all}
use Rattle.bx_entry.proofs.access.SharedPatterns.allows_all.Given as goal

abbrev pub invariant-loop-message : goal.invariant-loop-message
invariant-loop-message l = allows_all l.self (drop l.message-index l.messages) ≡ allows_all l.self l.messages
