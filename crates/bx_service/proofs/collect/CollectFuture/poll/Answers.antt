use Rattle.std.proofs.Common.{rules, Ok, Err, ◌≡◌, ◌++◌, ℕ, List, subst}
use Rattle.bx_service.specs.declared.collect.CollectError.TheVariants.{Failed}
use Rattle.bx_service.specs.Bodies.{Gives, data_bytes}
use Rattle.bx_service.proofs.BodyLemmas.{ends, fails, gives_after}
use Rattle.bx_service.proofs.collect.CollectFuture.poll.Goals as goal

pub returns-in-Some-Err-clause-value : goal.returns-in-Some-Err-clause-value
returns-in-Some-Err-clause-value g c =
    c.loop.invariant.3 (Err Failed) (fails g.D.Buf.unread (g.B.Body.yields c.loop.self.body) c.loop.self.limit c.loop.self.bytes.items c.in-Some-Err.field-0-0 (search rules) (search rules))

pub returns-in-None-clause-value : goal.returns-in-None-clause-value
returns-in-None-clause-value g c =
    let all : c.replace-all.result ≡ c.loop.self.bytes = search rules in rw all (c.loop.invariant.3 (Ok c.loop.self.bytes) (ends g.D.Buf.unread (g.B.Body.yields c.loop.self.body) c.loop.self.limit c.loop.self.bytes.items (search rules) (search rules)))

pub loop-preserved : goal.loop-preserved
loop-preserved g c =
    let added : c.add.new.bytes.items ≡ c.loop.self.bytes.items ++ data_bytes g.D.Buf.unread c.in-Some-Ok.frame = search rules in (
      search rules,
      search rules,
      search rules,
      λ r given. c.loop.invariant.3 r
          (gives_after g.D.Buf.unread (g.B.Body.yields c.loop.self.body) c.loop.self.limit c.loop.self.bytes.items (g.B.Body.yields c.poll_frame.new.self) c.in-Some-Ok.frame (search rules) r
          (subst (λ (bytes : List ℕ). Gives g.D.Buf.unread (g.B.Body.yields c.poll_frame.new.self) c.loop.self.limit bytes r) added given)),
    )
