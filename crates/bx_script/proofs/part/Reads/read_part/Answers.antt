use Rattle.std.proofs.{Common.subst, BufReadLemmas.Consumes_shown}
use Rattle.std.specs.Io.BufRead.{FillKeeps}
use Rattle.bx_script.proofs.Parts.{reads_part}
use Rattle.bx_script.proofs.part.Reads.read_part.Goals as goal

pub returns-clause-part : goal.returns-clause-part
returns-clause-part g c =
    let cut = c.cut-length in
    let rested = c.fill_buf.follows.lender-at-none in
    let filled = subst (FillKeeps _ (g.R.Read.remaining rested) (g.R.BufRead.consumable_len rested)) c.in-Ok.is c.fill_buf.follows.holds-at-none in
    let drops = c.consume.ensures.bytes in
    let moved = Consumes_shown _ _ _ _ c.in-Ok.shown.now cut.result.1 cut.ensures.within c.in-Ok.ensures.front c.in-Ok.ensures.end filled.0 filled.1 drops in
    reads_part cut.result.2 _ _ c.in-Ok.shown.now cut.result.0 cut.result.1 _ _ cut.ensures.parts moved.0 moved.1 c.in_ok-keep.ensures
