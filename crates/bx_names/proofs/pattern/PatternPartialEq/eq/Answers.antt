use Rattle.std.proofs.Common.{◌≡◌, string_bytes}
use Rattle.std.specs.Bool.{Decides, one_answer}
use Rattle.bx_names.specs.Words.{segments, glob_of, same_glob, same_glob-decides}
use Rattle.bx_names.proofs.{PathLemmas.path_from_absolute, GlobLemmas.texts-decide, FaultLemmas.sound_text, pattern.PatternPartialEq.eq.Goals.After-eq}
use Rattle.bx_names.proofs.pattern.PatternPartialEq.eq.Goals as goal

decides : (c : After-eq) → Decides c.eq.result (c.args.self.now ≡ c.args.other.now)
decides c =
    let s = string_bytes c.self.inside.text in
    let t = string_bytes c.other.inside.text in
    let s_sound = sound_text s (glob_of (segments s)).segments c.self.invariant in
    let t_sound = sound_text t (glob_of (segments t)).segments c.other.invariant in
    texts-decide s t c.args.self.now c.args.other.now c.eq.result c.eq.ensures (path_from_absolute s s_sound.absolute) (path_from_absolute t t_sound.absolute) c.self.view_is c.other.view_is

pub returns-clause-same : goal.returns-clause-same
returns-clause-same c = decides (goal.at.returns-clause-same c).After-eq

pub returns-clause-test : goal.returns-clause-test
returns-clause-test c =
    one_answer c.eq.result (same_glob c.args.self.now c.args.other.now) (decides (goal.at.returns-clause-test c).After-eq) (same_glob-decides c.args.self.now c.args.other.now)
