use Rattle.std.proofs.Common.{refl}
use Rattle.std.proofs.lemmas.Str.Ascii.{trim_ascii_is}
use Rattle.bx_transport.proofs.form.media_type.Goals as goal

pub returns : goal.returns
returns c =
    let trimmed = trim_ascii_is _ _ _ refl c.trim_ascii.ensures.value in
    cc
