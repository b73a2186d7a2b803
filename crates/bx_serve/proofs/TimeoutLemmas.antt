-- A body under a time limit yields the same frames. A call under a time limit has the same result,
-- or is late.
use Rattle.std.proofs.Common.{◌≡◌, List, [], ◌∷◌, Option, Some, None, Result, Ok, Err, subst, sym, map, inl, inr}
use Rattle.std.specs.declared.io.Error.{Error}
use Rattle.futures.specs.Runs.{Runs, After}
use Rattle.futures.specs.declared.task.Poll.{Poll}
use Rattle.futures.specs.declared.task.Poll.TheVariants.{Ready, Pending}
use Rattle.http_body.specs.declared.frame.Frame.{Frame}
use Rattle.tokio.specs.Io.Moved.{IfReadyErr}
use Rattle.bx_serve.specs.declared.timeout_body.TimeoutBodyFault.{TimeoutBodyFault}
use Rattle.bx_serve.specs.declared.timeout_body.TimeoutBodyFault.TheVariants.{Body, Late}
use Rattle.bx_serve.specs.Timeouts.{Comes, InTime, OrLate, Outlasts}

module _ {D E : Type 0} (old : Runs (Result (Frame D) E)) where
  pub first : (o : Option (Result (Frame D) (TimeoutBodyFault E))) → Comes old [] o → Outlasts old [] o
  first o comes [] is = comes
  first o comes (frame ∷ frames) is = absurd (cc)

  onward : (new : Runs (Result (Frame D) E)) (frame : Frame D) (frames : List (Frame D)) (o : Option (Result (Frame D) (TimeoutBodyFault E))) →
      After old (Ok frame) new → Comes new frames o → Comes old (frame ∷ frames) o
  onward new frame frames None after came = after _ _ came
  onward new frame frames (Some (Ok next)) after came = after _ _ came
  onward new frame frames (Some (Err (Body e))) after came = after _ _ came
  onward new frame frames (Some (Err Late)) after came = came

  pub going : (new : Runs (Result (Frame D) E)) (frame : Frame D) → After old (Ok frame) new → After (Outlasts old) (Ok frame) (Outlasts new)
  going new frame after xs last outlasts [] is = absurd (cc)
  going new frame after xs last outlasts (f ∷ frames) is =
      let same : frame ≡ f = cc in
      let rest : xs ≡ map Ok frames = cc in
      subst (λ (g : Frame D). Comes old (g ∷ frames) last) same (onward new frame frames last after (outlasts frames rest))

  pub failing : (fault : TimeoutBodyFault E) (new : Runs (Result (Frame D) (TimeoutBodyFault E))) → After (Outlasts old) (Err fault) new
  failing fault new xs last came [] is = absurd (cc)
  failing fault new xs last came (frame ∷ frames) is = absurd (cc)

pub in_time : {O : Type 0} (fails : Error → Type 0) (written made : Poll (Result O Error)) →
    InTime written made → IfReadyErr written fails → IfReadyErr made (OrLate fails)
in_time {O} fails (Ready (Ok x)) made same failed = subst (λ (m : Poll (Result O Error)). IfReadyErr m (OrLate fails)) (sym same) tt
in_time {O} fails (Ready (Err e)) made same failed = subst (λ (m : Poll (Result O Error)). IfReadyErr m (OrLate fails)) (sym same) (inl failed)
in_time fails Pending (Ready (Ok x)) never failed = absurd never
in_time fails Pending (Ready (Err e)) late failed = inr late
in_time fails Pending Pending waits failed = tt
