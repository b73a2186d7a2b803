-- The steps of collecting a body: its frames, its end, its failure, and polls without a result.
use Rattle.std.proofs.Common.{◌≤◌, ◌<◌, ℕ, List, [], ◌∷◌, ◌++◌, length, Some, None, Result, Ok, Err, Vec, Global, sym, ◌∙◌, subst, append_assoc, append-nil}
use Rattle.futures.specs.Runs.{Runs, After, Within}
use Rattle.http_body.specs.declared.frame.Frame.{Frame}
use Rattle.bx_service.specs.declared.collect.CollectError.{CollectError}
use Rattle.bx_service.specs.declared.collect.CollectError.TheVariants.{TooLarge, Failed, Memory}
use Rattle.bx_service.specs.Bodies.{data_bytes, joined_bytes, IsWhole, Faults, Gives, Refuses}

module _ {D E : Type 0} (unread : D → List ℕ) (old : Runs (Result (Frame D) E)) (limit : ℕ) (held : List ℕ) where
  pub ends : length held ≤ limit → old [] None → IsWhole unread old limit held held
  ends within came = ([], came, sym (append-nil held), within)

  pub fails : (e : E) → length held ≤ limit → old [] (Some (Err e)) → Faults unread old limit held Failed
  fails e within came = ([], (e, came, subst (λ (bytes : List ℕ). length bytes ≤ limit) (sym (append-nil held)) within))

  pub refuses : (frame : Frame D) (fault : CollectError) → old [] (Some (Ok frame)) → Refuses limit (held ++ data_bytes unread frame) fault → Faults unread old limit held fault
  refuses frame TooLarge came large = ([], (frame, came, subst (λ (bytes : List ℕ). limit < length (bytes ++ data_bytes unread frame)) (sym (append-nil held)) large))
  refuses frame Failed came none = absurd none
  refuses frame Memory came lost = tt

  module _ (new : Runs (Result (Frame D) E)) where
    whole_within : (bytes : List ℕ) → Within old new → IsWhole unread new limit held bytes → IsWhole unread old limit held bytes
    whole_within bytes within whole = (whole.0, within _ _ whole.1, whole.2, whole.3)

    faults_within : (fault : CollectError) → Within old new → Faults unread new limit held fault → Faults unread old limit held fault
    faults_within TooLarge within passes = (passes.0, (passes.1.0, within _ _ passes.1.1, passes.1.2))
    faults_within Failed within failed = (failed.0, (failed.1.0, within _ _ failed.1.1, failed.1.2))
    faults_within Memory within lost = tt

    whole_after : (frame : Frame D) (bytes : List ℕ) → After old (Ok frame) new → IsWhole unread new limit (held ++ data_bytes unread frame) bytes → IsWhole unread old limit held bytes
    whole_after frame bytes after whole = (
      frame ∷ whole.0,
      after _ _ whole.1,
      whole.2 ∙ append_assoc held (data_bytes unread frame) (joined_bytes unread whole.0),
      whole.3,
    )

    faults_after : (frame : Frame D) (fault : CollectError) → After old (Ok frame) new → Faults unread new limit (held ++ data_bytes unread frame) fault → Faults unread old limit held fault
    faults_after frame TooLarge after passes = (
      frame ∷ passes.0,
      (
        passes.1.0,
        after _ _ passes.1.1,
        subst (λ (bytes : List ℕ). limit < length (bytes ++ data_bytes unread passes.1.0)) (append_assoc held (data_bytes unread frame) (joined_bytes unread passes.0)) passes.1.2,
      ),
    )
    faults_after frame Failed after failed = (
      frame ∷ failed.0,
      (
        failed.1.0,
        after _ _ failed.1.1,
        subst (λ (bytes : List ℕ). length bytes ≤ limit) (append_assoc held (data_bytes unread frame) (joined_bytes unread failed.0)) failed.1.2,
      ),
    )
    faults_after frame Memory after lost = tt

    pub gives_within : Within old new → (r : Result (Vec ℕ Global) CollectError) → Gives unread new limit held r → Gives unread old limit held r
    gives_within within (Ok all) = whole_within all.items within
    gives_within within (Err fault) = faults_within fault within

    pub gives_after : (frame : Frame D) → After old (Ok frame) new → (r : Result (Vec ℕ Global) CollectError) → Gives unread new limit (held ++ data_bytes unread frame) r → Gives unread old limit held r
    gives_after frame after (Ok all) = whole_after frame all.items after
    gives_after frame after (Err fault) = faults_after frame fault after
