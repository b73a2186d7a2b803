-- How a request changes before it is passed to a service.
use Rattle.std.specs.Prelude.{◌≡◌, Some}
use Rattle.http.specs.Request.{head_of, body_of}
use Rattle.http.specs.declared.request.Request.{Request}
use Rattle.bx_serve.specs.declared.timeout_body.TimeoutBody.{TimeoutBody}
use Rattle.bx_serve.specs.declared.timeouts.TimeLimits.{TimeLimits}

module _ {B T : Type 0} where
  -- `handed` has the head of `came`, and the body of `came` with the time limits of `limits`.
  pub record IsWithTimeouts (limits : TimeLimits) (came : Request B) (handed : Request (TimeoutBody B T)) : Type 0 where
    pub head : head_of handed ≡ head_of came
    pub body : (body_of handed).body ≡ body_of came
    pub idle : (body_of handed).timeouts.limit ≡ limits.idle
    pub whole : (body_of handed).timeouts.whole ≡ Some limits.whole
