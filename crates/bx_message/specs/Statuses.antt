-- The status codes of HTTP, as numbers.
use Rattle.std.specs.Prelude.{ℕ}
use Rattle.bx_message.specs.declared.status.Status.{Status}
use Rattle.bx_message.specs.declared.status.Status.TheVariants.{Ok, BadRequest, Forbidden, NotFound, MethodNotAllowed, TooLarge, UnsupportedMediaType, NotImplemented, Unavailable}

abbrev pub code_of : Status → ℕ
code_of Ok = 200
code_of BadRequest = 400
code_of Forbidden = 403
code_of NotFound = 404
code_of MethodNotAllowed = 405
code_of TooLarge = 413
code_of UnsupportedMediaType = 415
code_of NotImplemented = 501
code_of Unavailable = 503
