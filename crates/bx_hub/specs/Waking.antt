-- Which wakers a call added to its caller's list.
use Rattle.std.specs.Prelude.{List, [], Option, Some, None}
use Rattle.futures.specs.declared.task.waker.Waker.{Waker}

-- The wakers that a shard added. There are none if the shard was not found.
abbrev pub put_of : Option (List Waker) → List Waker
put_of None = []
put_of (Some put) = put
