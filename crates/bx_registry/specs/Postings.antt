-- A message of a request in the definitions' form.
use Rattle.bx_entry.specs.Listing as messages
use Rattle.bx_registry.specs.declared.posted.Posted.{Posted}

-- The program's message `p`, with its request's data, in the definitions' form.
abbrev pub posted_of : Posted → messages.Posted
posted_of p = record { message = p.message.now; moment = p.moment; nonce = p.nonce; sole = p.sole; last = p.last; second = p.second }
