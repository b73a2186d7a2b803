-- Nonces of 128 bits, drawn from a generator of random numbers.
use Rattle.std.specs.Prelude.{ℕ, ◌+◌, ◌*◌, ◌^◌}
use Rattle.rand_core.specs.Stream.{Stream, next_u64}

-- The next nonce of a generator, and what is left of the generator: two words are used. The first
-- one is the upper half.
abbrev pub next_nonce : Stream → ℕ × Stream
next_nonce s = ((next_u64 s).0 * 2 ^ 64 + (next_u64 (next_u64 s).1).0, (next_u64 (next_u64 s).1).1)
