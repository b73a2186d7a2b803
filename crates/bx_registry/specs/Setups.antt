-- The setup in which a request is judged, in the definitions' form.
use Rattle.std.specs.Prelude.{ℕ}
use Rattle.bx_entry.specs.Placings as placings
use Rattle.bx_registry.specs.declared.setup.Setup.{Setup}

-- The setup `s` in the definitions' form. `place_of` gives the meaning of its placing.
abbrev pub setup_of : {P : Type 0} → (P → ℕ → ℕ → ℕ) → Setup P → placings.Setup
setup_of place_of s = record { config = s.config.now; shards = s.shards; placing = place_of s.placing.now }
