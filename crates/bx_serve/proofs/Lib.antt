pub mod TimeoutLemmas
