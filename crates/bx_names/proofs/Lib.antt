pub mod PathLemmas
pub mod GlobLemmas
pub mod FaultLemmas
pub mod WalkLemmas
pub mod MatchLemmas
pub mod Actives
