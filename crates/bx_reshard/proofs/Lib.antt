pub mod Among
pub mod HeirLemmas
pub mod Made
pub mod MoveLemmas
pub mod Redistributed
pub mod RedistributionLaws
