pub mod CodeLemmas
pub mod CodeSteps
pub mod Ends
pub mod Full
