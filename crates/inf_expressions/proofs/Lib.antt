pub mod Examples
pub mod NodeLemmas
pub mod Roots
pub mod Reading
pub mod SourceLaws
