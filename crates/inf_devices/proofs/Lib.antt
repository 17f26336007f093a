pub mod NamesOpened
pub mod OpeningLemmas
pub mod TakenBytes
