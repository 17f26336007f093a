pub mod KeptTokens
pub mod TokenLists
pub mod Cases
pub mod NameSteps
pub mod OpcodeNames
