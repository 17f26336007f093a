pub mod Operands
pub mod OperandLists
pub mod Uses
pub mod Texts
