pub mod Acted
pub mod Routines
pub mod Directives
pub mod RoutinePieces
pub mod UnusedLocals
