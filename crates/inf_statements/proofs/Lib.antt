pub mod Firsts
pub mod Fitting
pub mod LinesNoted
