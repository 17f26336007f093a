pub mod KindSteps
mod Placing
