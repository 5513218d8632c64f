pub mod SumSteps
pub mod Table
pub mod Trials
