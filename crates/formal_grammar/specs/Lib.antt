pub mod Lang
pub mod Parse
pub mod Exact
pub mod Fault
pub mod Laws
pub mod SampleGrammar
pub mod SampleReading
