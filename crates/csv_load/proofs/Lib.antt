pub mod FuelLemmas
pub mod BetweenLemmas
pub mod FieldLemmas
pub mod LoadLemmas
pub mod PassLemmas
