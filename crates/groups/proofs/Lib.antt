pub mod NumberLemmas
pub mod PointLemmas
pub mod PairLemmas
pub mod KeptLemmas
pub mod LawLemmas
pub mod WorkedLemmas
