pub mod UnitLemmas
pub mod RowLemmas
pub mod ColumnLemmas
