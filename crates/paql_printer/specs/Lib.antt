pub mod Spellings
pub mod Print
pub mod Spacing
pub mod Canonical
pub mod Texts
pub mod Fronts
pub mod Parts
