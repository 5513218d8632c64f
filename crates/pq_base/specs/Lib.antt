pub mod Adapters
pub mod Outside
pub mod Memory
pub mod Shown
pub mod Decimal
pub mod Scaled
pub mod Spelling
pub mod Gaps
