mod Lookups
mod Breaks
mod Asked
