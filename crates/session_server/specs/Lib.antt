pub mod Streams
pub mod Ends
pub mod Driving
pub mod Checks
pub mod Checking
pub mod Telling
