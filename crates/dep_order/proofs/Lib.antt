pub mod Listing
pub mod Placings
pub mod Turning
