-- Laws that belong to no one function.
pub mod Listings
pub mod Lists
pub mod Refusals
pub mod Texts
pub mod Turns
