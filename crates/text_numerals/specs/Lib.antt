pub mod Exponents
pub mod Numbers
pub mod Internal
