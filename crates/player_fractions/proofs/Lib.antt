-- Laws of the common factor, of lowest terms, of the steps that bring a fraction there, and how large the sum is that is brought.
pub mod Examples
pub mod Factors
pub mod Lowest
pub mod Sizes
pub mod Steps
