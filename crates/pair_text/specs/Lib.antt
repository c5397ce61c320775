pub mod Rules
pub mod Answer
