pub mod Figure
pub mod Grammar
pub mod Rules
pub mod Layout
pub mod Answer
pub mod Internal
