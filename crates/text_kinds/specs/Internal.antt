-- States of loops and scaffolding: what the proofs of this crate use and no promise of the page cites.
pub mod Kinds
