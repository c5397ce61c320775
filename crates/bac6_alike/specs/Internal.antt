-- Scaffolding: what proofs use and no promise of the page cites.
pub mod Placeless
