-- What the contracts of the crate say.
pub mod Refusals
pub mod Queues
pub mod Meaning
pub mod Rings
pub mod Wires
pub mod Faults
pub mod Scripts
pub mod Boxes
pub mod Runs
pub mod Tapes
