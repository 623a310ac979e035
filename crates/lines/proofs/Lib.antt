-- The arguments that several proofs share.
pub mod RingBytes
pub mod Rising
pub mod Draws
pub mod Orders
