pub mod Turns
pub mod Hearing
pub mod Costs
pub mod Pulses
pub mod Numbers
pub mod Lookups
pub mod Determined
pub mod Asking
pub mod Invariants
pub mod Slips
pub mod Handing
pub mod Counting
pub mod Waiting
pub mod InTime
pub mod Copies
pub mod Books
pub mod Bookkeeping
pub mod SendingOrder
pub mod Readings
pub mod Evidence
pub mod PulseEvidence
pub mod AnswersRead
pub mod Balances
pub mod Trying
pub mod Keeping
pub mod Searches
pub mod Cases
mod FramesPut
mod Attempting
mod Draining
mod Looking
mod Firsts
mod Alone
mod HeardOn
mod Holding
