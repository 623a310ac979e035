pub mod Contents
pub mod PaperCard
pub mod Requests
pub mod Responses
pub mod CardPulse
pub mod CardHistories
pub mod CardComputing
pub mod CardSamples
