mod EachParameter
mod RouteForm
mod Opening
mod Refusing
pub mod Fields
mod Apart
pub mod Known
mod InStep
mod RunLaw
pub mod Short
