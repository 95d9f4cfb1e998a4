pub mod Walking
pub mod Packing
pub mod StackLemmas
pub mod Popping
mod Examples
