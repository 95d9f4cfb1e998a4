pub mod Keys
pub mod Plain
pub mod Reading
pub mod Told
pub mod Walking
