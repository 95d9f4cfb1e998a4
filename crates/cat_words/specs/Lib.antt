pub mod Asked
pub mod TheCommand
