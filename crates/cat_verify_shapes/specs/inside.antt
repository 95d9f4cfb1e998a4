-- words of single functions, which no public clause cites
pub mod FormKinds
pub mod Senses
pub mod Told
pub mod Taking
pub mod Zipped
pub mod Lower
pub mod Alike
pub mod Loops
pub mod Making
pub mod Looking
pub mod Operators
pub mod Growing
pub mod Turns
pub mod States
