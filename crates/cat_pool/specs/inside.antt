pub mod Laid
pub mod Alone
