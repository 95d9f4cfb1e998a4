pub mod Unbroken
pub mod Rechecks
pub mod CheckedAudits
pub mod Told
