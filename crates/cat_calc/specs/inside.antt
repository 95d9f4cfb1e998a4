pub mod Items
pub mod Numbered
pub mod Tabled
pub mod Terms
