pub mod Lists
pub mod Taking
mod Examples
