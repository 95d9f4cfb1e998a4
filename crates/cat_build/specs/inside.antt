pub mod Forests
