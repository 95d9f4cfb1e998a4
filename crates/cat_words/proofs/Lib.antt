pub mod Exported
pub mod CasesRead
pub mod Refusing
pub mod Examples
