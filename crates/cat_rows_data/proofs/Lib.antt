pub mod DeclaredSound
pub mod PlainProgram
