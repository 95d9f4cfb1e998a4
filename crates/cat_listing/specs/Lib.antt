-- what the public clause cites
pub mod Listing
-- what stands in a listing
pub mod Texts
pub mod DeclarationLines
pub mod InstructionLines
