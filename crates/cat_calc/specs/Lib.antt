pub mod Terms
pub mod Reducing
pub mod Calculus
pub mod WellFormed
pub mod Desugared
-- what the code keeps on its way: no public clause cites it
pub mod inside
