-- lists that lie one on the other
pub mod Layers
-- the state that a machine stands for
pub mod States
-- what steps lead to
pub mod Steps
-- what the calls of the crate promise
pub mod Running
-- code of programs
pub mod ForPrograms
-- what the code keeps on its way: no public clause cites it
pub mod inside
