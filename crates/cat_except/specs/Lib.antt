pub mod Parted
pub mod Faults
pub mod Excepted
pub mod Causes
-- what the code keeps on its way: keys of groups, lists of numbers, the definitions at some numbers, links and chains
pub mod inside
