-- what nodes stand for
pub mod Nodes
-- what is left where nodes are given back
pub mod Marks
-- what comes of a value that is loaded
pub mod Loading
-- how the nodes lie: no public clause cites it
pub mod inside
