-- to which scope or function instructions belong, and what is known of these before shapes are looked for
pub mod Belonging
pub mod Owned
pub mod Settled
-- what public clauses cite
pub mod Unshaped
pub mod inside
