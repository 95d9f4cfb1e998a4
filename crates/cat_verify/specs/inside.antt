-- words of single functions, which no public clause cites
pub mod Marks
pub mod GoodNumbers
pub mod Jumping
-- stamps that are led on, and the scopes and functions to which instructions belong
pub mod Starts
pub mod Stamped
pub mod Spreading
pub mod Buckets
pub mod Orderly
pub mod Abroad
pub mod CallNumbers
pub mod OwnerNumbers
pub mod Verifying
