pub mod PointTables
pub mod TypedParts
