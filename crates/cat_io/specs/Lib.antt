pub mod Shelf
pub mod Sink
pub mod Gathered
pub mod Count
-- what the shelves and sinks in memory have and answer
pub mod Stored
pub mod Numbered
pub mod PureShelf
pub mod MemShelf
pub mod PureSink
pub mod MemSink
