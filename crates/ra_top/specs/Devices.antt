pub mod Device
pub mod Stops
pub mod Calls
pub mod MemFiles
pub mod MemSink
pub mod Pieces
pub mod Scan
pub mod Unread
