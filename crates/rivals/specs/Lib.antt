pub mod Memories
pub mod Rooms
pub mod Promises
pub mod Relaid
pub mod Examples
