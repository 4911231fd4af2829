pub mod Fields
pub mod Messages
pub mod OneReading
pub mod Payloads
pub mod Streams
