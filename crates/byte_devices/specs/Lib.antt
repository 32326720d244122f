pub mod Device
pub mod MemoryDevice
pub mod Transfer
pub mod Response
