pub use Rattle.grid_core.specs.Raster
pub use Rattle.byte_devices.specs.Device
pub use Rattle.byte_devices.specs.Transfer as DeviceTransfer
pub use Rattle.byte_devices.specs.MemoryDevice
pub mod Code
pub mod FirstFault
pub mod Graymap
pub mod PlainWriting
pub mod Reading
pub mod Spelling
pub mod Transfer
pub mod Writing
