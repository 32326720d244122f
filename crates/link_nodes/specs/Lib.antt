-- The definitions of this crate, and those from below that its clauses cite.
pub use Rattle.stroke_lattice.specs.State
pub use Rattle.stroke_lattice.specs.Pieces
pub use Rattle.stroke_lattice.specs.Places
pub use Rattle.spd_codec.specs.Spelling
pub use Rattle.spd_codec.specs.Faults
pub use Rattle.byte_devices.specs.Device
pub use Rattle.core_dispatch.specs.Pens
pub use Rattle.studio.specs.Shots
pub use Rattle.studio.specs.Chains
pub use Rattle.studio.specs.Words as Sights
pub mod Codes
pub mod Links
pub mod MemoryLinks
pub mod UdpLinks
pub mod Cursors
pub mod Nodes
pub mod Hearing
pub mod Sending
pub mod Ticking
