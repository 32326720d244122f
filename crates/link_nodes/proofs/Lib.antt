pub mod Cursors
pub mod Feeding
pub mod Seeing
pub mod Answering
pub mod Ticking
pub mod SameNodes
