-- What floods need, level by level. It is for `thresholds` alone.
pub mod Cells
pub mod Flooding
pub mod Seeding
pub mod Spreading
