-- What the crates above use of the lemmas on states: joins by their contents, walks, and what one entry more changes.
pub use Rattle.stroke_lattice.proofs.Joins.{one_seed, one_join, join_is_union, compatible_join, longer_from_join}
pub use Rattle.stroke_lattice.proofs.Joins.{nothing_has_no_stroke, nothing_has_no_tombstone}
pub use Rattle.stroke_lattice.proofs.Joining.{joined}
pub use Rattle.stroke_lattice.proofs.Walking.{TombstonesLeft, tombstones_begin, tombstone_here, tombstone_step}
pub use Rattle.stroke_lattice.proofs.Walking.{tombstones_end}
pub use Rattle.stroke_lattice.proofs.Growing.{only_one_stroke_more, only_one_more}
