-- The delta of a line, as it is held: under a tag a stroke, or none.
use Rattle.std.specs.Prelude.{ℕ, Option, Some, None}
use Rattle.stroke_core.specs.Seed.{Seed}
use Rattle.stroke_lattice.specs.State.{State, placed, withdrawn}

-- the stroke is placed under the tag, or without one the tag is withdrawn
abbrev pub held : ℕ → Option Seed → State
held tag (Some seed) = placed tag seed
held tag None = withdrawn tag
