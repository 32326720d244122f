-- The shape that a stroke holds, as a shape of the definitions.
use Rattle.stroke_core.specs.{Seed.Shape, Seed.Runs, Seed.Disc, declared.shape.Shape.Shape as Held}
use Rattle.stroke_core.specs.declared.shape.Shape.TheVariants as held

-- the runs in the vector, or the disc
abbrev pub shape_of : Held → Shape
shape_of (held.Runs runs) = Runs runs.items
shape_of (held.Disc x y r) = Disc x y r
