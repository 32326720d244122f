-- What the loop of `push_column` keeps.
use Rattle.std.proofs.Common.{◌≡◌, ◌++◌, map}
use Rattle.std.specs.List.{range_with_len}
use Rattle.grid_core.specs.Raster.{value_at}
use Rattle.tile_generations.proofs.rim.push_column.Given as goal

-- the values so far stand behind the others
abbrev pub invariant-loop-y : goal.invariant-loop-y
invariant-loop-y l =
    l.values.items
    ≡ l.initial.values.items ++ map (λ y. value_at l.image (record { x = l.x; y = y })) (range_with_len 0 l.y)
