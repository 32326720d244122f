use Rattle.std.proofs.Common.{◌≡◌, ◌++◌, ◌<◌, ◌^◌, flat_map}
use Rattle.std.specs.List.{AllByRecursion}
use Rattle.stroke_lattice.specs.Pieces.{tombstones_of}
use Rattle.spd_codec.specs.Spelling.{tag_text}
use Rattle.spd_codec.proofs.writing.put_tombstones.Given as goal

abbrev pub invariant-loop-tag : goal.invariant-loop-tag
invariant-loop-tag l = record {
  text : l.out.items ++ flat_map tag_text l.tag-iterator ≡ l.initial.out.items ++ flat_map tag_text
      (tombstones_of l.delta);
  fit : AllByRecursion (λ tag. tag < 2 ^ 128) l.tag-iterator
      → AllByRecursion (λ tag. tag < 2 ^ 128) (tombstones_of l.delta);
}
