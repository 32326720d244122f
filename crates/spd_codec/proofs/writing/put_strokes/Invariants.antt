use Rattle.std.proofs.Common.{◌≡◌, ◌++◌, flat_map}
use Rattle.std.specs.List.{AllByRecursion}
use Rattle.stroke_lattice.specs.Pieces.{strokes_of}
use Rattle.spd_codec.specs.{declared.version.Version.TheVariants.Second, Spelling.stroke_text, Spelling.StrokeFits}
use Rattle.spd_codec.proofs.writing.put_strokes.Given as goal

abbrev pub invariant-loop-tag : goal.invariant-loop-tag
invariant-loop-tag l = record {
  text : l.out.items ++ flat_map (stroke_text Second) l.tag-iterator
      ≡ l.initial.out.items ++ flat_map (stroke_text Second) (strokes_of l.delta);
  fit : AllByRecursion (StrokeFits Second) l.tag-iterator → AllByRecursion (StrokeFits Second) (strokes_of l.delta);
}
