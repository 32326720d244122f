use Rattle.std.proofs.Common.{◌≡◌, ◌++◌, drop}
use Rattle.std.specs.List.{AllByRecursion}
use Rattle.spd_codec.specs.{declared.version.Version.TheVariants.Second, StateFile.file_text}
use Rattle.spd_codec.specs.Spelling.{frame_text, Spells}
use Rattle.spd_codec.proofs.state_file.write_frames.Given as goal

abbrev pub invariant-loop-piece : goal.invariant-loop-piece
invariant-loop-piece l = record {
  text : l.out.items ++ file_text l.conn l.print (drop l.piece-index l.piece-items) ≡ file_text l.conn l.print
      l.piece-items;
  spells : AllByRecursion (λ piece. Spells (frame_text Second l.conn l.print piece) l.conn l.print piece)
      (drop l.piece-index l.piece-items)
      → AllByRecursion (λ piece. Spells (frame_text Second l.conn l.print piece) l.conn l.print piece) l.piece-items;
}
