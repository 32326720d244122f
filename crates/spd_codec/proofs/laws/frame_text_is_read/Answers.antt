use Rattle.spd_codec.proofs.FrameLaws.{one_frame, spelled}
use Rattle.spd_codec.specs.Spelling.{frame_text}
use Rattle.spd_codec.proofs.laws.frame_text_is_read.Goals as goal

pub returns : goal.returns
returns c = record {
  spelled = λ version f writable.
      spelled version f writable.within writable.print_length writable.strokes writable.tombstones;
  only = λ version f other writable h. one_frame (frame_text version f.conn f.print f.delta) other f h
      (spelled version f writable.within writable.print_length writable.strokes writable.tombstones);
}
