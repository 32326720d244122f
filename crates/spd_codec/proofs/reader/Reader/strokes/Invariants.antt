use Rattle.std.proofs.Common.{◌≡◌, ◌-◌, None}
use Rattle.stroke_lattice.specs.State.{HasSomeStroke}
use Rattle.spd_codec.specs.Reading.{many_at, stroke_at, onto, with_stroke}
use Rattle.spd_codec.proofs.NewTags.{AreNewAbove}
use Rattle.spd_codec.proofs.reader.Reader.strokes.Given as goal

-- the strokes that are left, added to those so far, are all; and a tag that may come next is new
abbrev pub invariant-loop : goal.invariant-loop
invariant-loop l = record {
  read : onto with_stroke l.state
      (many_at (λ entry. entry.0) (stroke_at l.version) (l.count - l.counter) l.last l.self.rest.now)
      ≡ onto with_stroke l.fn.state (many_at (λ entry. entry.0) (stroke_at l.version) l.count None l.fn.self.rest.now);
  new : AreNewAbove (HasSomeStroke l.state) l.last;
}
