use Rattle.std.proofs.Common.{◌≡◌, ◌-◌, None}
use Rattle.stroke_lattice.specs.State.{HasTombstone}
use Rattle.spd_codec.specs.Reading.{many_at, tag_at, onto, with_tombstone}
use Rattle.spd_codec.proofs.NewTags.{AreNewAbove}
use Rattle.spd_codec.proofs.reader.Reader.tombstones.Given as goal

-- the tombstones that are left, added to those so far, are all; and a tag that may come next is new
abbrev pub invariant-loop : goal.invariant-loop
invariant-loop l = record {
  read : onto with_tombstone l.state (many_at (λ tag. tag) tag_at (l.count - l.counter) l.last l.self.rest.now)
      ≡ onto with_tombstone l.fn.state (many_at (λ tag. tag) tag_at l.count None l.fn.self.rest.now);
  new : AreNewAbove (HasTombstone l.state) l.last;
}
