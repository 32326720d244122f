use Rattle.std.proofs.Common.{arith, subst, sym, take, ◌+◌}
use Rattle.stroke_lattice.specs.Growth.{IsWithoutTombstones}
use Rattle.stroke_lattice.proofs.Growing.{without_next_tombstone}
use Rattle.stroke_lattice.proofs.state.State.remove_tombstones.Goals as goal

pub loop-tag-preserved : goal.loop-tag-preserved
loop-tag-preserved c =
    subst (IsWithoutTombstones (take (c.loop-tag.tag-index + 1) c.args.tags.now) c.args.self.now)
    (sym c.dig_up.ensures)
    (without_next_tombstone c.args.self.now c.loop-tag.self c.args.tags.now c.loop-tag.tag-index c.tag-item.result
    (omega arith) c.tag-item.is c.loop-tag.invariant)
