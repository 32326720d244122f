use Rattle.std.proofs.Common.{arith, subst, sym, take, ◌+◌}
use Rattle.stroke_lattice.specs.Growth.{IsWithoutStrokes}
use Rattle.stroke_lattice.proofs.Growing.{without_next_stroke}
use Rattle.stroke_lattice.proofs.state.State.remove_strokes.Goals as goal

pub loop-tag-preserved : goal.loop-tag-preserved
loop-tag-preserved c =
    subst (IsWithoutStrokes (take (c.loop-tag.tag-index + 1) c.args.tags.now) c.args.self.now) (sym c.remove.ensures)
    (without_next_stroke c.args.self.now c.loop-tag.self c.args.tags.now c.loop-tag.tag-index c.tag-item.result
    (omega arith) c.tag-item.is c.loop-tag.invariant)
