use Rattle.std.proofs.Common.{ℕ, List, subst}
use Rattle.stroke_lattice.specs.Growth.{IsWithoutStrokes, IsWithoutTombstones}
use Rattle.stroke_lattice.proofs.Growing.{grown_is_join, as_before}
use Rattle.stroke_lattice.proofs.state.State.take_in.Goals as goal

pub returns-in-Ok-clause-join : goal.returns-in-Ok-clause-join
returns-in-Ok-clause-join c = grown_is_join c.args.self.now c.args.delta.now c.grow.new.self c.requires
    c.in-Ok.ensures.between c.in-Ok.ensures.strokes c.in-Ok.ensures.tombstones

pub returns-clause-err : goal.returns-clause-err
returns-clause-err c =
    as_before c.args.self.now c.args.delta.now c.grow.new.self c.remove_strokes.new.self
    c.remove_tombstones.new.self c.in_ok-strokes.strokes.items c.in_ok-tombstones.tombstones.items
    c.in_ok-strokes.ensures c.in_ok-tombstones.ensures c.in-Err.ensures.between
    (subst (λ (l : List ℕ). IsWithoutStrokes l c.grow.new.self c.remove_strokes.new.self) c.deref.ensures.value
    c.remove_strokes.ensures)
    (subst (λ (l : List ℕ). IsWithoutTombstones l c.remove_strokes.new.self c.remove_tombstones.new.self)
    c.deref-in-Err.ensures.value c.remove_tombstones.ensures)
