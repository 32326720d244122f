use Rattle.std.proofs.Common.{◌≤◌, sym, ◌∙◌, arith, inl, inr, refl}
use Rattle.std.proofs.lemmas.Bool.{false≢true}
use Rattle.grid_core.specs.Raster.{headroom}
use Rattle.raster_sweeps.specs.Growth.{cell_of, rows_of}
use Rattle.raster_sweeps.proofs.Grown.{grown_filled, grown_headroom, grown_twice}
use Rattle.raster_sweeps.proofs.{Growing.grown_nowhere, Growing.can_close_on, Ways.with_last_inside}
use Rattle.row_scans.proofs.Bags.{behind_one, from_behind}
use Rattle.raster_sweeps.proofs.raising.drain.Goals as goal

pub loop-cell-init : goal.loop-cell-init
loop-cell-init c = record {
  grown = grown_nowhere c.requires.close;
  inside = c.requires.inside;
  waits = λ waited. waited;
}

pub follow-last-requires-clause-close : goal.follow-last-requires-clause-close
follow-last-requires-clause-close c = can_close_on c.requires.close c.loop-cell.invariant.grown

pub follow-last-requires-clause-inside : goal.follow-last-requires-clause-inside
follow-last-requires-clause-inside c =
    c.loop-cell.invariant.inside c.in-Some.cell ((c.in-Some.ensures.each c.in-Some.cell).1 (inr refl))

pub spread-requires-clause-close : goal.spread-requires-clause-close
spread-requires-clause-close c =
    can_close_on (can_close_on c.requires.close c.loop-cell.invariant.grown) (c.follow-last.ensures c.args.conn).grown

pub spread-requires-clause-inside : goal.spread-requires-clause-inside
spread-requires-clause-inside c =
    with_last_inside c.pop.new.self (c.follow-last.ensures c.args.conn)
    (λ i waits. c.loop-cell.invariant.inside i (from_behind c.in-Some.ensures i waits))

pub returns-then-not-spread : goal.returns-then-not-spread
returns-then-not-spread c =
    let conn = c.args.conn in
    let size = c.args.size in
    let image = rows_of size c.args.image.now in
    let followed = rows_of size c.follow-last.new.image in
    let grown = grown_twice c.loop-cell.invariant.grown (c.follow-last.ensures conn).grown in
    let before : headroom followed.cells ≤ headroom image.cells = grown_headroom c.requires.close.filled grown in
    record {
      grown = grown_twice grown c.spread.ensures.grown;
      closed = λ done. absurd (false≢true done);
      rose =
          elim c.spread.ensures.fell [
            | inl room ↦ absurd (false≢true (sym c.if-not-spread.true ∙ room))
            | inr less ↦ inr (omega (arith, less, before))
          ];
    }

pub loop-cell-preserved : goal.loop-cell-preserved
loop-cell-preserved c =
    let conn = c.args.conn in
    let rect = c.args.rect in
    let size = c.args.size in
    let followed = c.follow-last.ensures conn in
    record {
      grown = grown_twice c.loop-cell.invariant.grown (grown_twice followed.grown c.spread.ensures.grown);
      inside = c.spread.ensures.inside;
      waits = λ waited.
          c.spread.ensures.waits c.if-not-spread.false
          (followed.waits c.pop.new.self
          (λ p q raises.
          behind_one c.in-Some.ensures (cell_of rect size.w p) (c.loop-cell.invariant.waits waited p q raises)));
    }

pub loop-cell-smaller : goal.loop-cell-smaller
loop-cell-smaller c =
    let conn = c.args.conn in
    let size = c.args.size in
    let between = rows_of size c.loop-cell.image in
    let followed = rows_of size c.follow-last.new.image in
    let filled = grown_filled c.requires.close.filled c.loop-cell.invariant.grown in
    let falls : headroom followed.cells ≤ headroom between.cells =
    grown_headroom filled (c.follow-last.ensures conn).grown in
    omega (arith, falls, c.in-Some.ensures.count, c.spread.ensures.effort c.if-not-spread.false)
