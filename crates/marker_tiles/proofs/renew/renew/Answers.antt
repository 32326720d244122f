use Rattle.std.proofs.Common.{List, length, ◌≡◌, sym, subst, arith, IsTrue}
use Rattle.std.proofs.lemmas.Bool.Decides.{nat_tests}
use Rattle.stroke_lattice.specs.Change.{Turnover}
use Rattle.marker_tiles.specs.{declared.window.Window.Window, Painting.in_some}
use Rattle.marker_tiles.proofs.Keeping.{marks_where_none_died, marks_where_some_died}
use Rattle.grid_core.proofs.Common.{no_length}
use Rattle.marker_tiles.proofs.renew.renew.Goals as goal

pub returns-then-not-is_empty-clause-marks : goal.returns-then-not-is_empty-clause-marks
returns-then-not-is_empty-clause-marks c =
    let change : Turnover = record { born = c.args.born.now; dead = c.args.dead.now } in
    marks_where_some_died c.args.mask.now c.args.marker.now c.raise_by.new.image c.clear_of.new.image
    c.raise_by_live.new.image c.args.state.now change c.as_slice.result.now c.requires.known c.raise_by.ensures
    c.clear_of.ensures
    (λ p inside dead.
    subst (λ (ws : List Window). IsTrue (in_some ws p)) (sym c.as_slice.ensures)
    (c.windows_round-windows.ensures.covered p inside dead))
    c.raise_by_live.ensures

pub returns-else-not-is_empty-clause-marks : goal.returns-else-not-is_empty-clause-marks
returns-else-not-is_empty-clause-marks c =
    let dead = c.args.dead.now in
    let count : length dead ≡ 0 = grind (arith, nat_tests) in
    marks_where_none_died c.args.mask.now c.args.marker.now c.raise_by.new.image c.args.state.now
    (record { born = c.args.born.now; dead = dead }) c.requires.known c.raise_by.ensures (no_length dead count)
