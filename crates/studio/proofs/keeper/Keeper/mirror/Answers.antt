use Rattle.std.proofs.Common.{refl, sym, ◌∙◌}
use Rattle.std.proofs.lemmas.Bool.{false≢true}
use Rattle.live_board.specs.Seats.{ground_of, keeper_view}
use Rattle.studio.proofs.Mirroring.{copy_is, is_mirrored}
use Rattle.studio.specs.Keeping.{core_of}
use Rattle.studio.proofs.keeper.Keeper.mirror.Goals as goal

pub returns-in_err-advanced-clause-spent : goal.returns-in_err-advanced-clause-spent
returns-in_err-advanced-clause-spent c = λ _. record {
  last = c.in_err-advanced.ensures.spent.1;
  marker = c.in_ok-marker.marker;
  marks = copy_is c.core-core.result.now (core_of c.args.self.now) c.marker.result.now.marker c.marker-2.result.now
      c.in_ok-marker.marker c.core-core.ensures.value c.marker.ensures.marks c.marker-2.ensures.value
      c.in_ok-marker.ensures;
  falls = c.in_err-advanced.ensures.spent.2;
}

pub returns-clause-mirrored : goal.returns-clause-mirrored
returns-clause-mirrored c = is_mirrored (ground_of c.args.board.now) (core_of c.args.self.now)
    c.in_ok-marker.marker c.in_ok-advanced.advanced (keeper_view c.args.seat.now) (keeper_view c.bring.new.seat)
    (keeper_view c.plant_all.new.self) c.in_ok-advanced.ensures.brought c.plant_all.ensures.generation
    c.plant_all.ensures.marker c.plant_all.ensures.planted
    (copy_is c.core-core.result.now (core_of c.args.self.now) c.marker.result.now.marker c.marker-2.result.now
    c.in_ok-marker.marker c.core-core.ensures.value c.marker.ensures.marks c.marker-2.ensures.value
    c.in_ok-marker.ensures)

pub returns-then-is_planted-clause-mirrored : goal.returns-then-is_planted-clause-mirrored
returns-then-is_planted-clause-mirrored c = is_mirrored (ground_of c.args.board.now) (core_of c.args.self.now)
    c.in_ok-marker.marker c.in_ok-advanced.advanced (keeper_view c.args.seat.now) (keeper_view c.bring.new.seat)
    (keeper_view c.bring.new.seat) c.in_ok-advanced.ensures.brought refl refl
    (c.in_ok-advanced.ensures.planted (λ yes. false≢true (sym c.if-is_planted.true ∙ yes)))
    (copy_is c.core-core.result.now (core_of c.args.self.now) c.marker.result.now.marker c.marker-2.result.now
    c.in_ok-marker.marker c.core-core.ensures.value c.marker.ensures.marks c.marker-2.ensures.value
    c.in_ok-marker.ensures)
