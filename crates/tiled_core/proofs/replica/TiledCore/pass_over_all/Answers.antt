-- What the tactics leave open of `pass_over_all`.
use Rattle.std.proofs.Common.{◌-◌, ap, arith, length, subst, sym}
use Rattle.core_rules.specs.Work.{Core}
use Rattle.reset_core.specs.Replica.{IsStored}
use Rattle.tiled_core.specs.{Stored.core_of, Stored.parts_of, Passing.ArePassed}
use Rattle.tiled_core.proofs.Passing.{WerePassed, were_passed}
use Rattle.tiled_core.proofs.replica.TiledCore.pass_over_all.Goals.{After-later_serial-serial}
use Rattle.tiled_core.proofs.replica.TiledCore.pass_over_all.Goals as goal

are_passed : (c : After-later_serial-serial)
    → WerePassed (parts_of c.self.inside) c.args.from (c.args.to - c.args.from)
are_passed c =
    were_passed (c.args.to - c.args.from) c.args.from (parts_of c.self.inside) c.self.invariant.stored
    c.later_serial-serial.ensures.fits (omega (arith, c.requires, ap (λ (k : Core). length k.tiles) c.self.view_is))

pub invariant_of-self : goal.invariant_of-self
invariant_of-self c = record {
  stored =
      subst (λ n. IsStored (record (parts_of c.self.inside) { serial = n })) (sym c.later_serial-serial.ensures.value)
      (rw c.count_ready-passed.ensures
      (are_passed (goal.at.invariant_of-self c).After-later_serial-serial).stored);
  tiling = c.self.invariant.tiling;
  beside = c.self.invariant.beside;
  room = c.self.invariant.room;
  mask_rims = c.self.invariant.mask_rims;
  limits_room = c.self.invariant.limits_room;
  states = c.self.invariant.states;
}

pub returns-clause-passed : goal.returns-clause-passed
returns-clause-passed c =
    subst (λ (k : Core). ArePassed c.args.from (c.args.to - c.args.from) k
    (core_of (record c.self.inside { serial = c.later_serial-serial.result }))) c.self.view_is
    (rw (c.later_serial-serial.ensures.value, c.count_ready-passed.ensures)
    (are_passed (goal.at.returns-clause-passed c).After-later_serial-serial).passed)
