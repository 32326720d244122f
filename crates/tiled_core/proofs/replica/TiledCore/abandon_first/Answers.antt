use Rattle.std.proofs.Common.{◌∷◌, refl, sym, ap, ◌∙◌, subst, inl, inr}
use Rattle.core_rules.specs.{Work.Core, Work.work_at, Runs.NoneOut, Runs.tickets_out}
use Rattle.reset_core.proofs.Settling.{first_abandoned, few_tickets, none_is_out}
use Rattle.reset_core.proofs.{Storing.let_go_is_stored, Sweeping.let_go}
use Rattle.core_rules.proofs.Leaving.{no_tickets}
use Rattle.tiled_core.specs.Stored.{core_of, parts_of}
use Rattle.tiled_core.proofs.replica.TiledCore.abandon_first.Goals as goal

pub invariant_of-self : goal.invariant_of-self
invariant_of-self c =
    let tiled = c.self.inside in
    let first = first_abandoned (core_of tiled) c.in-Some.tile c.in-Some.ensures in
    record {
      stored =
          rw c.abandon.ensures (let_go_is_stored (parts_of tiled) c.self.invariant.stored c.in-Some.tile first.0
          (let_go (work_at (core_of tiled) c.in-Some.tile)) first.2);
      tiling = c.self.invariant.tiling;
      beside = c.leave.ensures ∙ c.self.invariant.beside;
      room = c.self.invariant.room;
      mask_rims = c.self.invariant.mask_rims;
      limits_room = c.self.invariant.limits_room;
      states = c.self.invariant.states;
    }

pub returns-in-Some-clause-first : goal.returns-in-Some-clause-first
returns-in-Some-clause-first c =
    let first = first_abandoned (core_of c.self.inside) c.in-Some.tile c.in-Some.ensures in
    inl (
      refl,
      (
        first.0,
        ap (λ (core : Core). tickets_out 0 core.tiles) (sym c.self.view_is) ∙ first.1
            ∙ ap (λ work. first.0 ∷ tickets_out 0 work) (sym c.abandon.ensures),
        rw (c.abandon.ensures, ← c.self.view_is) first.2,
      ),
    )

pub returns-in-Some-clause-few : goal.returns-in-Some-clause-few
returns-in-Some-clause-few c = few_tickets 0 c.args.self.now.tiles

pub returns-in-None-clause-first : goal.returns-in-None-clause-first
returns-in-None-clause-first c =
    let none = subst NoneOut c.self.view_is (none_is_out (core_of c.self.inside) c.in-None.ensures) in
    inr (refl, refl, no_tickets 0 c.args.self.now.tiles none, none)

pub returns-in-None-clause-few : goal.returns-in-None-clause-few
returns-in-None-clause-few c = few_tickets 0 c.args.self.now.tiles
