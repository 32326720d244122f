use Rattle.std.proofs.Common.{◌≡◌, ℕ, arith, subst}
use Rattle.node_session.specs.Working.{WorksOn}
use Rattle.node_session.proofs.Desks.{studio_stays, works_behind, works_itself, works_through}
use Rattle.node_session.proofs.desk.Desk.ticks.Goals as goal

pub loop-tick-init : goal.loop-tick-init
loop-tick-init g c = works_behind 0 _ _ _ _ _ c.settle_where_much.ensures.silent (works_itself _ _)

-- node and keeper are of one studio still
pub tick-requires : goal.tick-requires
tick-requires g c = (c.type_bounds.sync-R, studio_stays _ _ c.loop-tick.invariant.stays c.requires)

pub loop-tick-preserved : goal.loop-tick-preserved
loop-tick-preserved g c = works_through _ 1 _ _ _ _ _ _ c.loop-tick.invariant c.tick.ensures.works

pub returns : goal.returns
returns g c =
    let all : c.loop-tick._tick ≡ c.args.ticks = omega arith in
    subst (λ (n : ℕ). WorksOn n c.args.self.now c.loop-tick.self (g.L.Link.seen c.args.link.now)
    (g.L.Link.seen c.loop-tick.link)) all c.loop-tick.invariant
