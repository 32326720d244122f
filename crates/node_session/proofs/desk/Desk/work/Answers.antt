use Rattle.std.proofs.Common.{◌∙◌, inl, inr, refl, subst, sym}
use Rattle.std.proofs.lemmas.Bool.{false≢true}
use Rattle.studio.specs.Keeping.{books_of}
use Rattle.node_session.specs.{declared.desk.Desk.Desk, Working.HasTakenTurns}
use Rattle.node_session.proofs.Desks.{silent_through}
use Rattle.node_session.proofs.desk.Desk.work.Goals as goal

pub returns-then-settle_where_much-clause-silent : goal.returns-then-settle_where_much-clause-silent
returns-then-settle_where_much-clause-silent g c =
    silent_through _ _ _
    (silent_through _ _ _ c.take_in_all.ensures.silent c.settle_where_much.ensures.silent) c.turn-is_busy.ensures.silent

pub returns-then-settle_where_much-clause-worked : goal.returns-then-settle_where_much-clause-worked
returns-then-settle_where_much-clause-worked g c = (
  c.take_in_all.new.self.keeper,
  c.take_in_all.ensures.taken,
  inl (
    c.settle_where_much.ensures.much.0 c.if-settle_where_much.true,
    (
      c.settle_where_much.new.self.keeper,
      c.turn-is_busy.new.self.keeper,
      c.turn-is_busy.result,
      c.settle_where_much.ensures.settled c.if-settle_where_much.true,
      c.turn-is_busy.ensures.turn,
      refl,
    ),
  ),
)

pub returns-clause-silent : goal.returns-clause-silent
returns-clause-silent g c =
    silent_through _ _ _
    (silent_through _ _ _ c.take_in_all.ensures.silent c.settle_where_much.ensures.silent)
    c.take_turns.ensures.silent

pub returns-clause-worked : goal.returns-clause-worked
returns-clause-worked g c = (
  c.take_in_all.new.self.keeper,
  c.take_in_all.ensures.taken,
  inr (
    λ much. false≢true (sym c.if-settle_where_much.false ∙ c.settle_where_much.ensures.much.1 much),
    subst
        (λ (d : Desk). HasTakenTurns 1024 c.args.threads 32768 d.keeper (books_of c.take_turns.new.self.keeper))
        (c.settle_where_much.ensures.same c.if-settle_where_much.false) c.take_turns.ensures.worked,
  ),
)
