use Rattle.std.proofs.Common.{ap, subst, sym, ◌∙◌}
use Rattle.rtrb.specs.Ring.{sent}
use Rattle.crossbeam_deque.specs.Handles.{view, stealer_deque, IsPassOf}
use Rattle.steal_pool.specs.{declared.parcel.Parcel.Parcel, declared.rule.EndView.EndView, Names.stolen_from}
use Rattle.steal_pool.specs.Parcels.{jobs_by}
use Rattle.steal_pool.proofs.{Parcels.follows, Desks.HasReported, Desks.has_reported}
use Rattle.steal_pool.proofs.Desks.{parcel_is_from}
use Rattle.steal_pool.proofs.desk.Desk.report.Goals as goal

pub send-requires-clause-follows : goal.send-requires-clause-follows
send-requires-clause-follows c =
    let was = c.self.inside in
    let deque = stealer_deque was.stealer in
    let more = (view {V = EndView} was.pass).got in
    let parcel : Parcel = record { report = c.args.report; pass = c.replace-pass.result } in
    let put = c.replace-pass.ensures.value in
    let kept = c.self.invariant in
    follows deque (sent was.ring) parcel kept.2
    (parcel_is_from deque (stolen_from was.stealer) was.ring was.held more c.args.self.now parcel c.self.view_is kept.2
    kept.0 c.requires.none_held c.requires.reported (ap (λ p. jobs_by (record { report = c.args.report; pass = p })) put)
    (subst (λ p. IsPassOf deque p) (sym put) kept.1))

module _ (c : goal.After-is_none) where
  done : HasReported (stealer_deque c.self.inside.stealer) c.args.self.now (stolen_from c.self.inside.stealer)
      c.send.new.ring c.send.result (view {V = EndView} c.replace-pass.new.dest).got
  done =
      let was = c.self.inside in
      let deque = stealer_deque was.stealer in
      let more = (view {V = EndView} was.pass).got in
      let left = (view {V = EndView} c.replace-pass.new.dest).got in
      let parcel : Parcel = record { report = c.args.report; pass = c.replace-pass.result } in
      let put = c.replace-pass.ensures.value in
      let next = c.replace-pass.ensures.after in
      let is = ap (λ p. jobs_by (record { report = c.args.report; pass = p })) put in
      let empty =
      ap (λ p. jobs_by (record { report = c.args.report; pass = p })) next
      ∙ ap (λ (v : EndView). v.got) c.pass-next.ensures.1 in
      let kept = c.self.invariant in
      has_reported deque (stolen_from was.stealer) was.ring was.held more c.args.self.now parcel c.self.view_is kept.2
      kept.0 c.requires.none_held c.requires.reported is (subst (λ p. IsPassOf deque p) (sym put) kept.1)
      c.send.new.ring c.send.result left empty c.send.ensures.all c.send.ensures.same

pub invariant_of-self : goal.invariant_of-self
invariant_of-self c = (
  (done c).reported,
  subst (λ p. IsPassOf (stealer_deque c.self.inside.stealer) p) (sym c.replace-pass.ensures.after)
      c.pass-next.ensures.0,
  (done c).headed,
  (done c).held_from,
  c.send.ensures.room,
)

pub returns-clause-got : goal.returns-clause-got
returns-clause-got c = (done c).got
