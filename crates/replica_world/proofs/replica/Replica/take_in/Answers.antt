use Rattle.std.proofs.Common.{◌++◌, ◌∷◌, [], List, ap, subst}
use Rattle.core_rules.specs.{Merge.IsMerged, Work.Core}
use Rattle.stroke_lattice.specs.State.{State}
use Rattle.replica_world.specs.World.{Replica}
use Rattle.replica_world.proofs.Refusals.{not_taken}
use Rattle.replica_world.proofs.replica.Replica.take_in.Goals as goal

pub invariant_of-self : goal.invariant_of-self
invariant_of-self c = rw (c.in-Err.ensures.items, c.why_not_taken.ensures.same) c.self.invariant

pub returns-in-Err-clause-refused : goal.returns-in-Err-clause-refused
returns-in-Err-clause-refused c =
    not_taken c.self.inside.core c.args.self.now.core c.args.delta.now c.why_not_taken.result
    (ap (λ (r : Replica). r.core) c.self.view_is) c.why_not_taken.ensures.refused

pub returns-in-Err-clause-err : goal.returns-in-Err-clause-err
returns-in-Err-clause-err c = rw (c.in-Err.ensures.items, c.why_not_taken.ensures.same) c.self.view_is

pub push_reserved-requires : goal.push_reserved-requires
push_reserved-requires c = c.in-Ok.ensures.room

pub invariant_of-self-in-Ok-merge : goal.invariant_of-self-in-Ok-merge
invariant_of-self-in-Ok-merge c =
    let longer = c.join_of_a_longer_list.ensures c.self.inside.took.items c.self.inside.core.state c.args.delta.now
    c.merge.new.self.state c.self.invariant in
    rw (c.push_reserved.ensures.items, c.in-Ok.ensures.items, c.in-Ok.ensures.copy)
    (longer.1 c.in-Ok-merge.ensures.merged.join)

pub returns-in-Ok-merge-clause-merged : goal.returns-in-Ok-merge-clause-merged
returns-in-Ok-merge-clause-merged c = (
  c.in-Ok-merge._change,
  subst (λ (core : Core). IsMerged core c.args.delta.now c.in-Ok-merge._change c.merge.new.self)
      (ap (λ (r : Replica). r.core) c.self.view_is) c.in-Ok-merge.ensures.merged,
)

pub returns-in-Ok-merge-clause-took : goal.returns-in-Ok-merge-clause-took
returns-in-Ok-merge-clause-took c =
    rw (c.push_reserved.ensures.items, c.in-Ok.ensures.items, c.in-Ok.ensures.copy)
    (ap (λ (took : List State). took ++ c.args.delta.now ∷ []) (ap (λ (r : Replica). r.took) c.self.view_is))

pub returns-in-Err-merge-clause-refused : goal.returns-in-Err-merge-clause-refused
returns-in-Err-merge-clause-refused c =
    not_taken c.self.inside.core c.args.self.now.core c.args.delta.now c.in-Err-merge.why
    (ap (λ (r : Replica). r.core) c.self.view_is) c.in-Err-merge.ensures.refused

pub returns-in-Err-merge-clause-err : goal.returns-in-Err-merge-clause-err
returns-in-Err-merge-clause-err c = rw (c.in-Ok.ensures.items, c.in-Err-merge.ensures.err) c.self.view_is
