use Rattle.std.proofs.Common.{◌≡◌, ◌+◌, ◌-◌, ℕ, subst, arith, rules, Result, IfOk}
use Rattle.std.proofs.lemmas.Result.{err_from_is_err_and}
use Rattle.grid_core.specs.declared.memory.Memory.{Memory as Wanting}
use Rattle.core_dispatch.specs.{declared.taken.Taken.Taken, Resting.HasLeft, Taking.IsEditTaken}
use Rattle.steal_pool.proofs.Deals.{below}
use Rattle.core_dispatch.proofs.{Rounds.turn_of, Taking.turn_keeps_pens}
use Rattle.core_dispatch.proofs.Resting.{moved_on, taken_of_left, none_of_left, all_of}
use Rattle.core_dispatch.proofs.books.Books.take_rest.Goals as goal

pub loop-edit-init : goal.loop-edit-init
loop-edit-init c =
    let seen = c.look-left.result in
    let all : seen ≡ seen - 0 = omega arith in
    record {
      moved = c.look-left.ensures.moved;
      left = subst (λ (n : ℕ). HasLeft c.look-left.new.self c.args.end.now n) all c.look-left.ensures.left;
      kept = c.look-left.ensures.kept;
    }

pub take_edit-answer-requires : goal.take_edit-answer-requires
take_edit-answer-requires c =
    let left = c.loop-edit.invariant.left in
    below c.loop-edit.self.desks c.args.end.now.number left.desk left.at

pub returns-in_err-one_taken : goal.returns-in_err-one_taken
returns-in_err-one_taken c =
    let end = c.args.end.now in
    let old = c.loop-edit.self in
    let new = c.take_edit-answer.new.self in
    let answer = c.take_edit-answer.result in
    let turn = turn_of end.number old new answer c.take_edit-answer.ensures.taken c.take_edit-answer.ensures.err in
    let so_far = c.loop-edit.invariant in
    let moved = moved_on end.number c.args.self.now old new answer so_far.moved turn in
    let p = err_from_is_err_and c.from_residual.result c.from_residual.ensures.1 in
    let left = c.look-left.result - c.loop-edit._edit in
    let fewer = c.look-left.result - (c.loop-edit._edit + 1) in
    let more : left ≡ fewer + 1 = omega (arith, c.loop-edit-test.true) in
    record {
      whole = search rules;
      taken = moved.taken;
      others = moved.others;
      spent =
          rw (p.1, p.2)
          (λ is_spent.
          let nothing = subst (λ (a : Result Taken Wanting). IfOk a (λ taken. IsEditTaken end.number old taken new))
          (c.in_err-one_taken.ensures.spent is_spent) c.take_edit-answer.ensures.taken in
          none_of_left end old new nothing left fewer so_far.left more);
      why = rw (p.1, p.2) c.in_err-one_taken.ensures.why;
      end = c.look-left.ensures.end;
      kept = (turn_keeps_pens end.number old new answer turn).ends c.look-left.new.end so_far.kept;
      pens = moved.pens;
    }

pub loop-edit-preserved : goal.loop-edit-preserved
loop-edit-preserved c =
    let end = c.args.end.now in
    let old = c.loop-edit.self in
    let new = c.take_edit-answer.new.self in
    let answer = c.take_edit-answer.result in
    let turn = turn_of end.number old new answer c.take_edit-answer.ensures.taken c.take_edit-answer.ensures.err in
    let so_far = c.loop-edit.invariant in
    let left = c.look-left.result - c.loop-edit._edit in
    let fewer = c.look-left.result - (c.loop-edit._edit + 1) in
    let more : left ≡ fewer + 1 = omega (arith, c.loop-edit-test.true) in
    record {
      moved = moved_on end.number c.args.self.now old new answer so_far.moved turn;
      left =
          taken_of_left end old new answer turn c.in_ok-one_taken.ensures.one left fewer so_far.left more;
      kept = (turn_keeps_pens end.number old new answer turn).ends c.look-left.new.end so_far.kept;
    }

pub returns-clause-whole : goal.returns-clause-whole
returns-clause-whole c =
    let left = c.look-left.result - c.loop-edit._edit in
    let none : left ≡ 0 = omega (arith, c.loop-edit-test.false) in
    all_of c.args.end.now c.loop-edit.self
    (subst (λ (n : ℕ). HasLeft c.loop-edit.self c.args.end.now n) none c.loop-edit.invariant.left)
