use Rattle.std.proofs.Common.{[], ◌∷◌, ◌++◌, refl, sym, subst, arith}
use Rattle.core_dispatch.specs.Taking.{HaveTakenEdits, edits_in, is_wanting}
use Rattle.core_dispatch.proofs.Rounds.{turns_more, none_taken, more_taken, one_taken, pens_through, turn_of}
use Rattle.core_dispatch.proofs.Rounds.{at_most_one, counted_more, none_counted}
use Rattle.core_dispatch.proofs.Taking.{same_pens, turn_keeps_pens}
use Rattle.core_dispatch.proofs.books.Books.take_edits.Goals as goal

pub loop-pen-init : goal.loop-pen-init
loop-pen-init c = record {
  turns = ([], refl, none_counted edits_in is_wanting);
  taken = none_taken c.args.self.now c.args.self.now refl refl refl;
  pens = same_pens c.args.self.now c.args.self.now refl;
}

pub loop-pen-preserved : goal.loop-pen-preserved
loop-pen-preserved c =
    let so_far = c.loop-pen.invariant in
    let answers = so_far.turns.0 in
    let counted = so_far.turns.2 in
    let answer = c.take_edit-answer.result in
    let pen = c.loop-pen.pen in
    let start = c.args.self.now in
    let old = c.loop-pen.self in
    let new = c.take_edit-answer.new.self in
    let turn = turn_of pen old new answer c.take_edit-answer.ensures.taken c.take_edit-answer.ensures.err in
    record {
      turns = (
        answers ++ answer ∷ [],
        turns_more 0 start old new answers answer pen (omega (arith, counted.all)) so_far.turns.1 turn,
        counted_more edits_in is_wanting answers answer pen c.loop-pen.edits.edits c.and-edits.result.edits
            c.loop-pen.edits.memory c.and-edits.result.memory counted (at_most_one answer) c.and-edits.ensures.edits
            c.and-edits.ensures.memory,
      );
      taken =
          subst (λ n. HaveTakenEdits start n new) (sym c.and-edits.ensures.edits)
          (more_taken start old new c.loop-pen.edits.edits (edits_in answer) so_far.taken
          (one_taken pen old new answer turn));
      pens = pens_through start old new so_far.pens (turn_keeps_pens pen old new answer turn);
    }

pub returns-clause-round : goal.returns-clause-round
returns-clause-round c =
    let t = c.loop-pen.invariant.turns in
    record {
      answers = t.0;
      turns = t.1;
      all = omega (arith, t.2.all, c.pens-pen-end.ensures, c.loop-pen-test.false, c.loop-pen.auto.pen-end);
      count = t.2.count_is;
      memory = t.2.memory_is;
    }
