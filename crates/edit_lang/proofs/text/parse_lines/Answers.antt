use Rattle.std.proofs.Common.{◌+◌, Ok, Some, sym, ◌∙◌, arith}
use Rattle.std.proofs.{lemmas.Bool.eqb-true, lemmas.Result.err_from_is_err_and}
use Rattle.edit_lang.specs.Edit.{LineMeans}
use Rattle.edit_lang.proofs.Reading.{reads_on, faults, reads_all}
use Rattle.edit_lang.proofs.text.parse_lines.Goals as goal

pub returns-in_err-delta-clause-refused : goal.returns-in_err-delta-clause-refused
returns-in_err-delta-clause-refused c =
    let p = err_from_is_err_and c.from_residual.result c.from_residual.ensures.1 in
    rw (p.1, p.2) (faults c.args.text.now c.loop-rest.rest.now c.first_line.result.0.now c.first_line.result.1.now
    (c.loop-rest.number + 1)
    c.loop-rest.deltas.items c.in_err-delta.field-0.0 c.first_line.ensures.lines c.in_err-delta.ensures
    c.loop-rest.invariant.read)

pub loop-rest-preserved-in_ok-push : goal.loop-rest-preserved-in_ok-push
loop-rest-preserved-in_ok-push c =
    let means : LineMeans (c.loop-rest.number + 1) c.first_line.result.0.now (Ok (Some c.in-Some.delta)) =
    rw c.in-Some.is at c.in_ok-delta.ensures in
    record {
      read = rw c.in_ok-push.ensures.items (reads_on c.args.text.now c.loop-rest.rest.now c.first_line.result.0.now
          c.first_line.result.1.now
          (c.loop-rest.number + 1) c.loop-rest.deltas.items (Some c.in-Some.delta) c.first_line.ensures.lines means
          c.loop-rest.invariant.read);
      count = omega (arith, c.first_line.ensures.shorter, c.loop-rest.invariant.count);
    }

pub returns-clause-spelled : goal.returns-clause-spelled
returns-clause-spelled c =
    reads_all c.args.text.now c.loop-rest.rest.now (c.loop-rest.number + 1) c.loop-rest.deltas.items
    (eqb-true _ 0 (sym c.is_empty.ensures ∙ c.loop-rest-test.false)) c.loop-rest.invariant.read
