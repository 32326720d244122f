use Rattle.std.proofs.{Common.sym, Common.◌∙◌, Common.arith, lemmas.Bool.Decides.nat_tests}
use Rattle.stroke_core.proofs.SeedLemmas.{kind_from_test, same_at_runs}
use Rattle.stroke_core.proofs.stroke.Stroke.is_same.Goals.{then-level, else-level}
use Rattle.stroke_core.proofs.stroke.Stroke.is_same.Goals as goal

pub returns-then-eq : goal.returns-then-eq
returns-then-eq c =
    elim c.if-level.branch [
      | then-level w ↦
          let level = sym c.level.ensures.value ∙ w.if-level.true ∙ c.level-2.ensures.value in
          let kind =
          sym w.kind.ensures.value
          ∙ kind_from_test _ _ (sym w.eq.ensures ∙ sym w.value-is ∙ c.if-eq.true)
          ∙ w.kind-then-level.ensures.value in
          rw (c.eq-then-eq.ensures, c.runs.ensures.values, c.runs-then-eq.ensures.values) (same_at_runs _ _ level kind)
      | else-level w ↦ grind (arith, nat_tests, w.if-level.false, w.value-is, c.if-eq.true)
    ]
