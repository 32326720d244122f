use Rattle.std.proofs.Common.{◌≡◌, [], List, ap, subst, map, arith}
use Rattle.std.proofs.lemmas.Result.{err_from_is_err_and}
use Rattle.core_dispatch.specs.{declared.desk.PenDesk.PenDesk, declared.pen.Pen.Pen}
use Rattle.core_dispatch.specs.{Books.edits_of, Pens.AreRings, Pens.submitted}
use Rattle.core_dispatch.proofs.books.Rings.new.Goals as goal

no_rings : (desks : List PenDesk) (pens : List Pen) → desks ≡ [] → pens ≡ [] → AreRings 0 desks pens
no_rings desks pens no_desks no_pens = record {
  taken = ap (map edits_of) no_desks;
  sent = ap (map submitted) no_pens;
  rings = λ i none. absurd (omega (arith, none));
}

pub loop-number-init : goal.loop-number-init
loop-number-init c = no_rings c.new.result.items c.new-2.result.items c.new.ensures.items c.new-2.ensures.items

pub add-requires : goal.add-requires
add-requires c = c.loop-number.invariant

pub returns-in_err-add : goal.returns-in_err-add
returns-in_err-add c =
    let p = err_from_is_err_and c.from_residual.result c.from_residual.ensures.1 in
    rw p.1 tt

pub loop-number-preserved : goal.loop-number-preserved
loop-number-preserved c = c.in_ok-add.ensures

pub returns : goal.returns
returns c =
    subst (λ n. AreRings n c.loop-number.rings.desks.items c.loop-number.rings.pens.items)
    (omega (arith, c.loop-number-test.false, c.loop-number.auto.number-end)) c.loop-number.invariant
