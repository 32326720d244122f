use Rattle.std.proofs.Common.{◌≡◌, [], sym, ap, ◌∙◌, subst}
use Rattle.rtrb.specs.Ring.{sent, received, IsPair}
use Rattle.core_dispatch.specs.{Books.edits_of, Pens.submitted}
use Rattle.core_dispatch.proofs.Rings.{ring_added}
use Rattle.core_dispatch.proofs.books.Rings.add.Goals as goal

pub returns : goal.returns
returns c =
    let desk = c.new-2.result in
    let pen = c.new-3.result in
    let ring = c.in_ok-producer.ensures in
    let empty : edits_of desk ≡ [] = ap received c.new-2.ensures ∙ ring.consumer.0 in
    let fresh : submitted pen ≡ [] = ap sent c.new-3.ensures.producer ∙ ring.producer.0 in
    let pair : IsPair pen.producer desk.consumer =
    subst (λ p. IsPair p desk.consumer) (sym c.new-3.ensures.producer)
    (subst (λ q. IsPair c.in_ok-producer.producer q) (sym c.new-2.ensures) ring.pair) in
    let desks = c.reserve.ensures.items in
    let pens = c.reserve-2.ensures.items in
    rw (c.push_reserved.ensures.items, c.push_reserved-2.ensures.items, desks, pens)
    (ring_added _ _ c.args.number pen desk c.requires empty fresh c.new-3.ensures.number pair)
