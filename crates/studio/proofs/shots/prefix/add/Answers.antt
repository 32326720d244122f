use Rattle.std.proofs.Common.{sym, ◌∙◌, ap}
use Rattle.studio.proofs.Adding.{adds_moves}
use Rattle.studio.proofs.shots.prefix.add.Goals as goal

pub compare_exchange-found-requires : goal.compare_exchange-found-requires
compare_exchange-found-requires g c =
    let h = c.requires.head in
    let again = c.again-reached.ensures in
    let offer = c.plain-offer.ensures in
    let pen = c.no_pen-pen.ensures in (
      ap (λ w. w.tracked) h,
      ap (λ s. s.book) again ∙ sym (ap (λ w. w.book) h),
      pen.0 ∙ (ap (λ s. s.book) again ∙ sym (ap (λ w. w.book) h)),
      offer.0,
      rw (ap (λ w. w.key) h, pen.1, offer.1, offer.3, c.requires.fresh, again)
          (adds_moves c.args.prefix.now.reached.log _ c.args.prefix.now.count (sym c.args.prefix.now.counted)),
    )
