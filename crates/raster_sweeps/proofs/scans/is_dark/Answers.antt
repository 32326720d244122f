use Rattle.std.proofs.Common.{◌≡◌, get_or, arith, inl, inr, refl, subst, sym}
use Rattle.std.proofs.lemmas.Bool.{false≢true}
use Rattle.grid_core.specs.{declared.pixel.Pixel.Pixel, Raster.value_at, Rects.part}
use Rattle.raster_sweeps.specs.Growth.{rows_of}
use Rattle.raster_sweeps.proofs.scans.is_dark.Goals as goal

pub returns-then-greatest-gt0 : goal.returns-then-greatest-gt0
returns-then-greatest-gt0 c = (
  λ dark. absurd (false≢true dark),
  λ dark. elim c.greatest.ensures.some [
    | inl none ↦ absurd (omega (arith, none, c.if-greatest-gt0.true))
    | inr some ↦
        let within = some.1 in
        let p : Pixel = record { x = some.0; y = c.args.y } in
        absurd (omega (
          arith,
          some.2,
          c.if-greatest-gt0.true,
          c.row_in.ensures.values some.0 (omega (arith, within, c.row_in.ensures.long)),
          dark p (omega (arith, within, c.row_in.ensures.long), c.requires.row) refl,
        ))
  ],
)

pub returns : goal.returns
returns c =
    let image = rows_of c.args.size c.args.image.now in (
      λ all p inside row.
          let values : get_or c.row_in.result.now p.x 0
          ≡ part c.args.rect (value_at image) (record { x = p.x; y = c.args.y }) =
          c.row_in.ensures.values p.x inside.0 in
          let most = c.greatest.ensures.each p.x (omega (arith, inside.0, c.row_in.ensures.long)) in
          let dark : part c.args.rect (value_at image) (record { x = p.x; y = c.args.y }) ≡ 0 =
          omega (arith, values, most, c.if-greatest-gt0.false) in
          subst (λ y. part c.args.rect (value_at image) (record { x = p.x; y = y }) ≡ 0) (sym row) dark,
      λ dark. refl,
    )
