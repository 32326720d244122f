use Rattle.std.proofs.Common.{◌≡◌, ℕ, ◌+◌, ◌*◌, ◌≤◌, ◌<◌, length, inr, refl, subst, sym, ap, ◌∙◌, arith}
use Rattle.std.proofs.Common.{map, false, replicate, slice_range}
use Rattle.grid_core.specs.Tiles.{Tiles, IsTiled, columns_of, rows_of, count_of}
use Rattle.tile_work.specs.OpenBounds.{bounds_for}
use Rattle.tile_work.specs.Cutting.{in_band}
use Rattle.reset_core.specs.{Bands.tiles_above, BandParts.IsTilingOf}
use Rattle.reset_core.proofs.Bands.Cuts.{tiles_within, begin_below}
use Rattle.reset_core.proofs.replica.cutting.cut_band.Goals as goal

-- where the band's tiles begin, and that they end within the table
place : (tiles : Tiles) (above below : ℕ) (band : Tiles) (columns count : ℕ) → IsTiled tiles → below ≤ rows_of tiles
    → IsTilingOf tiles above below band → columns ≡ columns_of tiles → count ≡ count_of band
    → (above * columns ≡ tiles_above tiles above) × (above * columns + count ≤ count_of tiles)
place tiles above below band columns count tiled within cut columns_are count_is =
    let first = ap (λ n. above * n) columns_are in
    (first, omega (arith, first, count_is, tiles_within tiles above below band tiled within cut))

pub cut-requires-clause-within : goal.cut-requires-clause-within
cut-requires-clause-within c =
    let (_, within) =
    place c.args.tiling.now c.args.above c.args.below c.band_tiling-band.result c.columns_of.result c.count.result
    c.requires.untouched.tiled c.requires.within c.band_tiling-band.ensures c.columns_of.ensures
    c.count.ensures.value in
    omega (arith, within, c.requires.untouched.bounds)

pub cut-requires-clause-rows : goal.cut-requires-clause-rows
cut-requires-clause-rows c = λ t from before.
    let (first, within) =
    place c.args.tiling.now c.args.above c.args.below c.band_tiling-band.result c.columns_of.result c.count.result
    c.requires.untouched.tiled c.requires.within c.band_tiling-band.ensures c.columns_of.ensures
    c.count.ensures.value in
    let there : t < length c.args.bounds.now = omega (arith, before, within, c.requires.untouched.bounds) in
    let below =
    begin_below c.args.tiling.now c.args.above t (bounds_for c.args.bounds.now t) c.requires.untouched.tiled
    (omega (arith, from, first)) (c.requires.untouched.lie t there) in
    inr (subst (λ s. c.args.above * s ≤ (bounds_for c.args.bounds.now t).top) (sym c.side.ensures.value) below)

pub cut-requires-2-clause-within : goal.cut-requires-2-clause-within
cut-requires-2-clause-within c =
    let (_, within) =
    place c.args.tiling.now c.args.above c.args.below c.band_tiling-band.result c.columns_of.result c.count.result
    c.requires.untouched.tiled c.requires.within c.band_tiling-band.ensures c.columns_of.ensures
    c.count.ensures.value in
    omega (arith, within, c.requires.untouched.count)

pub cut-requires-2-clause-marks : goal.cut-requires-2-clause-marks
cut-requires-2-clause-marks c = λ t from before.
    let (_, within) =
    place c.args.tiling.now c.args.above c.args.below c.band_tiling-band.result c.columns_of.result c.count.result
    c.requires.untouched.tiled c.requires.within c.band_tiling-band.ensures c.columns_of.ensures
    c.count.ensures.value in
    c.requires.untouched.only_marks t (omega arith) (omega (arith, before, within, c.requires.untouched.count))

pub returns-clause-cut : goal.returns-clause-cut
returns-clause-cut c =
    let cut = c.band_tiling-band.ensures in
    let first : c.args.above * c.columns_of.result ≡ tiles_above c.args.tiling.now c.args.above =
    ap (λ n. c.args.above * n) c.columns_of.ensures in
    record {
      tiling = subst (λ below. IsTilingOf c.args.tiling.now c.args.above below c.band_tiling-band.result) (sym cut.rows)
          cut;
      conn_is = refl;
      work =
          c.in_ok-work.ensures
          ∙ (λ i. slice_range c.args.work.now (first i) (first i + c.count.ensures.value i));
      bounds =
          c.in_ok-bounds.ensures
          ∙ (λ i. map (in_band (c.args.above * c.side.ensures.value i))
          (slice_range c.args.bounds.now (first i) (first i + c.count.ensures.value i)));
      swept = c.in_ok-swept.ensures ∙ (λ i. replicate (c.count-2.ensures.value i) false);
      none_yet = refl;
      limit_is = refl;
      enough = c.in_ok-told.ensures;
    }
