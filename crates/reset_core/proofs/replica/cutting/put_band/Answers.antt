use Rattle.std.proofs.Common.{◌≡◌, ℕ, ◌+◌, ◌*◌, ◌∙◌, ap, sym, subst, map, arith}
use Rattle.tile_work.specs.Cutting.{EndWithin, HaveGenerationsOf, in_whole, with_part}
use Rattle.tile_work.specs.TileSet.{Has, HasGained}
use Rattle.reset_core.proofs.Bands.Puts.{ends_within}
use Rattle.reset_core.proofs.replica.cutting.put_band.Goals as goal

pub put_dirty-requires-clause-within : goal.put_dirty-requires-clause-within
put_dirty-requires-clause-within c =
    let tables = c.requires.tables in
    let fit = c.requires.fit in
    let first = ap (λ n. c.args.above * n) c.columns_of.ensures in
    omega (
      arith,
      first,
      ends_within c.args.tiling.now c.args.work.now c.args.above c.args.band.now tables.tiled fit,
      fit.count,
      tables.count,
    )

pub put_dirty-requires-clause-marks : goal.put_dirty-requires-clause-marks
put_dirty-requires-clause-marks c = λ t from before.
    let tables = c.requires.tables in
    let fit = c.requires.fit in
    let first = ap (λ n. c.args.above * n) c.columns_of.ensures in
    let within = ends_within c.args.tiling.now c.args.work.now c.args.above c.args.band.now tables.tiled fit in
    tables.only_marks t (omega (arith, from, first))
    (omega (arith, before, first, within, fit.count, tables.count))

pub put_dirty-requires-clause-band : goal.put_dirty-requires-clause-band
put_dirty-requires-clause-band c = c.requires.fit.only_marks

pub put_dirty-requires-clause-generations : goal.put_dirty-requires-clause-generations
put_dirty-requires-clause-generations c =
    subst (λ n. HaveGenerationsOf c.args.work.now n c.args.band.now.work)
    (sym (ap (λ n. c.args.above * n) c.columns_of.ensures)) c.requires.fit.generations

pub put-requires-clause-within : goal.put-requires-clause-within
put-requires-clause-within c =
    let tables = c.requires.tables in
    let fit = c.requires.fit in
    let first = ap (λ n. c.args.above * n) c.columns_of.ensures in
    omega (
      arith,
      first,
      ends_within c.args.tiling.now c.args.work.now c.args.above c.args.band.now tables.tiled fit,
      fit.bounds,
      tables.bounds,
    )

pub put-requires-clause-rows : goal.put-requires-clause-rows
put-requires-clause-rows c =
    subst (λ s. EndWithin (c.args.above * s) c.args.band.now.bounds) (sym c.side.ensures.value) c.requires.fit.rows

pub insert_from-requires : goal.insert_from-requires
insert_from-requires c =
    let tables = c.requires.tables in
    let fit = c.requires.fit in
    let first = ap (λ n. c.args.above * n) c.columns_of.ensures in
    omega (
      arith,
      first,
      ends_within c.args.tiling.now c.args.work.now c.args.above c.args.band.now tables.tiled fit,
      fit.set,
      tables.set_count,
    )

pub returns-clause-work : goal.returns-clause-work
returns-clause-work c =
    c.put_dirty.ensures
    ∙ (λ i. with_part (c.args.above * c.columns_of.ensures i) c.args.band.now.work c.args.work.now)

pub returns-clause-bounds : goal.returns-clause-bounds
returns-clause-bounds c =
    c.put.ensures
    ∙ (λ i. with_part (c.args.above * c.columns_of.ensures i)
    (map (in_whole (c.args.above * c.side.ensures.value i)) c.args.band.now.bounds) c.args.bounds.now)

pub returns-clause-swept : goal.returns-clause-swept
returns-clause-swept c =
    subst (λ n. HasGained c.args.swept.now (λ t. (u : ℕ) × (t ≡ n + u) × Has c.args.band.now.swept u)
    c.insert_from.new.self) (ap (λ n. c.args.above * n) c.columns_of.ensures) c.insert_from.ensures
