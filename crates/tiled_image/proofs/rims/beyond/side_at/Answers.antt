-- What the tactics leave open of `side_at`.
use Rattle.std.proofs.Common.{length}
use Rattle.tiled_image.proofs.Beyond.{beyond_ends, cut_along, cut_lengths, found_beyond, own_count, own_ends}
use Rattle.tiled_image.proofs.rims.beyond.side_at.Goals as goal

-- the tile's own strip ends within the rims
pub part-requires : goal.part-requires
part-requires c =
    let a = c.args in
    let own = c.side_of-own.result.now in
    own_ends a.tiling.now a.tile c.side.ensures.tiled c.requires.tile a.edge c.start_of-first.result (length own)
    c.start_of-first.ensures (own_count a.tiling.now a.tile a.edge a.rim.now own c.side_of-own.ensures c.requires.rim)
    a.rims.now c.requires.count

-- and so does the strip beyond
pub part-requires-2 : goal.part-requires-2
part-requires-2 c =
    let a = c.args in
    let own = c.side_of-own.result.now in
    let start = c.start_of-start.result in
    let found =
    found_beyond a.tiling.now a.tile a.edge c.opposite.result a.rim.now c.rect-rect.result c.in-Some.q
    c.tile_of-other.result start own c.in-Some.ensures c.rect-rect.ensures.value c.tile_of-other.ensures.value
    c.opposite.ensures c.start_of-start.ensures c.side_of-own.ensures c.requires.rim in
    beyond_ends a.tiling.now a.tile c.side.ensures.tiled c.requires.tile a.edge start (length own) found a.rims.now
    c.requires.count

pub part-requires-3 : goal.part-requires-3
part-requires-3 c =
    let a = c.args in
    let own = c.side_of-own.result.now in
    let start = c.start_of-start.result in
    let found =
    found_beyond a.tiling.now a.tile a.edge c.opposite.result a.rim.now c.rect-rect.result c.in-Some.q
    c.tile_of-other.result start own c.in-Some.ensures c.rect-rect.ensures.value c.tile_of-other.ensures.value
    c.opposite.ensures c.start_of-start.ensures c.side_of-own.ensures c.requires.rim in
    beyond_ends a.tiling.now a.tile c.side.ensures.tiled c.requires.tile a.edge start (length own) found a.limits.now
    c.requires.limits

-- where a pixel was found beyond the edge
pub returns-clause-lengths : goal.returns-clause-lengths
returns-clause-lengths c on =
    let a = c.args in
    let own = c.side_of-own.result.now in
    let start = c.start_of-start.result in
    let found =
    found_beyond a.tiling.now a.tile a.edge c.opposite.result a.rim.now c.rect-rect.result c.in-Some.q
    c.tile_of-other.result start own c.in-Some.ensures c.rect-rect.ensures.value c.tile_of-other.ensures.value
    c.opposite.ensures c.start_of-start.ensures c.side_of-own.ensures c.requires.rim in
    cut_lengths a.tiling.now a.tile c.side.ensures.tiled c.requires.tile a.edge start (length own) found a.rim.now
    a.rims.now a.limits.now c.start_of-first.result
    (record {
      own = c.side_of-own.result;
      risen = c.part.result;
      beyond = c.part-2.result;
      limits = c.part-3.result;
    })
    c.start_of-first.ensures c.side_of-own.ensures c.part.ensures c.part-2.ensures c.part-3.ensures c.requires.rim
    c.requires.count c.requires.limits

pub returns-clause-values : goal.returns-clause-values
returns-clause-values c whole mask value image rims_are limits_are has raised same on =
    let a = c.args in
    let own = c.side_of-own.result.now in
    let start = c.start_of-start.result in
    let found =
    found_beyond a.tiling.now a.tile a.edge c.opposite.result a.rim.now c.rect-rect.result c.in-Some.q
    c.tile_of-other.result start own c.in-Some.ensures c.rect-rect.ensures.value c.tile_of-other.ensures.value
    c.opposite.ensures c.start_of-start.ensures c.side_of-own.ensures c.requires.rim in
    cut_along a.tiling.now a.tile c.side.ensures.tiled c.requires.tile a.edge start (length own) found a.rim.now
    a.rims.now a.limits.now c.start_of-first.result
    (record {
      own = c.side_of-own.result;
      risen = c.part.result;
      beyond = c.part-2.result;
      limits = c.part-3.result;
    })
    c.start_of-first.ensures c.side_of-own.ensures c.part.ensures c.part-2.ensures c.part-3.ensures whole mask value
    image rims_are limits_are has raised same
