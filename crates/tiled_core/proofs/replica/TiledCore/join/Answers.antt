-- What the tactics leave open of `join`.
use Rattle.std.proofs.Common.{◌≡◌, ℕ, ◌⊎◌, ◌∙◌, ap, inl, inr, rules, subst, sym}
use Rattle.std.specs.Arc.{arc_value}
use Rattle.grid_core.specs.{Raster.Raster, Tiles.rect_of}
use Rattle.tile_generations.specs.declared.ticket.Ticket.{Ticket}
use Rattle.core_rules.specs.{Sweeps.IsUnchanged, Sweeps.tile_rect, Work.Core}
use Rattle.reset_core.specs.Parts.{IsRaisedPart}
use Rattle.tiled_image.specs.Raising.{IsBelowInside, IsBelowRim, RaisesAs}
use Rattle.tiled_image.specs.Shown.{value_in}
use Rattle.tiled_core.specs.{Stored.core_of}
use Rattle.tiled_core.proofs.JoinedTiles.{kept_is_below, raised_is_above, raised_raises, raises_itself}
use Rattle.tiled_core.proofs.StoredCore.{of_core}
use Rattle.tiled_core.proofs.replica.TiledCore.join.Goals as goal
use Rattle.tiled_core.proofs.replica.TiledCore.join.Goals.{then-is_unchanged-via-then-is_unchanged}
use Rattle.tiled_core.proofs.replica.TiledCore.join.Goals.{then-is_unchanged-via-else-is_unchanged+then-has_below}

-- ---- where the tile is as it was, but for its rim

-- the tile is as it was, or is so but for its rim
is_kept : (c : goal.In_ok-shared)
    → IsUnchanged c.args.self.now c.args.swept.now.job
    ⊎ IsBelowRim (tile_rect c.args.self.now c.args.swept.now.job.ticket.tile) c.args.self.now.image
    c.args.swept.now.job.base
is_kept c = elim c.then-is_unchanged.branch [
  | then-is_unchanged-via-then-is_unchanged w ↦ inl (c.requires.unchanged w.if-is_unchanged.true)
  | then-is_unchanged-via-else-is_unchanged+then-has_below w ↦
      let core = c.args.self.now in
      let base = c.args.swept.now.job.base in
      let tile = c.ticket-tile.result.tile in
      let below =
      subst (λ (b : Raster). IsBelowRim (rect_of c.self.inside.image.tiling tile) c.self.inside.image.image b)
      w.base.ensures (w.has_below.ensures w.if-has_below.true) in
      let tile_is = ap (λ (k : Ticket). k.tile) c.ticket-tile.ensures in
      inr (subst (λ n. IsBelowRim (tile_rect core n) core.image base) tile_is
      (of_core c.self.inside core c.self.view_is c.self.invariant (λ rect whole. IsBelowRim rect whole base) tile
      below))
]

is_below : (c : goal.In_ok-shared)
    → IsBelowInside (tile_rect c.args.self.now c.args.swept.now.job.ticket.tile) c.args.self.now.image
    (value_in (tile_rect c.args.self.now c.args.swept.now.job.ticket.tile) c.args.swept.now.pixels)
is_below c =
    kept_is_below c.args.self.now c.args.swept.now c.pixels-pixels.ensures.swept c.requires.joinable.known (is_kept c)

pub bounds_over-above-requires-clause-inside : goal.bounds_over-above-requires-clause-inside
bounds_over-above-requires-clause-inside c = is_below c

pub join_raised-requires-clause-joinable : goal.join_raised-requires-clause-joinable
join_raised-requires-clause-joinable c = c.requires.joinable

pub join_raised-requires-clause-raising : goal.join_raised-requires-clause-raising
join_raised-requires-clause-raising c =
    let core = c.args.self.now in
    let swept = c.args.swept.now in
    let rect = tile_rect core swept.job.ticket.tile in
    let of_sweep = c.pixels-pixels.ensures.swept in
    let mask = c.requires.joinable.known.mask in
    let shared_is : arc_value c.in_ok-shared.shared ≡ swept.pixels = c.in_ok-shared.ensures in
    record {
      of_sweep = of_sweep;
      raises =
          subst (RaisesAs rect core.image swept.pixels) (sym shared_is)
          (raises_itself rect core.image swept.pixels (of_sweep.width ∙ mask.width) (of_sweep.height ∙ mask.height)
          of_sweep.filled);
      inside =
          subst (λ (r : Raster). IsBelowInside rect core.image (value_in rect r)) (sym shared_is)
          (is_below c.before.before.before);
      of_part = search rules;
      above = c.bounds_over-above.ensures;
    }

pub returns-then-is_unchanged-clause-joined : goal.returns-then-is_unchanged-clause-joined
returns-then-is_unchanged-clause-joined c = c.join_raised.ensures.joined

pub returns-then-is_unchanged-clause-err : goal.returns-then-is_unchanged-clause-err
returns-then-is_unchanged-clause-err c = c.join_raised.ensures.err

-- ---- where it is not

-- the part is the tile, raised to what the sweep gave
raised_is : (core : Core) (t tile : ℕ) (pixels held part : Raster) → tile ≡ t → held ≡ pixels
    → IsRaisedPart (tile_rect core tile) core.image held part → IsRaisedPart (tile_rect core t) core.image pixels part
raised_is core t tile pixels held part tile_is held_is is_raised =
    subst (λ (r : Raster). IsRaisedPart (tile_rect core t) core.image r part) held_is
    (subst (λ n. IsRaisedPart (tile_rect core n) core.image held part) tile_is is_raised)

pub join_raised-requires-2-clause-raising : goal.join_raised-requires-2-clause-raising
join_raised-requires-2-clause-raising c =
    let core = core_of (record c.self-2.inside { image = c.fold.new.self }) in
    let tile = c.args.swept.now.job.ticket.tile in
    let pixels = c.args.swept.now.pixels in
    let part = arc_value c.in_ok-held.held in
    let raised =
    raised_is core tile c.ticket-tile.result.tile pixels c.pixels-pixels.result.now part
    (ap (λ (k : Ticket). k.tile) c.ticket-tile.ensures) c.pixels-pixels.ensures.value c.in_ok-held.ensures.raised in
    record {
      of_sweep = c.pixels-pixels.ensures.swept;
      raises = raised_raises (tile_rect core tile) core.image pixels part raised;
      inside = raised_is_above (tile_rect core tile) core.image pixels part raised;
      of_part = c.in_ok-held.ensures.rim;
      above = search rules;
    }
