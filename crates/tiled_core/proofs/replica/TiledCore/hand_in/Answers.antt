-- What the tactics leave open of `hand_in`.
use Rattle.std.proofs.Common.{◌≡◌, true, false, List, refl, sym, ◌∙◌, ap, subst, IsTrue, slice_index_or}
use Rattle.std.proofs.Common.{slice_set, set, arith}
use Rattle.grid_core.specs.{declared.bounds.Bounds.Bounds, declared.rect.Rect.Rect, Raster.with_value, Rects.IsInRect}
use Rattle.grid_core.specs.Bounds.{bounds_at, joined, no_bounds}
use Rattle.tile_work.specs.OpenBounds.{bounds_for}
use Rattle.core_rules.specs.declared.answers.Handed.TheVariants.{Same, Stale}
use Rattle.core_rules.specs.Work.{work_at, with_work}
use Rattle.core_rules.specs.Hints.{IsPresent, without_hint, raised}
use Rattle.border_queues.specs.TileWork.{TileWork, idle}
use Rattle.reset_core.specs.Replica.{core_of}
use Rattle.reset_core.proofs.Storing.{goes_inside, goes_to_tile, lost_is_stored, raised_is_stored}
use Rattle.tiled_image.specs.TiledImage.{TiledRaster}
use Rattle.tiled_core.specs.Stored.{parts_of}
use Rattle.tiled_core.proofs.StoredCore.{goes_to_rect}
use Rattle.tiled_core.proofs.replica.TiledCore.hand_in.Goals as goal

pub invariant_of-self : goal.invariant_of-self
invariant_of-self c =
    let parts = parts_of c.self.inside in
    let there = sym c.hint.ensures ∙ c.in-Some.is in
    let absent : IsPresent (core_of parts) c.in-Some.hint → ⊥ =
    rw c.self.view_is (λ present. let yes : IsTrue false = c.if-not-present.ensures.1 present in absurd cc) in
    record {
      stored =
          rw c.remove_hint.ensures (lost_is_stored parts c.self.invariant.stored c.args.tile c.args.i c.in-Some.hint
          there Stale (c.in-Some.hint, there, absent, refl));
      tiling = c.self.invariant.tiling;
      beside = c.self.invariant.beside;
      room = c.self.invariant.room;
      mask_rims = c.self.invariant.mask_rims;
      limits_room = c.self.invariant.limits_room;
      states = c.self.invariant.states;
    }

pub invariant_of-self-then-not-raise_in : goal.invariant_of-self-then-not-raise_in
invariant_of-self-then-not-raise_in c =
    let parts = parts_of c.self.inside in
    let there = sym c.hint.ensures ∙ c.in-Some.is in
    let present : IsPresent (core_of parts) c.in-Some.hint = rw c.self.view_is (c.if-not-present.ensures.0 refl) in
    rw (c.remove_hint.ensures, c.if-not-raise_in.ensures.changed) (record {
      stored =
          lost_is_stored parts c.self.invariant.stored c.args.tile c.args.i c.in-Some.hint there Same
          (c.in-Some.hint, there, present, c.if-not-raise_in.ensures.was, refl);
      tiling = c.self.invariant.tiling;
      beside = c.self.invariant.beside;
      room = c.self.invariant.room;
      mask_rims = c.self.invariant.mask_rims;
      limits_room = c.self.invariant.limits_room;
      states = c.self.invariant.states;
    })

pub invariant_of-self-2 : goal.invariant_of-self-2
invariant_of-self-2 c =
    let parts = parts_of c.self.inside in
    let there = sym c.hint.ensures ∙ c.in-Some.is in
    let present : IsPresent (core_of parts) c.in-Some.hint = rw c.self.view_is (c.if-not-present.ensures.0 refl) in
    let home = (goes_to_tile parts c.self.invariant.stored c.args.tile c.args.i c.in-Some.hint there).tile in
    let work : c.mark_dirty.new.self
    ≡ (raised (without_hint (core_of parts) c.args.tile c.args.i) c.in-Some.hint).tiles =
    c.mark_dirty.ensures ∙ ap (λ (work : List TileWork). slice_set work c.args.tile
    (record (slice_index_or work c.args.tile idle) { dirty = true })) c.remove_hint.ensures
    ∙ ap (λ t. (with_work (without_hint (core_of parts) c.args.tile c.args.i) t
    (record (work_at (without_hint (core_of parts) c.args.tile c.args.i) t) { dirty = true })).tiles) (sym home) in
    let bounds : c.widen.new.self ≡ set parts.bounds c.args.tile
    (joined (bounds_for parts.bounds c.args.tile) (joined no_bounds (bounds_at c.in-Some.hint.to_pixel))) =
    c.widen.ensures
    ∙ ap (λ (more : Bounds). set parts.bounds c.args.tile (joined (bounds_for parts.bounds c.args.tile) more))
    (c.including.ensures ∙ ap (λ (none : Bounds). joined none (bounds_at c.in-Some.hint.to_pixel)) c.none.ensures) in
    rw (bounds, work, c.if-not-raise_in.ensures.changed) (record {
      stored = raised_is_stored parts c.self.invariant.stored c.args.tile c.args.i c.in-Some.hint there present
          c.if-not-raise_in.ensures.was;
      tiling = c.self.invariant.tiling;
      beside = c.self.invariant.beside;
      room = c.self.invariant.room;
      mask_rims = c.self.invariant.mask_rims;
      limits_room = c.self.invariant.limits_room;
      states = c.self.invariant.states;
    })

pub returns : goal.returns
returns c =
    let parts = parts_of c.self.inside in
    let there = sym c.hint.ensures ∙ c.in-Some.is in
    let present : IsPresent (core_of parts) c.in-Some.hint = rw c.self.view_is (c.if-not-present.ensures.0 refl) in
    let home = (goes_to_tile parts c.self.invariant.stored c.args.tile c.args.i c.in-Some.hint there).tile in
    let work : c.mark_dirty.new.self
    ≡ (raised (without_hint (core_of parts) c.args.tile c.args.i) c.in-Some.hint).tiles =
    c.mark_dirty.ensures ∙ ap (λ (work : List TileWork). slice_set work c.args.tile
    (record (slice_index_or work c.args.tile idle) { dirty = true })) c.remove_hint.ensures
    ∙ ap (λ t. (with_work (without_hint (core_of parts) c.args.tile c.args.i) t
    (record (work_at (without_hint (core_of parts) c.args.tile c.args.i) t) { dirty = true })).tiles) (sym home) in
    rw (← c.self.view_is) (
      c.in-Some.hint,
      there,
      present,
      c.if-not-raise_in.ensures.was,
      ap (λ (r : TiledRaster). core_of (record parts { image = r.image; work = c.mark_dirty.new.self }))
          c.if-not-raise_in.ensures.changed
          ∙ ap (λ (work : List TileWork). core_of (record parts {
            image = with_value parts.image c.in-Some.hint.to_pixel c.in-Some.hint.value;
            work = work;
          })) work,
    )

pub including-requires-clause-column : goal.including-requires-clause-column
including-requires-clause-column c =
    let parts = parts_of c.self.inside in
    let there = sym c.hint.ensures ∙ c.in-Some.is in
    let inside = goes_inside parts c.self.invariant.stored c.args.tile c.args.i c.in-Some.hint there in
    let size = c.self.invariant.stored.sound.shape in
    omega (arith, inside.0, size.image.width, size.tiled.size.width_within)

pub including-requires-clause-row : goal.including-requires-clause-row
including-requires-clause-row c =
    let parts = parts_of c.self.inside in
    let there = sym c.hint.ensures ∙ c.in-Some.is in
    let inside = goes_inside parts c.self.invariant.stored c.args.tile c.args.i c.in-Some.hint there in
    let size = c.self.invariant.stored.sound.shape in
    omega (arith, inside.1, size.image.height, size.tiled.size.height_within)

pub raise_in-requires-clause-inside : goal.raise_in-requires-clause-inside
raise_in-requires-clause-inside c =
    subst (λ (rect : Rect). IsInRect rect c.in-Some.hint.to_pixel) (sym c.requires.rect)
    (goes_to_rect c.self.inside c.args.self.now c.self.view_is c.self.invariant c.args.tile c.args.i c.in-Some.hint
    (sym c.hint.ensures ∙ c.in-Some.is))
