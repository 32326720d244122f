-- A core as it is opened is sound and quiet.
use Rattle.std.proofs.Common.{◌≡◌, ℕ, ◌<◌, ◌≤◌, min, length, refl, sym, ◌∙◌, ap, subst, arith, inl}
use Rattle.std.proofs.lemmas.List.{length-replicate, get_or-replicate}
use Rattle.grid_core.specs.{declared.conn.Conn.Conn, declared.pixel.Pixel.Pixel, Tiles.IsTiled, Tiles.count_of}
use Rattle.grid_core.specs.Raster.{Raster, IsFilled, index_of, value_at}
use Rattle.grid_core.specs.Path.{domain_of, Inside, Reaches}
use Rattle.grid_core.proofs.{Cells.index_of-within, Reach.reaches_zero}
use Rattle.stroke_lattice.specs.State.{nothing}
use Rattle.stroke_lattice.proofs.Joins.{nothing_has_no_stroke}
use Rattle.marker_tiles.specs.Marker.{IsMarker}
use Rattle.tile_generations.specs.Generations.{max_generation}
use Rattle.core_rules.specs.Work.{tiling, IsTile, work_at, IsQuiet}
use Rattle.core_rules.specs.{Opening.blank, Opening.opened, Invariant.IsSound}
use Rattle.border_queues.specs.TileWork.{TileWork, idle, fresh}
use Rattle.core_rules.proofs.Quiet.{none_in_nothing}

module _ (mask : Raster) (conn : Conn) (side first : ℕ) where
  work_is_fresh : (t : ℕ) → IsTile (opened mask conn side first) t
      → work_at (opened mask conn side first) t ≡ fresh first
  work_is_fresh t within =
      let count = count_of (tiling (opened mask conn side first)) in
      get_or-replicate count t (fresh first) idle (subst (λ n. t < n) (length-replicate count (fresh first)) within)

  pub opened_is_quiet : IsQuiet (opened mask conn side first)
  opened_is_quiet t within =
      let same = work_is_fresh t within in
      record {
        clean = ap (λ (w : TileWork). w.dirty) same;
        none_out = ap (λ (w : TileWork). w.out) same;
        empty = ap (λ (w : TileWork). w.inbox) same;
      }

module _ (mask : Raster) (conn : Conn) (side first : ℕ) (filled : IsFilled mask) where
  zero_everywhere : (p : Pixel) → Inside (domain_of mask conn) p → value_at (blank mask) p ≡ 0
  zero_everywhere p inside =
      get_or-replicate (length mask.cells) (index_of mask.width p) 0 0 (index_of-within mask p filled inside)

  zero_is_marker : IsMarker (domain_of mask conn) (value_at mask) nothing (λ p. 0)
  zero_is_marker p inside = (
    0,
    record {
      attained = inl refl;
      greatest = λ level marked. absurd (nothing_has_no_stroke marked.tag marked.seed marked.live.0);
    },
    let e : 0 ≡ min (value_at mask p) 0 = omega arith in e,
  )

  pub opened_is_sound : IsTiled (record { width = mask.width; height = mask.height; side = side })
      → first ≤ max_generation → IsSound (opened mask conn side first)
  opened_is_sound tiled bound = record {
    shape = record {
      tiled = tiled;
      mask = filled;
      image = record { width = refl; height = refl; filled = length-replicate (length mask.cells) 0 ∙ filled };
      tiles = length-replicate (count_of (tiling (opened mask conn side first))) (fresh first);
      strokes = λ tag seed has. absurd (nothing_has_no_stroke tag seed has);
      generations = λ t within.
          omega (arith, ap (λ (w : TileWork). w.generation) (work_is_fresh mask conn side first t within), bound);
    };
    marker = λ p. 0;
    is_marker = zero_is_marker;
    supported = λ p inside.
        let none = zero_everywhere p inside in (
          omega arith,
          omega (arith, none),
          subst (λ v. Reaches (domain_of mask conn) (value_at (blank mask)) (λ q. 0) p v) (sym none)
              (reaches_zero (domain_of mask conn) (value_at (blank mask)) (λ q. 0) p inside),
        );
    hints = λ t hint within waits. absurd (none_in_nothing hint
        (rw (ap (λ (w : TileWork). w.inbox) (work_is_fresh mask conn side first t within)) at waits));
    work = λ p q pair. absurd (omega (arith, zero_everywhere p pair.from_inside, pair.lower));
  }
