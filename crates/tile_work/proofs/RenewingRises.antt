-- How raises to the marker add up, and the tiles that are dirty after them.
use Rattle.std.proofs.Common.{◌≡◌, ℕ, ◌+◌, ◌*◌, ◌/◌, ◌<◌, ◌≤◌, Bool, true, false, List, length, refl, sym, subst, ◌∙◌}
use Rattle.std.proofs.Common.{arith, inl, inr, ◌⊎◌, min, ◌||◌, ◌↔◌, slice_set}
use Rattle.std.proofs.{Math.Nat.div-mul-le_self, Math.Nat.lt-div-mul-add, lemmas.Bool.cases_lt}
use Rattle.std.proofs.{lemmas.Bool.Decides.nat_tests, lemmas.Nat.div_below, lemmas.Nat.le-div}
use Rattle.grid_core.specs.{declared.pixel.Pixel.Pixel, Raster.Raster, Raster.IsInside, Raster.IsFilled}
use Rattle.grid_core.specs.{Raster.value_at, Tiles.Tiles, Tiles.IsTiled, Tiles.tile_of, Tiles.columns_of}
use Rattle.border_queues.specs.{OpenEdges.IsOnTiling, TileWork.TileWork, TileWork.work_of}
use Rattle.stroke_core.specs.{declared.span.Span.Span, Spans.span_has}
use Rattle.core_rules.specs.{Image.IsOfSize, Merge.HasRisen}
use Rattle.tile_work.specs.Renewing.{AreDirtyWhere, IsMadeWhere, IsRaisedWhere, RisesWhere, greater_value, made_if}
use Rattle.tile_work.proofs.RenewingSpans.{raise_is_steady, made_also, made_nothing, made_alike}
use Rattle.tile_work.proofs.RenewingWork.{all_dirty_join, all_dirty_stay, all_dirty_alike, one_made_dirty}

-- no value falls
greater_rises : (b : Bool) (old marker : ℕ) → old ≤ made_if b greater_value old marker
greater_rises true old marker = omega arith
greater_rises false old marker = omega arith

no_fall : (test : Pixel → Bool) (marker old new : Raster) → IsMadeWhere test greater_value marker old new
    → (p : Pixel) → IsInside old.width old.height p → value_at old p ≤ value_at new p
no_fall test marker old new made p inside =
    omega (arith, made.values p inside, greater_rises (test p) (value_at old p) (value_at marker p))

-- the pixels of the tiles are those of an image of their size
pub on_image : (tiling : Tiles) (image : Raster) → IsOnTiling tiling image → (p : Pixel)
    → IsInside tiling.width tiling.height p → IsInside image.width image.height p
on_image tiling image on p inside = (omega (arith, inside.0, on.width), omega (arith, inside.1, on.height))

pub still_on : {tiling : Tiles} {old new : Raster} → IsOnTiling tiling old → IsOfSize old new → IsOnTiling tiling new
still_on on size = record { width = size.width ∙ on.width; height = size.height ∙ on.height }

-- a pixel has risen in all where it has risen at first or later
risen_in_all : {tiling : Tiles} (t : ℕ) {a b : Pixel → Bool} {marker old middle new : Raster} → IsOnTiling tiling old
    → IsMadeWhere a greater_value marker old middle → IsMadeWhere b greater_value marker middle new
    → HasRisen tiling t old new ↔ (HasRisen tiling t old middle ⊎ HasRisen tiling t middle new)
risen_in_all {tiling} t {a} {b} {marker} {old} {middle} {new} on first second =
    let on_middle = still_on on first.size in (
      λ risen. elim (cases_lt (value_at old risen.p) (value_at middle risen.p)) [
        | inl earlier ↦ inl (record { p = risen.p; in_tile = risen.in_tile; rose = earlier })
        | inr later ↦ inr (record { p = risen.p; in_tile = risen.in_tile; rose = omega (arith, risen.rose) })
      ],
      λ some. elim some [
        | inl risen ↦ record {
          p = risen.p;
          in_tile = risen.in_tile;
          rose = omega (
            arith,
            risen.rose,
            no_fall b marker middle new second risen.p (on_image tiling middle on_middle risen.p risen.in_tile.inside),
          );
        }
        | inr risen ↦ record {
          p = risen.p;
          in_tile = risen.in_tile;
          rose = omega (
            arith,
            risen.rose,
            no_fall a marker old middle first risen.p (on_image tiling old on risen.p risen.in_tile.inside),
          );
        }
      ],
    )

-- two raises are one where either test holds
pub raised_also : {tiling : Tiles} {a b both : Pixel → Bool} {marker old middle new : Raster}
    {before between after : List TileWork} → IsOnTiling tiling old
    → IsRaisedWhere tiling a marker old middle before between → IsRaisedWhere tiling b marker middle new between after
    → ((p : Pixel) → IsInside old.width old.height p → both p ≡ (a p || b p))
    → IsRaisedWhere tiling both marker old new before after
raised_also on first second same = record {
  values = made_also raise_is_steady first.values second.values same;
  work = all_dirty_join first.work second.work (λ t _. risen_in_all t on first.values second.values);
}

-- no pixel passes the test
pub raised_nothing : {tiling : Tiles} {test : Pixel → Bool} {marker old : Raster} {work : List TileWork}
    → IsFilled old → ((p : Pixel) → IsInside old.width old.height p → test p ≡ false)
    → IsRaisedWhere tiling test marker old old work work
raised_nothing filled none = record {
  values = made_nothing filled none;
  work = all_dirty_stay (λ t risen. omega (arith, risen.rose));
}

-- tests that agree on the pixels of the image
pub raised_alike : {tiling : Tiles} {a b : Pixel → Bool} {marker old new : Raster} {before after : List TileWork}
    → IsRaisedWhere tiling a marker old new before after
    → ((p : Pixel) → IsInside old.width old.height p → b p ≡ a p) → IsRaisedWhere tiling b marker old new before after
raised_alike raised same = record { values = made_alike raised.values same; work = raised.work }

-- ---- a span in one tile

-- columns up to the end of a tile's lie in the same column of tiles
same_column : (x first end side : ℕ) → 0 < side → first ≤ x → x < end → end ≤ (first / side + 1) * side
    → x / side ≡ first / side
same_column x first end side some after before within =
    let at_most : x / side < first / side + 1 = div_below x side (first / side + 1) some (omega arith) in
    let at_least : first / side ≤ x / side =
    le-div (first / side) x side some (omega (arith, div-mul-le_self first side)) in
    omega arith

-- where a span stands
abbrev pub corner_of : Span → Pixel
corner_of s = record { x = s.first; y = s.y }

pub tile_of_piece : (tiling : Tiles) (piece : Span) (p : Pixel) → 0 < tiling.side
    → piece.end ≤ (piece.first / tiling.side + 1) * tiling.side → span_has piece p ≡ true
    → tile_of tiling p ≡ tile_of tiling (corner_of piece)
tile_of_piece tiling piece p some within has =
    let row : p.y ≡ piece.y = grind (arith, nat_tests) in
    let above : piece.first ≤ p.x = grind (arith, nat_tests) in
    let below : p.x < piece.end = grind (arith, nat_tests) in
    let column : p.x / tiling.side ≡ piece.first / tiling.side =
    same_column p.x piece.first piece.end tiling.side some above below within in
    λ i. (row i / tiling.side) * columns_of tiling + column i

-- where no value was made there is no rise
pub risen_is_tested : (b : Bool) (old marker new : ℕ) → new ≡ made_if b greater_value old marker → old < new → b ≡ true
risen_is_tested true old marker new is rose = refl
risen_is_tested false old marker new is rose = absurd (omega arith)

pub risen_in_piece : {tiling : Tiles} {t : ℕ} (piece : Span) {marker old new : Raster} → IsOnTiling tiling old
    → IsMadeWhere (span_has piece) greater_value marker old new → HasRisen tiling t old new
    → RisesWhere (span_has piece) old new
risen_in_piece {tiling} piece {marker} {old} {new} on made risen =
    let inside = on_image tiling old on risen.p risen.in_tile.inside in
    record {
      p = risen.p;
      inside = inside;
      tested = risen_is_tested (span_has piece risen.p) (value_at old risen.p) (value_at marker risen.p)
          (value_at new risen.p) (made.values risen.p inside) risen.rose;
      rose = risen.rose;
    }

-- ---- the way across the tiles

-- the end of a tile's columns comes after each of them
pub next_tile : (tiling : Tiles) (at end side next : ℕ) → IsTiled tiling → side ≡ tiling.side → at < end
    → next ≡ min end ((at / side + 1) * side) → at < next
next_tile tiling at end side next tiled is_side before is =
    let some : 0 < side = omega (arith, tiled.tile_side.at_least, is_side) in
    let past : at < at / side * side + side = lt-div-mul-add some in
    omega (arith, is, past)

-- a pixel of the span has risen, and its tile is made dirty
pub piece_made_dirty : {tiling : Tiles} (piece : Span) {marker old new : Raster} {before after : List TileWork}
    {tile : ℕ} → IsOnTiling tiling old → 0 < tiling.side
    → piece.end ≤ (piece.first / tiling.side + 1) * tiling.side → tile ≡ tile_of tiling (corner_of piece)
    → tile < length before → after ≡ slice_set before tile (record (work_of before tile) { dirty = true })
    → IsMadeWhere (span_has piece) greater_value marker old new → RisesWhere (span_has piece) old new
    → IsRaisedWhere tiling (span_has piece) marker old new before after
piece_made_dirty {tiling} piece {marker} {old} {new} {before} {after} {tile} on some within is_tile there is_after
    made rises =
    let same = λ (p : Pixel) (has : span_has piece p ≡ true). tile_of_piece tiling piece p some within has in
    record {
      values = made;
      work =
          all_dirty_alike {p = λ t. t ≡ tile}
          (λ t _. (
            λ is. record {
              p = rises.p;
              in_tile = record {
                inside = (omega (arith, rises.inside.0, on.width), omega (arith, rises.inside.1, on.height));
                tile = same rises.p rises.tested ∙ sym (is ∙ is_tile);
              };
              rose = rises.rose;
            },
            λ risen.
                let inside = on_image tiling old on risen.p risen.in_tile.inside in
                let has = risen_is_tested (span_has piece risen.p) (value_at old risen.p) (value_at marker risen.p)
                (value_at new risen.p) (made.values risen.p inside) risen.rose in
                sym risen.in_tile.tile ∙ same risen.p has ∙ sym is_tile,
          ))
          (subst (λ (rows : List TileWork). AreDirtyWhere (λ t. t ≡ tile) before rows) (sym is_after)
          (one_made_dirty before tile there));
    }

-- no pixel of the span has risen, and no tile is made dirty
pub piece_made_nowhere : {tiling : Tiles} (piece : Span) {marker old new : Raster} {work : List TileWork}
    → IsOnTiling tiling old → IsMadeWhere (span_has piece) greater_value marker old new
    → (RisesWhere (span_has piece) old new → ⊥) → IsRaisedWhere tiling (span_has piece) marker old new work work
piece_made_nowhere piece on made none = record {
  values = made;
  work = all_dirty_stay (λ t risen. none (risen_in_piece piece on made risen));
}
