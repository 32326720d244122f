-- Bounds around the pixels of hints, and tiles that these do not meet.
use Rattle.std.proofs.Common.{◌≡◌, ℕ, ◌+◌, ◌<◌, List, [], length, get_or, take, subst, arith, inl, inr, Contains}
use Rattle.std.proofs.{lemmas.List.take_more, lemmas.List.Elements.Contains-push_cases}
use Rattle.grid_core.specs.{declared.bounds.Bounds.Bounds, declared.pixel.Pixel.Pixel, declared.rect.Rect.Rect}
use Rattle.grid_core.specs.Bounds.{AreEmpty, IsInBounds, bounds_at, bounds_of, intersection, joined}
use Rattle.grid_core.specs.{Rects.IsInRect, Tiles.Tiles, Tiles.IsTiled, Tiles.count_of, Tiles.rect_of}
use Rattle.grid_core.proofs.Tilings.{each_pixel_in_one_tile}
use Rattle.border_queues.specs.declared.hint.Hint.{Hint}
use Rattle.reset_core.specs.Telling.{hints_in, AreToInside, LieWithin}
use Rattle.reset_core.proofs.Telling.{none_for}

within_joined : (a b : Bounds) (p : Pixel) → IsInBounds a p → IsInBounds (joined a b) p
within_joined a b p (after, before, below, above) = (omega arith, omega arith, omega arith, omega arith)

within_added : (a : Bounds) (p : Pixel) → IsInBounds (joined a (bounds_at p)) p
within_added a p = (omega arith, omega arith, omega arith, omega arith)

-- bounds that have one hint more within them
pub one_more_within : (near : Bounds) (hints : List Hint) (i : ℕ) (d : Hint) → i < length hints
    → LieWithin near (take i hints)
    → LieWithin (joined near (bounds_at (get_or hints i d).to_pixel)) (take (i + 1) hints)
one_more_within near hints i d within so_far hint there =
    let last = get_or hints i d in
    let more = joined near (bounds_at last.to_pixel) in
    elim (Contains-push_cases (take i hints) last hint
    (subst (λ (hs : List Hint). Contains hs hint) (take_more hints i d within) there)) [
      | inl earlier ↦ within_joined near (bounds_at last.to_pixel) hint.to_pixel (so_far hint earlier)
      | inr is_last ↦ subst (λ (h : Hint). IsInBounds more h.to_pixel) is_last (within_added near last.to_pixel)
    ]

apart : (rect : Rect) (near : Bounds) (p : Pixel) → AreEmpty (intersection (bounds_of rect) near) → IsInRect rect p
    → IsInBounds near p → ⊥
apart rect near p empty (left, right, top, bottom) (after, before, below, above) = elim empty [
  | inl columns ↦ omega (arith, columns)
  | inr rows ↦ omega (arith, rows)
]

-- no hint is for a tile that the bounds do not meet
pub none_near : (tiles : Tiles) (hints : List Hint) (near : Bounds) (t : ℕ) → IsTiled tiles → t < count_of tiles
    → AreToInside tiles hints → LieWithin near hints → AreEmpty (intersection (bounds_of (rect_of tiles t)) near)
    → hints_in tiles hints t ≡ []
none_near tiles hints near t tiled is_tile inside lie empty = none_for tiles hints t (λ hint there here.
    let p = hint.to_pixel in
    let own = ((each_pixel_in_one_tile tiles p tiled (inside hint there)).1 t is_tile).1 here in
    apart (rect_of tiles t) near p empty own (lie hint there))
