-- What waits on a trail, when a pixel joins and when the first is taken.
use Rattle.std.proofs.Common.{◌≡◌, ℕ, ◌+◌, ◌-◌, ◌*◌, ◌<◌, ◌≤◌, List, [], ◌∷◌, ◌++◌, length, map}
use Rattle.std.proofs.Common.{Bool, MatchBool, drop, false, get_or, refl, set, suc, sym, subst, take, true, ◌∙◌}
use Rattle.std.proofs.Common.{ap, arith, length-set}
use Rattle.std.proofs.lemmas.List.{drop-set-add, drop_more, get_or-set_same, map-append, take-set}
use Rattle.std.proofs.lemmas.List.Edits.{between_more}
use Rattle.std.proofs.lemmas.Nat.{div-mul-add, mod-mul-add, same_from_place}
use Rattle.std.specs.List.{between}
use Rattle.grid_core.specs.{declared.pixel.Pixel.Pixel, Raster.index_of}
use Rattle.row_scans.{proofs.Bags.one_more_first, proofs.Bags.one_more_last, specs.Waiting.AreOneMore}
use Rattle.grid_core.proofs.Pixels.{same_pixel}
use Rattle.raster_sweeps.specs.Growth.{IsPixelOf}
use Rattle.raster_sweeps.specs.Trail.{IsTrail, cell_at, trail_of}
use mir.Val.{bool_byte}

-- the number of a pixel stands for its cell
pub cell_of_number : (width : ℕ) (p : Pixel) → p.x < 65536 → cell_at width (p.y * 65536 + p.x) ≡ index_of width p
cell_of_number width p narrow =
    rw (div-mul-add p.y 65536 p.x narrow) (rw (mod-mul-add p.y 65536 p.x narrow) refl)

-- a number behind those that wait changes none of them
pub behind_waiting : (numbers : List ℕ) (first end n : ℕ) → first ≤ end
    → between first end (set numbers end n) ≡ between first end numbers
behind_waiting numbers first end n order =
    let far : end ≡ first + (end - first) = omega (arith, order) in
    ap (λ k. take (end - first) (drop first (set numbers k n))) far
    ∙ ap (take (end - first)) (drop-set-add first numbers (end - first) n)
    ∙ take-set (drop first numbers) (end - first) n

-- the number there waits as the last
pub one_more_waits : (width : ℕ) (numbers : List ℕ) (first end n : ℕ) → first ≤ end → end < length numbers
    → map (cell_at width) (between first (end + 1) (set numbers end n))
    ≡ map (cell_at width) (between first end numbers) ++ cell_at width n ∷ []
one_more_waits width numbers first end n order within =
    let cells = map (cell_at width) in
    ap cells (between_more (set numbers end n) first end 0 order (omega (arith, within, length-set numbers end n)))
    ∙ ap (λ m. cells (between first end (set numbers end n) ++ m ∷ [])) (get_or-set_same numbers end n 0 within)
    ∙ ap (λ ms. cells (ms ++ n ∷ [])) (behind_waiting numbers first end n order)
    ∙ map-append (cell_at width) (between first end numbers) (n ∷ [])

-- where a pixel joins, the number behind those that wait does too
pub joins : (wanted : Bool) (width : ℕ) (numbers : List ℕ) (first end : ℕ) (p : Pixel)
    → IsTrail width numbers first end → p.x < width → end < length numbers
    → MatchBool wanted
    (map (cell_at width) (between first (end + bool_byte wanted) (set numbers end (p.y * 65536 + p.x)))
    ≡ map (cell_at width) (between first end numbers) ++ index_of width p ∷ [])
    (trail_of width (set numbers end (p.y * 65536 + p.x)) first (end + bool_byte wanted)
    ≡ trail_of width numbers first end)
joins true width numbers first end p trail column within =
    one_more_waits width numbers first end (p.y * 65536 + p.x) trail.order within
    ∙ ap (λ cell. map (cell_at width) (between first end numbers) ++ cell ∷ [])
    (cell_of_number width p (omega (arith, column, trail.narrow)))
joins false width numbers first end p trail column within =
    let n = p.y * 65536 + p.x in
    let here : end + 0 ≡ end = omega arith in
    ap (trail_of width (set numbers end n) first) here
    ∙ ap (λ cells. record {
      width = width;
      cells = map (cell_at width) cells;
      places = length (set numbers end n) - end;
      count = length (set numbers end n);
    }) (behind_waiting numbers first end n trail.order)
    ∙ ap (λ count. record {
      width = width;
      cells = map (cell_at width) (between first end numbers);
      places = count - end;
      count = count;
    }) (length-set numbers end n)

-- the first of those that wait, and the others
pub first_waits : (width : ℕ) (numbers : List ℕ) (first end : ℕ) → first < end → end ≤ length numbers
    → map (cell_at width) (between first end numbers)
    ≡ cell_at width (get_or numbers first 0) ∷ map (cell_at width) (between (first + 1) end numbers)
first_waits width numbers first end some within =
    let one_more : end - first ≡ suc (end - (first + 1)) = omega (arith, some) in
    ap (λ count. map (cell_at width) (take count (drop first numbers))) one_more
    ∙ ap (λ rest. map (cell_at width) (take (suc (end - (first + 1))) rest))
    (drop_more numbers first 0 (omega (arith, some, within)))

-- the first one taken is one fewer, and one at the end is one more
pub first_taken : {cell : ℕ} {old new : List ℕ} → old ≡ cell ∷ new → AreOneMore cell new old
first_taken {cell} {new = new} taken = subst (AreOneMore cell new) (sym taken) (one_more_first cell new)

pub last_joined : {cell : ℕ} {old new : List ℕ} → new ≡ old ++ cell ∷ [] → AreOneMore cell old new
last_joined {cell} {old} joined = subst (AreOneMore cell old) (sym joined) (one_more_last cell old)

-- a pixel in the columns of the image is the one of its cell
pub pixel_of_its_cell : (width : ℕ) (p : Pixel) → p.x < width → IsPixelOf width (index_of width p) p
pixel_of_its_cell width p inside q column same =
    let places = same_from_place p.y p.x q.y q.x width inside column (sym same) in
    same_pixel p q places.1 places.0
