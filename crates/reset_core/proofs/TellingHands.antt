-- Hints that are handed over, one after another.
use Rattle.std.proofs.Common.{◌≡◌, ℕ, ◌+◌, ◌<◌, ◌≤◌, true, cond, List, [], ◌∷◌, ◌++◌, length, get_or, take, refl}
use Rattle.std.proofs.Common.{sym, ap, ◌∙◌, subst, arith, inl, inr, ◌==◌, if◌then◌else◌, slice_index_or, slice_set}
use Rattle.std.proofs.Common.{Contains, flat_map}
use Rattle.std.proofs.{lemmas.Nat.mul-add-lt, lemmas.Grind.flat_map-append, lemmas.List.Sums.sum_by-set}
use Rattle.std.proofs.lemmas.Bool.{cases_lt, lt-ltb, le-ltb, eq-eqb}
use Rattle.std.proofs.lemmas.List.{get_or-set_other, length-set, append-nil, take_more}
use Rattle.std.proofs.lemmas.List.Elements.{Contains-append_left, Contains-append_right, filter-append}
use Rattle.grid_core.specs.Raster.{IsInside, IsFilled, index_of, max_level, value_at, with_value}
use Rattle.grid_core.specs.Tiles.{Tiles, tile_of}
use Rattle.border_queues.specs.{declared.hint.Hint.Hint, OpenEdges.IsOnTiling}
use Rattle.border_queues.specs.TileWork.{TileWork, idle, dirty_count}
use Rattle.grid_core.proofs.Headroom.{headroom_set}
use Rattle.reset_core.specs.Telling.{ImageAndWork, burden_of, risen_by, handed, all_handed, hints_in, AreHandedOver}
use Rattle.reset_core.specs.Telling.{AreOfTiles, IsHandOver}

-- ---- one hint

pub hint_rises : (tiles : Tiles) (hint : Hint) (s : ImageAndWork) → value_at s.image hint.to_pixel < hint.value
    → handed tiles hint s ≡ risen_by tiles hint s
hint_rises tiles hint s above =
    ap (λ b. if b then risen_by tiles hint s else s) (lt-ltb (value_at s.image hint.to_pixel) hint.value above)

pub hint_stays : (tiles : Tiles) (hint : Hint) (s : ImageAndWork) → hint.value ≤ value_at s.image hint.to_pixel
    → handed tiles hint s ≡ s
hint_stays tiles hint s enough =
    ap (λ b. if b then risen_by tiles hint s else s) (le-ltb (value_at s.image hint.to_pixel) hint.value enough)

-- a hint is one of the hints for its own tile
hint_for_its_tile : (tiles : Tiles) (hint : Hint) (t : ℕ) → tile_of tiles hint.to_pixel ≡ t
    → hints_in tiles (hint ∷ []) t ≡ hint ∷ []
hint_for_its_tile tiles hint t here = ap (λ b. cond b (hint ∷ []) []) (eq-eqb (tile_of tiles hint.to_pixel) t here)

-- a cell that rises takes more from the headroom than a tile that becomes dirty adds
risen_burden : (tiles : Tiles) (hint : Hint) (s : ImageAndWork)
    → index_of s.image.width hint.to_pixel < length s.image.cells
    → tile_of tiles hint.to_pixel < length s.rows → value_at s.image hint.to_pixel < hint.value
    → hint.value ≤ max_level → burden_of (risen_by tiles hint s) ≤ burden_of s
risen_burden tiles hint s within is_tile above top =
    let t = tile_of tiles hint.to_pixel in
    let count : TileWork → ℕ = λ work. if work.dirty then 1 else 0 in
    let work = slice_index_or s.rows t idle in
    let more : dirty_count (slice_set s.rows t (record work { dirty = true })) + count work ≡ dirty_count s.rows + 1 =
    sum_by-set count s.rows t (record work { dirty = true }) idle is_tile in
    omega (arith, headroom_set s.image.cells (index_of s.image.width hint.to_pixel) hint.value within above top, more)

pub one_rises : (tiles : Tiles) (hint : Hint) (t : ℕ) (s : ImageAndWork) → IsOnTiling tiles s.image → IsFilled s.image
    → IsInside tiles.width tiles.height hint.to_pixel → t < length s.rows → tile_of tiles hint.to_pixel ≡ t
    → value_at s.image hint.to_pixel < hint.value → hint.value ≤ max_level
    → AreHandedOver tiles (hints_in tiles (hint ∷ []) t) s (record {
      image = with_value s.image hint.to_pixel hint.value;
      rows = slice_set s.rows t (record (slice_index_or s.rows t idle) { dirty = true });
    })
one_rises tiles hint t s on_tiling filled inside is_tile here above top =
    let width = on_tiling.width in
    let height = on_tiling.height in
    let column : hint.to_pixel.x < s.image.width = omega (arith, inside.0) in
    let row : hint.to_pixel.y < s.image.height = omega (arith, inside.1) in
    let within : index_of s.image.width hint.to_pixel < length s.image.cells =
    omega (arith, filled, mul-add-lt hint.to_pixel.y s.image.width hint.to_pixel.x s.image.height row column) in
    let in_tile : tile_of tiles hint.to_pixel < length s.rows = omega (arith, is_tile, here) in
    let one : AreHandedOver tiles (hint ∷ []) s (risen_by tiles hint s) = record {
      result = hint_rises tiles hint s above;
      width = refl;
      height = refl;
      cells = length-set s.image.cells (index_of s.image.width hint.to_pixel) hint.value;
      count =
          let u = tile_of tiles hint.to_pixel in
          length-set s.rows u (record (slice_index_or s.rows u idle) { dirty = true });
      burden = risen_burden tiles hint s within in_tile above top;
    } in
    let at_tile : ℕ → ImageAndWork = λ u. record {
      image = with_value s.image hint.to_pixel hint.value;
      rows = slice_set s.rows u (record (slice_index_or s.rows u idle) { dirty = true });
    } in
    subst (λ u. AreHandedOver tiles (hints_in tiles (hint ∷ []) t) s (at_tile u)) here
    (subst (λ hints. AreHandedOver tiles hints s (risen_by tiles hint s)) (sym (hint_for_its_tile tiles hint t here))
    one)

pub none_handed : (tiles : Tiles) (s : ImageAndWork) → AreHandedOver tiles [] s s
none_handed tiles s = record {
  result = refl;
  width = refl;
  height = refl;
  cells = refl;
  count = refl;
  burden = omega arith;
}

-- ---- many hints

all_handed-append : (tiles : Tiles) (xs ys : List Hint) (s : ImageAndWork)
    → all_handed tiles (xs ++ ys) s ≡ all_handed tiles ys (all_handed tiles xs s)
all_handed-append tiles [] ys s = refl
all_handed-append tiles (x ∷ xs) ys s = all_handed-append tiles xs ys (handed tiles x s)

pub handed_more : (tiles : Tiles) (xs ys : List Hint) (a b c : ImageAndWork) → AreHandedOver tiles xs a b
    → AreHandedOver tiles ys b c → AreHandedOver tiles (xs ++ ys) a c
handed_more tiles xs ys a b c first second = record {
  result = all_handed-append tiles xs ys a ∙ ap (all_handed tiles ys) first.result ∙ second.result;
  width = second.width ∙ first.width;
  height = second.height ∙ first.height;
  cells = second.cells ∙ first.cells;
  count = second.count ∙ first.count;
  burden = omega (arith, first.burden, second.burden);
}

-- the image is still cut into the tiles
pub still_of_tiles : (tiles : Tiles) (hints : List Hint) (cells : List ℕ) (work : List TileWork) (new : List ℕ)
    (after : List TileWork) → IsHandOver tiles hints cells work new after → AreOfTiles tiles cells work
    → AreOfTiles tiles new after
still_of_tiles tiles hints cells work new after over parts = record {
  tiled = parts.tiled;
  filled = over.cells ∙ parts.filled;
  count = parts.count ∙ sym over.count;
}

-- the next hint of a list, of those for one tile
pub handed_next : (tiles : Tiles) (hints : List Hint) (t i : ℕ) (d : Hint) (a b c : ImageAndWork) → i < length hints
    → AreHandedOver tiles (hints_in tiles (take i hints) t) a b
    → AreHandedOver tiles (hints_in tiles (get_or hints i d ∷ []) t) b c
    → AreHandedOver tiles (hints_in tiles (take (i + 1) hints) t) a c
handed_next tiles hints t i d a b c within first second =
    let more : hints_in tiles (take (i + 1) hints) t
    ≡ hints_in tiles (take i hints) t ++ hints_in tiles (get_or hints i d ∷ []) t =
    ap (λ hs. hints_in tiles hs t) (take_more hints i d within)
    ∙ filter-append (λ hint. tile_of tiles hint.to_pixel == t) (take i hints) (get_or hints i d ∷ []) in
    subst (λ hs. AreHandedOver tiles hs a c) (sym more)
    (handed_more tiles (hints_in tiles (take i hints) t) (hints_in tiles (get_or hints i d ∷ []) t) a b c first second)

-- the hints for the next tile
pub tile_handed_next : (tiles : Tiles) (hints : List Hint) (ts : List ℕ) (i : ℕ) (a b c : ImageAndWork) → i < length ts
    → AreHandedOver tiles (flat_map (hints_in tiles hints) (take i ts)) a b
    → AreHandedOver tiles (hints_in tiles hints (get_or ts i 0)) b c
    → AreHandedOver tiles (flat_map (hints_in tiles hints) (take (i + 1) ts)) a c
tile_handed_next tiles hints ts i a b c within first second =
    let f = hints_in tiles hints in
    let last : flat_map f (get_or ts i 0 ∷ []) ≡ f (get_or ts i 0) = append-nil (f (get_or ts i 0)) in
    let more : flat_map f (take (i + 1) ts) ≡ flat_map f (take i ts) ++ f (get_or ts i 0) =
    ap (flat_map f) (take_more ts i 0 within) ∙ flat_map-append f (take i ts) (get_or ts i 0 ∷ [])
    ∙ ap (λ hs. flat_map f (take i ts) ++ hs) last in
    rw more (handed_more tiles (flat_map f (take i ts)) (f (get_or ts i 0)) a b c first second)

-- a tile for which there is no hint keeps its work
pub work_elsewhere_stays : (tiles : Tiles) (hints : List Hint) (s : ImageAndWork) (t : ℕ)
    → ((hint : Hint) → Contains hints hint → tile_of tiles hint.to_pixel ≡ t → ⊥)
    → slice_index_or (all_handed tiles hints s).rows t idle ≡ slice_index_or s.rows t idle
work_elsewhere_stays tiles [] s t none = refl
work_elsewhere_stays tiles (hint ∷ hints) s t none =
    work_elsewhere_stays tiles hints (handed tiles hint s) t
    (λ later there. none later (Contains-append_right (hint ∷ []) hints later there))
    ∙ elim (cases_lt (value_at s.image hint.to_pixel) hint.value) [
      | inl above ↦
          let u : ℕ = tile_of tiles hint.to_pixel in
          let changed : TileWork = record (slice_index_or s.rows u idle) { dirty = true } in
          ap (λ (after : ImageAndWork). slice_index_or after.rows t idle) (hint_rises tiles hint s above)
          ∙ get_or-set_other s.rows u t changed idle (λ same.
          none hint (Contains-append_left (hint ∷ []) hints hint (0, omega arith, refl)) (sym same))
      | inr enough ↦ ap (λ (after : ImageAndWork). slice_index_or after.rows t idle) (hint_stays tiles hint s enough)
    ]
