-- Bands that are cut out of a tiling, of its work and of its bounds.
use Rattle.std.proofs.Common.{◌≡◌, ℕ, ◌+◌, ◌-◌, ◌*◌, ◌<◌, ◌≤◌, ◌⊎◌, inl, inr, sym, ap, ◌∙◌, subst, arith, min, refl}
use Rattle.std.proofs.Common.{List, [], ◌∷◌, ◌++◌}
use Rattle.std.proofs.lemmas.Bool.{cases_lt}
use Rattle.std.proofs.lemmas.Grind.{div_ceil_times}
use Rattle.std.proofs.lemmas.Nat.{mul-le, le-div}
use Rattle.std.specs.Int.{div_ceil}
use Rattle.grid_core.specs.{declared.bounds.Bounds.Bounds, declared.conn.Conn.Conn, Bounds.LieIn}
use Rattle.grid_core.specs.Tiles.{Tiles, IsTiled, columns_of, rows_of, count_of, row_of, rect_of}
use Rattle.grid_core.proofs.Spans.{span_begins}
use Rattle.grid_core.proofs.Tilings.{some_side, some_columns}
use Rattle.border_queues.specs.TileWork.{TileWork}
use Rattle.reset_core.specs.declared.replica.bands.Band.{Band}
use Rattle.reset_core.specs.Bands.{rows_above, tiles_above}
use Rattle.reset_core.specs.BandParts.{IsTilingOf, IsBandCut, AreBandsCut}
use Rattle.reset_core.proofs.Bands.Tiles.{columns_same}

-- how many spans there are
pub span_count : (w s n : ℕ) → 0 < s → w ≤ n * s → n * s < w + s → div_ceil w s ≡ n
span_count w s n positive long short =
    let times = div_ceil_times w s positive in
    elim (cases_lt (div_ceil w s) n) [
      | inl less ↦
          let more : (div_ceil w s + 1) * s ≤ n * s =
          mul-le (div_ceil w s + 1) s n s (omega (arith, less)) (omega arith) in
          absurd (omega (arith, more, times.0, short))
      | inr at_least ↦ elim (cases_lt n (div_ceil w s)) [
        | inl less ↦
            let more : (n + 1) * s ≤ div_ceil w s * s =
            mul-le (n + 1) s (div_ceil w s) s (omega (arith, less)) (omega arith) in
            absurd (omega (arith, more, times.1, long))
        | inr at_most ↦ omega (arith, at_least, at_most)
      ]
    ]

module _ (tiles : Tiles) (above below : ℕ) (tiled : IsTiled tiles) (some : above < below)
    (within : below ≤ rows_of tiles) where
  abbrev height : ℕ
  height = min (below * tiles.side) tiles.height - above * tiles.side

  abbrev pub tiling_of : Tiles
  tiling_of = record { width = tiles.width; height = height; side = tiles.side }

  begins : above * tiles.side < tiles.height
  begins = span_begins above tiles.height tiles.side (some_side tiles tiled) (omega (arith, some, within))

  lower : above * tiles.side + tiles.side ≤ below * tiles.side
  lower =
      let more : (above + 1) * tiles.side ≤ below * tiles.side =
      mul-le (above + 1) tiles.side below tiles.side (omega (arith, some)) (omega arith) in
      omega (arith, more)

  pub some_height : (0 < height) × (above * tiles.side + height ≤ tiles.height)
  some_height = (omega (arith, begins, lower, some_side tiles tiled), omega (arith, begins))

  -- the last row of tiles may be cut, the others are whole
  ends_where : ((below ≡ rows_of tiles) × (above * tiles.side + height ≡ tiles.height))
      ⊎ (above * tiles.side + height ≡ below * tiles.side)
  ends_where = elim (cases_lt below (rows_of tiles)) [
    | inl less ↦
        let begun = span_begins below tiles.height tiles.side (some_side tiles tiled) less in
        inr (omega (arith, begun, lower))
    | inr at_least ↦ elim (cases_lt (below * tiles.side) tiles.height) [
      | inl over ↦ inr (omega (arith, over, lower))
      | inr at_most ↦ inl (omega (arith, at_least, within), omega (arith, at_most, begins))
    ]
  ]

  count_is : div_ceil height tiles.side ≡ below - above
  count_is =
      let n = below - above in
      let together : above + n ≡ below = omega (arith, some) in
      let split : (above + n) * tiles.side ≡ below * tiles.side = ap (λ k. k * tiles.side) together in
      let last : below * tiles.side ≤ rows_of tiles * tiles.side =
      mul-le below tiles.side (rows_of tiles) tiles.side within (omega arith) in
      let times = div_ceil_times tiles.height tiles.side (some_side tiles tiled) in
      span_count height tiles.side n (some_side tiles tiled) (omega (arith, split))
      (omega (arith, split, last, times.1, begins, lower, some_side tiles tiled))

  pub is_tiling : IsTilingOf tiles above below tiling_of
  is_tiling = record {
    tiled = record {
      size = record {
        some_width = tiled.size.some_width;
        some_height = some_height.0;
        width_within = tiled.size.width_within;
        height_within = omega (arith, tiled.size.height_within);
        pixels_within =
            let fewer : tiles.width * height ≤ tiles.width * tiles.height =
            mul-le tiles.width height tiles.width tiles.height (omega arith) (omega arith) in
            omega (arith, fewer, tiled.size.pixels_within);
      };
      tile_side = tiled.tile_side;
    };
    is_band = record {
      width = refl;
      side = refl;
      within = some_height.1;
      ends = elim ends_where [
        | inl last ↦ inl last.1
        | inr even ↦ inr (below - above, whole_rows even)
      ];
    };
    rows = omega (arith, count_is, some);
    ends = elim ends_where [
      | inl last ↦ inl last.0
      | inr even ↦ inr (whole_rows even ∙ ap (λ n. n * tiles.side) (sym count_is))
    ];
  } where
    whole_rows : above * tiles.side + height ≡ below * tiles.side → height ≡ (below - above) * tiles.side
    whole_rows even =
        let n = below - above in
        let together : above + n ≡ below = omega (arith, some) in
        let split : (above + n) * tiles.side ≡ below * tiles.side = ap (λ k. k * tiles.side) together in
        omega (arith, split, even)

-- the tiles of a band stand between those above and those below
pub count_to : (tiles : Tiles) (above below : ℕ) (band : Tiles) → IsTiled tiles → IsTilingOf tiles above below band
    → tiles_above tiles above + count_of band ≡ tiles_above tiles below
count_to tiles above below band tiled cut =
    let columns = columns_same tiles above band tiled cut.tiled cut.is_band in
    let count : count_of band ≡ columns_of tiles * rows_of band = ap (λ n. n * rows_of band) columns in
    let sum : (above + rows_of band) * columns_of tiles ≡ below * columns_of tiles =
    ap (λ n. n * columns_of tiles) cut.rows in
    omega (arith, count, sum)

pub tiles_within : (tiles : Tiles) (above below : ℕ) (band : Tiles) → IsTiled tiles → below ≤ rows_of tiles
    → IsTilingOf tiles above below band → tiles_above tiles above + count_of band ≤ count_of tiles
tiles_within tiles above below band tiled within cut =
    let most : below * columns_of tiles ≤ rows_of tiles * columns_of tiles =
    mul-le below (columns_of tiles) (rows_of tiles) (columns_of tiles) within (omega arith) in
    omega (arith, count_to tiles above below band tiled cut, most)

-- bounds that lie in a tile further down do not begin above it
pub begin_below : (tiles : Tiles) (above t : ℕ) (b : Bounds) → IsTiled tiles → tiles_above tiles above ≤ t
    → LieIn b (rect_of tiles t) → rows_above tiles above ≤ b.top
begin_below tiles above t b tiled from lies =
    let row : above ≤ row_of tiles t = le-div above t (columns_of tiles) (some_columns tiles tiled) from in
    let rows : above * tiles.side ≤ row_of tiles t * tiles.side =
    mul-le above tiles.side (row_of tiles t) tiles.side row (omega arith) in
    omega (arith, rows, lies.2)

-- one band more is cut out, below those so far
pub one_more_cut : (tiles : Tiles) (conn : Conn) (limit : ℕ) (works : List TileWork) (table : List Bounds) (above : ℕ)
    (bands : List Band) (below : ℕ) (band : Band) (end : ℕ)
    → AreBandsCut tiles conn limit works table above bands below → IsBandCut tiles conn limit works table below band
    → below + rows_of band.tiling ≡ end → AreBandsCut tiles conn limit works table above (bands ++ band ∷ []) end
one_more_cut tiles conn limit works table above [] below band end same cut rows =
    let here : IsBandCut tiles conn limit works table above band =
    subst (λ n. IsBandCut tiles conn limit works table n band) (sym same) cut in
    (here, ap (λ n. n + rows_of band.tiling) same ∙ rows)
one_more_cut tiles conn limit works table above (first ∷ bands) below band end (one, more) cut rows =
    (one, one_more_cut tiles conn limit works table (above + rows_of first.tiling) bands below band end more cut rows)
