-- Images that grow in one row of a rectangle.
use Rattle.std.proofs.Common.{◌≡◌, ℕ, zero, suc, ◌+◌, ◌-◌, ◌*◌, ◌<◌, ◌≤◌, List, length, get_or, min, max, refl, sym, ap}
use Rattle.std.proofs.Common.{◌∙◌, subst, inl, inr, arith}
use Rattle.std.proofs.{Math.Nat.mul-le-mul_right, lemmas.List.Edits.length-between, lemmas.List.Edits.get_or-between}
use Rattle.std.proofs.{lemmas.Bool.cases_lt, lemmas.Bool.cases_eq}
use Rattle.std.specs.List.{between}
use borrow.Rule.Slice.PartMut.{put_mid}
use Rattle.grid_core.specs.{declared.conn.Conn.Conn, declared.pixel.Pixel.Pixel, declared.rect.Rect.Rect}
use Rattle.grid_core.specs.{Neighbours.apart, Neighbours.AreNeighbours, Path.Domain, Path.Inside, Path.Reaches}
use Rattle.grid_core.specs.Raster.{Raster, IsInside, IsBelow, value_at}
use Rattle.grid_core.specs.Rects.{RectFits, domain_in, in_image, part, IsRowOf}
use Rattle.grid_core.proofs.Cells.{below_at_each_pixel}
use Rattle.grid_core.proofs.Reach.{reaches_here, reaches_by_step, reaches_lower, reaches_within_mask}
use Rattle.row_scans.specs.Rows.{AreAside, AreBeside}
use Rattle.row_scans.specs.RowRaises.{IsRaisedBy, IsRaisedFromLeft, IsRaisedFromRight, AreCellsRaised}
use Rattle.raster_sweeps.specs.RowPairs.{CanGrowAcross, CanGrowRow, IsFromTo, NoneOpen, NoneOpenToLeft}
use Rattle.raster_sweeps.specs.RowPairs.{NoneOpenToRight, IsRowGrown}
use Rattle.raster_sweeps.proofs.{ImageRows.neighbours_in_row, ImageRows.neighbours_in_rows, ImageRows.aside_in_row}
use Rattle.raster_sweeps.proofs.{ImageRows.beside_in_rows, ImageRows.value_in_row, Grown.fits_below}
use Rattle.raster_sweeps.proofs.Grown.{in_image-inside}
use Rattle.row_scans.proofs.Replacing.{IsReplaced, replaced_mid}
use Rattle.row_scans.proofs.RowRaises.{rises_from_left, rises_from_right}

-- ---- levels that the pixels of a raised row reach

module _ (d : Domain) {mask j : Pixel → ℕ} (below : (p : Pixel) → Inside d p → j p ≤ mask p) {y : ℕ}
    (inside_y : y < d.height) {limits old : List ℕ} (of_mask : IsRowOf d.width mask y limits)
    (of_old : IsRowOf d.width j y old) where
  -- the pixel of a column
  abbrev at : ℕ → Pixel
  at x = record { x = x; y = y }

  -- the pixel of a column reaches the level
  abbrev pub ReachesAt : ℕ → ℕ → Type 0
  ReachesAt x level = Reaches d mask j (record { x = x; y = y }) level

  -- a pixel reaches what it has
  own : (p : Pixel) → Inside d p → Reaches d mask j p (j p)
  own p inside = reaches_here d mask j p (j p) inside (below p inside) (omega arith)

  old_reached : (x : ℕ) → x < d.width → ReachesAt x (get_or old x 0)
  old_reached x less = subst (ReachesAt x) (sym (of_old.values x less)) (own (at x) (less, inside_y))

  -- a level that a neighbour reaches, as far as the mask lets it
  from_beside : (x : ℕ) (q : Pixel) (level new_level : ℕ) → x < d.width → AreNeighbours d.conn (at x) q
      → Reaches d mask j q level → new_level ≤ min level (get_or limits x 0) → ReachesAt x new_level
  from_beside x q level new_level less beside reach under =
      reaches_by_step d mask j (at x) q new_level (less, inside_y) beside
      (omega (arith, under, of_mask.values x less))
      (reaches_lower d mask j q level new_level (omega (arith, under)) reach)

  -- by a row that touches it
  pub reached_by : {z : ℕ} {source new : List ℕ} → z < d.height → apart y z ≡ 1 → IsRowOf d.width j z source
      → IsRaisedBy (AreBeside d.conn) limits source old new → (x : ℕ) → x < d.width → ReachesAt x (get_or new x 0)
  reached_by {z} {new = new} inside_z next of_source raised x less =
      elim (raised.raised x (omega (arith, of_old.long))) [
        | inl same ↦ subst (ReachesAt x) (sym same) (old_reached x less)
        | inr rose ↦
            let q : Pixel = record { x = rose.0; y = z } in
            let inside_q : Inside d q = (omega (arith, rose.1, of_old.long), inside_z) in
            from_beside x q (j q) (get_or new x 0) less (neighbours_in_rows d.conn (at x) q next rose.2)
            (own q inside_q)
            (omega (arith, rose.3, of_source.values rose.0 inside_q.0))
      ]

  -- by a pixel of the row beside it
  reached_beside : (x z level new_level : ℕ) → x < d.width → AreAside x z → ReachesAt z level
      → new_level ≡ max (get_or old x 0) (min level (get_or limits x 0)) → ReachesAt x new_level
  reached_beside x z level new_level less aside reach same =
      elim (cases_lt (get_or old x 0) (min level (get_or limits x 0))) [
        | inl lower ↦
            from_beside x (at z) level new_level less (neighbours_in_row d.conn (at x) (at z) refl aside) reach
            (omega (arith, lower))
        | inr high ↦
            let kept : get_or old x 0 ≡ new_level = omega (arith, high) in
            subst (ReachesAt x) kept (old_reached x less)
      ]

  -- from the left
  pub reached_from_left : {new : List ℕ} → IsRaisedFromLeft limits old new → (x : ℕ) → x < d.width
      → ReachesAt x (get_or new x 0)
  reached_from_left raised zero less = subst (ReachesAt zero) (sym raised.first) (old_reached zero less)
  reached_from_left {new} raised (suc x) less =
      let one : suc x ≡ x + 1 = omega arith in
      subst (λ n. ReachesAt n (get_or new n 0)) (sym one)
      (reached_beside (x + 1) x (get_or new x 0) (get_or new (x + 1) 0) (omega arith) (omega arith)
      (reached_from_left raised x (omega arith)) (raised.raised x (omega (arith, of_old.long))))

  -- from the right: the pixel that has `left` others to its right
  reached_with : {new : List ℕ} → IsRaisedFromRight limits old new → (left x : ℕ) → x + left + 1 ≡ d.width
      → ReachesAt x (get_or new x 0)
  reached_with raised zero x same =
      subst (ReachesAt x) (sym (raised.last x (omega (arith, of_old.long)))) (old_reached x (omega arith))
  reached_with {new} raised (suc left) x same =
      reached_beside x (x + 1) (get_or new (x + 1) 0) (get_or new x 0) (omega arith) (omega arith)
      (reached_with raised left (x + 1) (omega arith)) (raised.raised x (omega (arith, of_old.long)))

  pub reached_from_right : {new : List ℕ} → IsRaisedFromRight limits old new → (x : ℕ) → x < d.width
      → ReachesAt x (get_or new x 0)
  reached_from_right raised x less = reached_with raised (d.width - x - 1) x (omega arith)

-- ---- an image in which one row of a rectangle is replaced

-- the image with other cells
abbrev pub refilled : Raster → List ℕ → Raster
refilled image cells = record { width = image.width; height = image.height; cells = cells }

-- the place of the first cell of a row of the rectangle, and the cells of that row
abbrev pub start_of : Rect → ℕ → ℕ → ℕ
start_of rect width y = (rect.y + y) * width + rect.x

abbrev pub row_cells : Rect → Raster → ℕ → List ℕ
row_cells rect image y = between (start_of rect image.width y) (start_of rect image.width y + rect.w) image.cells

-- the image with another row of so many cells there
abbrev pub with_row : Rect → Raster → ℕ → ℕ → List ℕ → Raster
with_row rect image y n row = refilled image (put_mid (start_of rect image.width y) n image.cells row)

-- a pixel of the rectangle reaches the level in it
abbrev pub ReachesIn : Conn → Rect → Raster → Raster → Pixel → ℕ → Type 0
ReachesIn conn rect mask image p level =
    Reaches (domain_in rect conn) (part rect (value_at mask)) (part rect (value_at image)) p level

-- of two rows that touch, each may grow
pub from_can_grow : {rect : Rect} {mask image : Raster} {y z : ℕ} → CanGrowAcross rect mask image y z
    → CanGrowRow rect mask image y
from_can_grow across = assumption across

pub to_can_grow : {rect : Rect} {mask image : Raster} {y z : ℕ} → CanGrowAcross rect mask image y z
    → CanGrowRow rect mask image z
to_can_grow across = assumption across

module _ {rect : Rect} {mask before : Raster} {y : ℕ} (grow : CanGrowRow rect mask before y) where
  pub fits : RectFits before.width before.height rect
  fits = fits_below grow.below grow.fits

  pub row_within : start_of rect before.width y + rect.w ≤ length before.cells
  row_within =
      let rows : (rect.y + y + 1) * before.width ≤ before.height * before.width =
      mul-le-mul_right before.width (omega (arith, grow.row, fits.rows)) in
      omega (arith, grow.filled, fits.columns, rows)

  below_in : (p : Pixel) → IsInside rect.w rect.h p → part rect (value_at before) p ≤ part rect (value_at mask) p
  below_in p inside =
      below_at_each_pixel before mask grow.filled grow.below (in_image rect p) (in_image-inside p fits inside)

  pub row_of : IsRowOf rect.w (part rect (value_at before)) y (row_cells rect before y)
  row_of =
      let start = start_of rect before.width y in
      record {
        long = omega (arith, length-between before.cells start (start + rect.w) row_within);
        values = λ x less.
            let place : start + x ≡ (rect.y + y) * before.width + (rect.x + x) = omega arith in
            get_or-between before.cells start (start + rect.w) x 0 (omega arith)
            ∙ ap (λ i. get_or before.cells i 0) place;
      }

module _ {rect : Rect} {mask before : Raster} {y : ℕ} {row cells : List ℕ} (grow : CanGrowRow rect mask before y)
    (long : length row ≡ rect.w) (replaced : IsReplaced (start_of rect before.width y) row before.cells cells) where
  -- the row has its new values
  value_in : (p : Pixel) → IsInside rect.w rect.h p → p.y ≡ y
      → part rect (value_at (refilled before cells)) p ≡ get_or row p.x 0
  value_in p inside same =
      let place : (rect.y + p.y) * before.width + (rect.x + p.x) ≡ start_of rect before.width y + p.x =
      ap (λ v. (rect.y + v) * before.width + (rect.x + p.x)) same ∙ omega arith in
      ap (λ i. get_or cells i 0) place ∙ replaced.inside p.x (omega (arith, inside.0))

  -- each other pixel has its old value
  value_out : (p : Pixel) → IsInside before.width before.height p
      → (rect.x ≤ p.x → p.x < rect.x + rect.w → p.y ≡ rect.y + y → ⊥)
      → value_at (refilled before cells) p ≡ value_at before p
  value_out p inside other =
      let width = before.width in
      let k : ℕ = p.y * width + p.x in
      elim (cases_lt p.y (rect.y + y)) [
        | inl above ↦
            let row_over : (p.y + 1) * width ≤ (rect.y + y) * width = mul-le-mul_right width (omega arith) in
            replaced.ahead k (omega (arith, inside.0, row_over))
        | inr not_above ↦ elim (cases_lt (rect.y + y) p.y) [
          | inl under ↦
              let row_under : (rect.y + y + 1) * width ≤ p.y * width = mul-le-mul_right width (omega arith) in
              replaced.behind k (omega (arith, (fits grow).columns, row_under))
          | inr not_under ↦
              let same : p.y ≡ rect.y + y = omega arith in
              let line : p.y * width ≡ (rect.y + y) * width = ap (λ v. v * width) same in
              elim (cases_lt p.x rect.x) [
                | inl left ↦ replaced.ahead k (omega (arith, left, line))
                | inr from_left ↦ elim (cases_lt p.x (rect.x + rect.w)) [
                  | inl within ↦ absurd (other from_left within same)
                  | inr right ↦ replaced.behind k (omega (arith, right, line))
                ]
              ]
        ]
      ]

  -- the mask at a column of the row
  mask_in : (x : ℕ) → part rect (value_at mask) (record { x = x; y = y })
      ≡ get_or mask.cells (start_of rect before.width y + x) 0
  mask_in x =
      let place : (rect.y + y) * mask.width + (rect.x + x) ≡ start_of rect before.width y + x =
      ap (λ w. (rect.y + y) * w + (rect.x + x)) (sym grow.below.width) ∙ omega arith in
      ap (λ i. get_or mask.cells i 0) place

  -- the cells of the image are below the mask
  new_below : (conn : Conn)
      → ((x : ℕ) → x < rect.w → ReachesIn conn rect mask before (record { x = x; y = y }) (get_or row x 0))
      → IsBelow (refilled before cells) mask
  new_below conn reached =
      let start = start_of rect before.width y in
      let below = grow.below in
      record {
        width = below.width;
        height = below.height;
        values = λ k within. elim (cases_lt k start) [
          | inl ahead ↦ omega (arith, replaced.ahead k ahead, below.values k (omega (arith, replaced.long)))
          | inr from ↦ elim (cases_lt k (start + rect.w)) [
            | inr past ↦ omega (arith, replaced.behind k (omega arith), below.values k (omega (arith, replaced.long)))
            | inl inside ↦
                let x = k - start in
                let place : start + x ≡ k = omega arith in
                let under : get_or row x 0 ≤ get_or mask.cells (start + x) 0 =
                omega (
                  arith,
                  reaches_within_mask (domain_in rect conn) (part rect (value_at mask)) (part rect (value_at before))
                      (record { x = x; y = y }) (get_or row x 0) (reached x (omega arith)),
                  mask_in x,
                ) in
                subst (λ i. get_or cells i 0 ≤ get_or mask.cells i 0) place
                (omega (arith, replaced.inside x (omega arith)))
          ]
        ];
      }

  -- the pixels of other rows have their old values
  others : (p : Pixel) → IsInside rect.w rect.h p → (p.y ≡ y → ⊥)
      → part rect (value_at (refilled before cells)) p ≡ part rect (value_at before) p
  others p inside other =
      value_out (in_image rect p) (in_image-inside p (fits grow) inside) (λ left right same. other (omega arith))

  pub row_grown : {conn : Conn}
      → ((x : ℕ) → x < rect.w → part rect (value_at before) (record { x = x; y = y }) ≤ get_or row x 0)
      → ((x : ℕ) → x < rect.w → ReachesIn conn rect mask before (record { x = x; y = y }) (get_or row x 0))
      → IsRowGrown conn rect mask y before (refilled before cells)
  row_grown {conn} rises reached =
      let after = part rect (value_at (refilled before cells)) in
      let reaches = ReachesIn conn rect mask before in
      record {
        grown =
            record {
              width = refl;
              height = refl;
              filled = replaced.long;
              below = new_below conn reached;
              outside = λ p inside out.
                  value_out p inside (λ left right same.
                  out (left, right, omega arith, omega (arith, grow.row)));
              lawful = λ p inside. elim (cases_eq p.y y) [
                | inl same ↦
                    let here : p ≡ record { x = p.x; y = y } = ap (λ v. record { x = p.x; y = v }) same in
                    let value : after p ≡ get_or row p.x 0 = value_in p inside same in
                    subst (λ q. (part rect (value_at before) q ≤ after p) × reaches q (after p)) (sym here) (
                      omega (arith, rises p.x inside.0, value),
                      subst (reaches (record { x = p.x; y = y })) (sym value) (reached p.x inside.0),
                    )
                | inr other ↦
                    let kept = others p inside other in (
                      omega arith,
                      subst (reaches p) (sym kept)
                          (reaches_here (domain_in rect conn) (part rect (value_at mask))
                          (part rect (value_at before)) p (part rect (value_at before) p) inside
                          (below_in grow p inside) (omega arith)),
                    )
              ];
            };
        others = others;
      }

-- ---- what a scan does to a row of an image

module _ {rect : Rect} {mask before : Raster} {y : ℕ} {limits : List ℕ} (grow : CanGrowRow rect mask before y)
    (of_mask : IsRowOf rect.w (part rect (value_at mask)) y limits) where
  -- a row that is put there
  put_replaced : {n : ℕ} (row : List ℕ) → n ≡ rect.w → length row ≡ rect.w
      → IsReplaced (start_of rect before.width y) row before.cells
      (put_mid (start_of rect before.width y) n before.cells row)
  put_replaced {n} row same long =
      replaced_mid (start_of rect before.width y) n row before.cells (omega arith)
      (omega (arith, row_within grow))

  pub grown_from_left : {conn : Conn} {n : ℕ} {row : List ℕ} → n ≡ rect.w
      → IsRaisedFromLeft limits (row_cells rect before y) row
      → IsRowGrown conn rect mask y before (with_row rect before y n row)
  grown_from_left {conn} {row = row} same raised =
      let of_old = row_of grow in
      let long : length row ≡ rect.w = omega (arith, raised.long, of_old.long) in
      row_grown grow long (put_replaced row same long)
      (λ x less. omega (arith, rises_from_left raised x (omega (arith, of_old.long)), of_old.values x less))
      (reached_from_left (domain_in rect conn) (below_in grow) grow.row of_mask of_old raised)

  pub grown_from_right : {conn : Conn} {n : ℕ} {row : List ℕ} → n ≡ rect.w
      → IsRaisedFromRight limits (row_cells rect before y) row
      → IsRowGrown conn rect mask y before (with_row rect before y n row)
  grown_from_right {conn} {row = row} same raised =
      let of_old = row_of grow in
      let long : length row ≡ rect.w = omega (arith, raised.long, of_old.long) in
      row_grown grow long (put_replaced row same long)
      (λ x less. omega (arith, rises_from_right raised x (omega (arith, of_old.long)), of_old.values x less))
      (reached_from_right (domain_in rect conn) (below_in grow) grow.row of_mask of_old raised)

  -- the values of a row that is put there
  value_put : {n : ℕ} (row : List ℕ) → n ≡ rect.w → length row ≡ rect.w
      → (r : Pixel) → IsInside rect.w rect.h r → r.y ≡ y
      → part rect (value_at (with_row rect before y n row)) r ≡ get_or row r.x 0
  value_put row same long = value_in grow long (put_replaced row same long)

  -- no pixel of the row then raises the one to its right
  pub none_open_to_right : {conn : Conn} {n : ℕ} {row : List ℕ} → n ≡ rect.w
      → IsRaisedFromLeft limits (row_cells rect before y) row
      → NoneOpenToRight conn rect mask (with_row rect before y n row) y
  none_open_to_right {conn} {row = row} same raised p q raises rows right =
      let of_old = row_of grow in
      let long : length row ≡ rect.w = omega (arith, raised.long, of_old.long) in
      let next : p.x + 1 ≡ q.x =
      omega (arith, aside_in_row conn p q raises.beside (omega (arith, rows.0, rows.1)), right) in
      let higher : get_or row q.x 0 ≡ get_or row (p.x + 1) 0 = ap (λ x. get_or row x 0) (sym next) in
      let limit : get_or limits q.x 0 ≡ get_or limits (p.x + 1) 0 = ap (λ x. get_or limits x 0) (sym next) in
      omega (
        arith,
        raises.lower,
        raised.raised p.x (omega (arith, raises.to_inside.0, of_old.long, next)),
        higher,
        limit,
        value_put row same long p raises.from_inside rows.0,
        value_put row same long q raises.to_inside rows.1,
        value_in_row q of_mask raises.to_inside.0 rows.1,
      )

  -- no pixel of the row then raises the one to its left
  pub none_open_to_left : {conn : Conn} {n : ℕ} {row : List ℕ} → n ≡ rect.w
      → IsRaisedFromRight limits (row_cells rect before y) row
      → NoneOpenToLeft conn rect mask (with_row rect before y n row) y
  none_open_to_left {conn} {row = row} same raised p q raises rows left =
      let of_old = row_of grow in
      let long : length row ≡ rect.w = omega (arith, raised.long, of_old.long) in
      let next : q.x + 1 ≡ p.x =
      omega (arith, aside_in_row conn p q raises.beside (omega (arith, rows.0, rows.1)), left) in
      let higher : get_or row p.x 0 ≡ get_or row (q.x + 1) 0 = ap (λ x. get_or row x 0) (sym next) in
      omega (
        arith,
        raises.lower,
        raised.raised q.x (omega (arith, raises.from_inside.0, of_old.long, next)),
        higher,
        value_put row same long p raises.from_inside rows.0,
        value_put row same long q raises.to_inside rows.1,
        value_in_row q of_mask raises.to_inside.0 rows.1,
      )

  -- where no pixel of the row raised the one to its right, none does then
  pub still_none_open_to_right : {conn : Conn} {n : ℕ} {row : List ℕ} → n ≡ rect.w
      → IsRaisedFromRight limits (row_cells rect before y) row → NoneOpenToRight conn rect mask before y
      → NoneOpenToRight conn rect mask (with_row rect before y n row) y
  still_none_open_to_right {conn} {row = row} same raised none p q raises rows right =
      let of_old = row_of grow in
      let long : length row ≡ rect.w = omega (arith, raised.long, of_old.long) in
      let next : p.x + 1 ≡ q.x =
      omega (arith, aside_in_row conn p q raises.beside (omega (arith, rows.0, rows.1)), right) in
      let higher : get_or row q.x 0 ≡ get_or row (p.x + 1) 0 = ap (λ x. get_or row x 0) (sym next) in
      none p q
      (record {
        from_inside = raises.from_inside;
        to_inside = raises.to_inside;
        beside = raises.beside;
        lower =
            omega (
              arith,
              raises.lower,
              raised.raised p.x (omega (arith, raises.to_inside.0, of_old.long, next)),
              higher,
              rises_from_right raised q.x (omega (arith, raises.to_inside.0, of_old.long)),
              value_put row same long p raises.from_inside rows.0,
              value_put row same long q raises.to_inside rows.1,
              value_in_row p of_old raises.from_inside.0 rows.0,
              value_in_row q of_old raises.to_inside.0 rows.1,
            );
      }) rows right

  -- a row that is raised by another, as the cells of the image have it
  row_replaced : {conn : Conn} {source : ℕ} {cells : List ℕ}
      → AreCellsRaised conn limits source (start_of rect before.width y) before.cells cells
      → IsReplaced (start_of rect before.width y) (row_cells rect (refilled before cells) y) before.cells cells
  row_replaced {cells = cells} raised =
      let start = start_of rect before.width y in
      let within : start + rect.w ≤ length cells = omega (arith, row_within grow, raised.long) in
      let long = length-between cells start (start + rect.w) within in
      record {
        fits = omega (arith, raised.long, long, within);
        long = raised.long;
        inside = λ k less. sym (get_or-between cells start (start + rect.w) k 0 (omega (arith, long)));
        ahead = raised.ahead;
        behind = λ i past. raised.behind i (omega (arith, past, long, of_mask.long));
      }

  module _ {z : ℕ} (other : CanGrowRow rect mask before z) (touch : apart y z ≡ 1) where
    pub grown_by : {conn : Conn} {cells : List ℕ}
        → AreCellsRaised conn limits (start_of rect before.width z) (start_of rect before.width y) before.cells cells
        → IsRowGrown conn rect mask y before (refilled before cells)
    grown_by {conn} raised =
        let of_old = row_of grow in
        let by = rw of_mask.long at raised.row in
        row_grown grow (omega (arith, by.long, of_old.long)) (row_replaced raised)
        (λ x less. omega (arith, by.rises x (omega (arith, of_old.long)), of_old.values x less))
        (reached_by (domain_in rect conn) (below_in grow) grow.row of_mask of_old other.row touch (row_of other) by)

    -- no pixel of the other row then raises one of this row
    pub none_open_by : {conn : Conn} {cells : List ℕ}
        → AreCellsRaised conn limits (start_of rect before.width z) (start_of rect before.width y) before.cells cells
        → NoneOpen conn rect mask (refilled before cells) (IsFromTo z y)
    none_open_by {conn} raised p q raises rows =
        let by = rw of_mask.long at raised.row in
        let closed = rw of_mask.long at raised.closed in
        let of_old = row_of grow in
        let beside : AreBeside conn p.x q.x = beside_in_rows conn p q raises.beside (omega (arith, rows.0, rows.1)) in
        omega (
          arith,
          raises.lower,
          closed p.x q.x (omega (arith, raises.from_inside.0, by.long, of_old.long))
              (omega (arith, raises.to_inside.0, by.long, of_old.long)) beside,
          (grown_by raised).others p raises.from_inside (λ same. omega (arith, rows.0)),
          value_in_row p (row_of other) raises.from_inside.0 rows.0,
          value_in grow (omega (arith, by.long, of_old.long)) (row_replaced raised) q raises.to_inside rows.1,
          value_in_row q of_mask raises.to_inside.0 rows.1,
        )
