-- Rows that have grown, and where they are then closed.
use Rattle.std.proofs.Common.{◌≡◌, ℕ, ◌-◌, ◌<◌, ◌≤◌, List, arith, inl, inr}
use Rattle.std.proofs.lemmas.Bool.{cases_lt}
use Rattle.grid_core.specs.{declared.conn.Conn.Conn, declared.pixel.Pixel.Pixel, declared.rect.Rect.Rect}
use Rattle.grid_core.specs.Raster.{Raster}
use Rattle.grid_core.proofs.Pixels.{near}
use Rattle.raster_sweeps.specs.{declared.size.Size.Size, RowPairs.IsRowGrown}
use Rattle.raster_sweeps.specs.Growth.{AllWait, IsOpenIn, WaitFrom, rows_of}
use Rattle.band_growth.specs.Bands.{AreClosedApart, all_of}

-- a pair that is open after a row has risen was open before, where neither pixel lies in that row
pub open_before : {conn : Conn} {rect : Rect} {mask before after : Raster} {y : ℕ} {p q : Pixel}
    → IsRowGrown conn rect mask y before after → IsOpenIn conn rect mask after p q
    → (p.y ≡ y → ⊥) → (q.y ≡ y → ⊥) → IsOpenIn conn rect mask before p q
open_before {p = p} {q} grown raises other_p other_q = record {
  from_inside = raises.from_inside;
  to_inside = raises.to_inside;
  beside = raises.beside;
  lower =
      omega (arith, raises.lower, grown.others p raises.from_inside other_p, grown.others q raises.to_inside other_q);
}

-- where one row has risen, the rows before it and those from the next one on stay closed
pub apart_more : {conn : Conn} {size : Size} {mask before after : List ℕ} {y top bottom new_top new_bottom : ℕ}
    → AreClosedApart conn size mask before top bottom
    → IsRowGrown conn (all_of size) (rows_of size mask) y (rows_of size before) (rows_of size after)
    → new_top ≤ top → new_top ≤ y → bottom ≤ new_bottom → y < new_bottom
    → AreClosedApart conn size mask after new_top new_bottom
apart_more apart grown up up_row down down_row = record {
  before = λ p q raises p_above q_above.
      apart.before p q (open_before grown raises (λ e. omega arith) (λ e. omega arith)) (omega arith) (omega arith);
  from = λ p q raises p_below q_below.
      apart.from p q (open_before grown raises (λ e. omega arith) (λ e. omega arith)) (omega arith) (omega arith);
}

-- rows that are closed by themselves have no open pair that would have to wait
pub closed_waits : {conn : Conn} {size : Size} {mask image : List ℕ} {top bottom : ℕ} (waiting : List ℕ)
    → AreClosedApart conn size mask image top bottom
    → WaitFrom conn (all_of size) (rows_of size mask) (rows_of size image) bottom waiting
closed_waits waiting closed p q raises from_p from_q = absurd (closed.from p q raises from_p from_q)

-- where those above a cut are closed by themselves, all open pairs wait if those from the row above it on wait
pub cut_waits : {conn : Conn} {size : Size} {mask image : List ℕ} {cut bottom : ℕ} (waiting : List ℕ) → 0 < cut
    → AreClosedApart conn size mask image cut bottom
    → WaitFrom conn (all_of size) (rows_of size mask) (rows_of size image) (cut - 1) waiting
    → AllWait conn (all_of size) (rows_of size mask) (rows_of size image) waiting
cut_waits {conn} {cut = cut} waiting some closed waits p q raises =
    let near_rows = (near conn p q raises.beside).1 in
    elim (cases_lt p.y (cut - 1)) [
      | inl p_above ↦ absurd (closed.before p q raises (omega (arith, p_above)) (omega (arith, near_rows, p_above)))
      | inr p_below ↦ elim (cases_lt q.y (cut - 1)) [
        | inl q_above ↦ absurd (closed.before p q raises (omega (arith, near_rows, q_above)) (omega (arith, q_above)))
        | inr q_below ↦ waits p q raises (omega (arith, p_below)) (omega (arith, q_below))
      ]
    ]
