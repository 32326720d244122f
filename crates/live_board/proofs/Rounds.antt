-- Rounds: the pixels around one, and one neighbour or one pixel more.
use Rattle.std.proofs.Common.{◌*◌, ◌+◌, ◌++◌, ◌-◌, ◌<◌, ◌&&◌, Bool, Contains, List, [], add-one, add-zero, ap, ap₂}
use Rattle.std.proofs.Common.{arith, false, if◌then◌else◌, le_refl, nat_lt, refl, subst, subst₂, sym, true, zero-add}
use Rattle.std.proofs.Common.{zero-le, zero-mul, ℕ, ◌∙◌, ◌∷◌, ◌≡◌, ◌≤◌}
use Rattle.std.proofs.Math.Nat.{add-suc, mul_comm, suc-mul}
use Rattle.std.proofs.lemmas.List.Elements.{Contains-append_left, Contains-append_right, Contains-push}
use Rattle.std.proofs.lemmas.Nat.{div-mul-add, mod-mul-add}
use Prim.Native.Nat.{suc, zero}
use Rattle.grid_core.proofs.Around.{around_are_neighbours, around_in_order, neighbours_are_around}
use Rattle.grid_core.proofs.Pixels.{same_pixel}
use Rattle.grid_core.specs.{Rows.has_diagonals, Rows.pixel_if, Rows.row_around, Rows.rows_around}
use Rattle.grid_core.specs.{declared.pixel.Pixel.Pixel}
use Rattle.live_board.specs.Rounds.{AreAround, Goes, GoesOver, GoesThrough, Raises, Visits, in_row, nth, one_if}
use Rattle.live_board.specs.Rounds.{pixel_after}
use Rattle.live_board.specs.Seats.{Adds, HasRaised, IsBeside, IsFactOf}
use Rattle.live_board.specs.Words.{IsOn, mask_of, size_of}
use Rattle.live_board.specs.{declared.fact.Fact.Fact, declared.rule.Ground.Ground, declared.rule.SeatView.SeatView}

pub one_if_small : (b : Bool) → one_if b ≤ 1
one_if_small true = le_refl 1
one_if_small false = zero-le

-- one neighbour
pub raises_one : (base : Ground) (from : Fact) (q : Pixel) (rose : Bool) (old new : SeatView)
    → HasRaised base from q rose old new → Raises base from (q ∷ []) (one_if rose) old new
raises_one base from q rose old new more = (rose, new, 0, more, (refl, refl), sym (add-zero (one_if rose)))

-- a pixel that may be missing
pub raises_not : (base : Ground) (from : Fact) (b : Bool) (x y : ℕ) (v : SeatView) → b ≡ false
    → Raises base from (pixel_if b x y) 0 v v
raises_not base from b x y v is =
    subst (λ (e : Bool). Raises base from (pixel_if e x y) 0 v v) (sym is) (refl, refl)

pub raises_it : (base : Ground) (from : Fact) (b : Bool) (x y : ℕ) (rose : Bool) (old new : SeatView) → b ≡ true
    → HasRaised base from (record { x = x; y = y }) rose old new
    → Raises base from (pixel_if b x y) (one_if rose) old new
raises_it base from b x y rose old new is more =
    subst (λ (e : Bool). Raises base from (pixel_if e x y) (one_if rose) old new) (sym is)
    (raises_one base from (record { x = x; y = y }) rose old new more)

pub if_there : (b : Bool) (x y : ℕ) → b ≡ true → Contains (pixel_if b x y) (record { x = x; y = y })
if_there b x y is =
    let p : Pixel = record { x = x; y = y } in
    subst (λ (e : Bool). Contains (pixel_if e x y) p) (sym is) (Contains-push [] p)

-- some neighbours, and then others
pub raises_both : (base : Ground) (from : Fact) (ps qs : List Pixel) (count more : ℕ) (old middle new : SeatView)
    → Raises base from ps count old middle → Raises base from qs more middle new
    → Raises base from (ps ++ qs) (count + more) old new
raises_both base from [] qs count more old middle new first rest =
    let none_yet : count ≡ 0 = first.0 in
    let same : more ≡ count + more = omega arith in
    subst (λ (v : SeatView). Raises base from qs (count + more) v new) first.1
    (subst (λ (k : ℕ). Raises base from qs k middle new) same rest)
raises_both base from (p ∷ ps) qs count more old middle new first rest = (
  first.0,
  first.1,
  first.2 + more,
  first.3,
  raises_both base from ps qs first.2 more first.1 middle new first.4 rest,
  (let is : count ≡ one_if first.0 + first.2 = first.5 in omega arith),
)

-- a fact of a hand stays one
pub fact_stays : (base : Ground) (f more : Fact) (old new : SeatView) → IsFactOf old f → Adds base more old new
    → IsFactOf new f
fact_stays base f more old new mine adds = record {
  known = subst (λ (l : List Fact). Contains l f) (sym adds.facts)
      (Contains-append_left old.facts (more ∷ []) f mine.known);
  current = mine.current ∙ sym adds.generation;
}

-- a row that may be missing
pub row_if : (b sides : Bool) (width x y : ℕ)
    → row_around width x y (sides && b) b ≡ (if b then row_around width x y sides true else [])
row_if true true width x y = refl
row_if true false width x y = refl
row_if false true width x y = refl
row_if false false width x y = refl

-- the pixels of the rows around are the neighbours
pub rows_are_around : (base : Ground) (p : Pixel) → IsOn base p
    → AreAround base p (rows_around base.conn (mask_of base).width (mask_of base).height p)
rows_are_around base p on =
    let w : ℕ = (mask_of base).width in
    let h : ℕ = (mask_of base).height in record {
      members = λ q. (
        (λ found. around_are_neighbours base.conn w h p q on found),
        (λ (beside, inside). neighbours_are_around base.conn w h p q beside inside),
      );
      order = around_in_order base.conn w h p;
    }

-- what a round's loop keeps, after one pixel more
pub goes_more : (base : Ground) (k count here : ℕ) (p : Pixel) (started middle new : SeatView) → p ≡ pixel_after base k
    → Goes base k count started middle → Visits base p here middle new → Goes base (k + 1) (count + here) started new
goes_more base k count here p started middle new is done visit =
    subst (λ (z : ℕ). Goes base z (count + here) started new) (sym (add-one k))
    (middle, count, here, done, subst (λ (q : Pixel). Visits base q here middle new) is visit, refl)

-- the rows above and below a pixel, with diagonals or without, as far as there are
abbrev pub row_above : ℕ → Pixel → Bool → List Pixel
row_above width p aslant = row_around width p.x (p.y - 1) (aslant && nat_lt 0 p.y) (nat_lt 0 p.y)

abbrev pub row_below : ℕ → ℕ → Pixel → Bool → List Pixel
row_below width height p aslant =
    row_around width p.x (p.y + 1) (aslant && nat_lt (p.y + 1) height) (nat_lt (p.y + 1) height)

abbrev pub three_rows : ℕ → ℕ → Pixel → Bool → List Pixel
three_rows width height p aslant =
    row_above width p aslant ++ row_around width p.x p.y true false ++ row_below width height p aslant

pub three_are_around : (base : Ground) (p : Pixel) (aslant : Bool) (height : ℕ) → IsOn base p
    → aslant ≡ has_diagonals base.conn → height ≡ (mask_of base).height
    → AreAround base p (three_rows (mask_of base).width height p aslant)
three_are_around base p aslant height on is_aslant is_height =
    let w : ℕ = (mask_of base).width in
    let h : ℕ = (mask_of base).height in
    let d : Bool = has_diagonals base.conn in
    let same : three_rows w h p d ≡ rows_around base.conn w h p =
    ap₂ (λ (a b : List Pixel). a ++ row_around w p.x p.y true false ++ b) (row_if (nat_lt 0 p.y) d w p.x (p.y - 1))
    (row_if (nat_lt (p.y + 1) h) d w p.x (p.y + 1)) in
    subst₂ (λ (e : Bool) (k : ℕ). AreAround base p (three_rows w k p e)) (sym is_aslant) (sym is_height)
    (subst (AreAround base p) (sym same) (rows_are_around base p on))

-- what stands in one of three parts lies beside
pub in_first : (base : Ground) (p : Pixel) (a b c : List Pixel) → AreAround base p (a ++ b ++ c) → (q : Pixel)
    → Contains a q → IsBeside base p q
in_first base p a b c are q there =
    let is = (are.members q).0 (Contains-append_left (a ++ b) c q (Contains-append_left a b q there)) in
    record { on = is.1; beside = is.0 }

pub in_second : (base : Ground) (p : Pixel) (a b c : List Pixel) → AreAround base p (a ++ b ++ c) → (q : Pixel)
    → Contains b q → IsBeside base p q
in_second base p a b c are q there =
    let is = (are.members q).0 (Contains-append_left (a ++ b) c q (Contains-append_right a b q there)) in
    record { on = is.1; beside = is.0 }

pub in_third : (base : Ground) (p : Pixel) (a b c : List Pixel) → AreAround base p (a ++ b ++ c) → (q : Pixel)
    → Contains c q → IsBeside base p q
in_third base p a b c are q there =
    let is = (are.members q).0 (Contains-append_right (a ++ b) c q there) in
    record { on = is.1; beside = is.0 }

-- the neighbours in three parts
pub raises_three : (base : Ground) (f : Fact) (a b c : List Pixel) (i j k : ℕ) (u v w x : SeatView)
    → Raises base f a i u v → Raises base f b j v w → Raises base f c k w x
    → Raises base f (a ++ b ++ c) (i + j + k) u x
raises_three base f a b c i j k u v w x first second third =
    raises_both base f (a ++ b) c (i + j) k u w x (raises_both base f a b i j u v w first second) third

-- what a row's loop keeps, after one pixel more
pub over_more : (base : Ground) (at : ℕ → Pixel) (k count here : ℕ) (p : Pixel) (old middle new : SeatView) → p ≡ at k
    → GoesOver base at k count old middle → Visits base p here middle new
    → GoesOver base at (k + 1) (count + here) old new
over_more base at k count here p old middle new is done visit =
    subst (λ (z : ℕ). GoesOver base at z (count + here) old new) (sym (add-one k))
    (middle, count, here, done, subst (λ (q : Pixel). Visits base q here middle new) is visit, refl)

-- the same, where the pixels are those of a row
pub along_more : (base : Ground) (y width : ℕ) (back : Bool) (k x count here : ℕ) (old middle new : SeatView)
    → width ≡ (mask_of base).width → x ≡ nth 0 width back k → GoesOver base (in_row base y back) k count old middle
    → Visits base (record { x = x; y = y }) here middle new
    → GoesOver base (in_row base y back) (k + 1) (count + here) old new
along_more base y width back k x count here old middle new wide is done visit =
    over_more base (in_row base y back) k count here (record { x = x; y = y }) old middle new
    (same_pixel (record { x = x; y = y }) (in_row base y back k) (is ∙ ap (λ (w : ℕ). nth 0 w back k) wide) refl) done
    visit

-- what the loop over the rows keeps, after one row more
pub through_more : (base : Ground) (row : ℕ → ℕ) (back : Bool) (k y count here : ℕ) (old middle new : SeatView)
    → y ≡ row k → GoesThrough base row back k count old middle
    → GoesOver base (in_row base y back) (mask_of base).width here middle new
    → GoesThrough base row back (k + 1) (count + here) old new
through_more base row back k y count here old middle new is done goes =
    subst (λ (z : ℕ). GoesThrough base row back z (count + here) old new) (sym (add-one k)) (
      middle,
      count,
      here,
      done,
      subst (λ (z : ℕ). GoesOver base (in_row base z back) (mask_of base).width here middle new) is goes,
      refl,
    )

-- pixels that come next in raster order are gone over
over_is : (base : Ground) (at : ℕ → Pixel) (k m count here : ℕ) (old middle new : SeatView)
    → ((j : ℕ) → j < m → at j ≡ pixel_after base (k + j)) → Goes base k count old middle
    → GoesOver base at m here middle new → Goes base (k + m) (count + here) old new
over_is base at k zero count here old middle new next done goes =
    let none_more : here ≡ 0 = goes.0 in
    let same : count ≡ count + here = omega arith in
    subst (λ (v : SeatView). Goes base (k + zero) (count + here) old v) (sym goes.1)
    (subst₂ (λ (z n : ℕ). Goes base z n old middle) (sym (add-zero k)) same done)
over_is base at k (suc m) count here old middle new next done goes =
    let last : ℕ = goes.2 in
    let before : ℕ = goes.1 in
    let whole : here ≡ before + last = goes.5 in
    let same : (count + before) + last ≡ count + here = omega arith in
    subst₂ (λ (z n : ℕ). Goes base z n old new) (sym (add-suc k m)) same (
      goes.0,
      count + before,
      last,
      over_is base at k m count before old middle goes.0 (λ j low. next j (omega (arith, low))) done goes.3,
      subst (λ (q : Pixel). Visits base q last goes.0 new) (next m (omega arith)) goes.4,
      refl,
    )

-- the first rows, so many of them, are the first pixels in raster order
pub through_is : (base : Ground) (n end count : ℕ) (old new : SeatView)
    → GoesThrough base (nth 0 end false) false n count old new → Goes base (n * (mask_of base).width) count old new
through_is base zero end count old new goes =
    subst (λ (k : ℕ). Goes base k count old new) (sym (zero-mul (mask_of base).width)) goes
through_is base (suc n) end count old new goes =
    let w : ℕ = (mask_of base).width in
    subst₂ (λ (z k : ℕ). Goes base z k old new) (sym (suc-mul n w)) (sym goes.5)
    (over_is base (in_row base (0 + n) false) (n * w) w goes.1 goes.2 old goes.0 new
    (λ j low. same_pixel (in_row base (0 + n) false j) (pixel_after base (n * w + j))
    (zero-add j ∙ sym (mod-mul-add n w j low)) (zero-add n ∙ sym (div-mul-add n w j low)))
    (through_is base n end goes.1 old goes.0 goes.3) goes.4)

-- all rows are all pixels
pub all_rows : (base : Ground) (height count : ℕ) (old new : SeatView) → height ≡ (mask_of base).height
    → GoesThrough base (nth 0 height false) false (height - 0) count old new → Goes base (size_of base) count old new
all_rows base height count old new same goes =
    let w : ℕ = (mask_of base).width in
    let rows : height - 0 ≡ (mask_of base).height = omega (arith, same) in
    let all : (height - 0) * w ≡ size_of base =
    ap (λ (n : ℕ). n * w) rows ∙ mul_comm (mask_of base).height w in
    subst (λ (k : ℕ). Goes base k count old new) all (through_is base (height - 0) height count old new goes)
