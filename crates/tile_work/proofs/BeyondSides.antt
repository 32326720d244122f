-- The sides of a tile that tell, all four: each tells another tile, and together they tell all that the tile tells.
use Rattle.std.proofs.Common.{◌≡◌, ℕ, ◌+◌, ◌-◌, ◌<◌, ◌⊎◌, inl, inr, Bool, true, false, List, [], ◌++◌}
use Rattle.std.proofs.Common.{append-nil, nat_lt, refl, sym, ◌∙◌, ap, subst, arith, IsTrue}
use Rattle.std.specs.Prelude.{◌==◌}
use Rattle.std.proofs.lemmas.{Bool.cases_eq, Bool.ltb-true, Bool.lt-ltb, List.Elements.filter-append}
use Rattle.grid_core.specs.declared.{conn.Conn.TheVariants.Four, pixel.Pixel.Pixel, rect.Rect.Rect}
use Rattle.grid_core.specs.Tiles.{Tiles, IsTiled, count_of, tile_of, rect_of}
use Rattle.grid_core.proofs.Tilings.{tiles_lie_inside}
use Rattle.border_queues.specs.declared.{hint.Hint.Hint, sides.Sides.Sides}
use Rattle.border_queues.specs.OpenEdges.{Sender, open_edges, sender_by}
use Rattle.border_queues.specs.Sides.{AreSidesOf, HaveLengths, at, hints_along}
use Rattle.border_queues.specs.{TileWork.hints_at, TileWork.TileWork, TileWork.received}
use Rattle.border_queues.specs.TileWork.{work_of}
use Rattle.border_queues.proofs.{BySides.by_sides, SideTiles.along_above, SideTiles.along_below, SideTiles.along_left}
use Rattle.border_queues.proofs.SideTiles.{along_right, above_other, below_other, left_other, right_other}
use Rattle.border_queues.proofs.SideTiles.{above_not_below, above_not_left, above_not_right, below_not_right}
use Rattle.border_queues.proofs.SideTiles.{left_not_below, left_not_right}
use Rattle.tile_work.specs.declared.work_table.{along.BeyondSides.BeyondSides}
use Rattle.tile_work.specs.Along.{AreApart, AreBeyond, AreTelling, AreWithin, CanAllTell, SidePairs}
use Rattle.tile_work.specs.Along.{hints_beyond}
use Rattle.tile_work.specs.WorkTable.{AreReceived}
use Rattle.tile_work.proofs.Along.{can_tell, is_telling, told_elsewhere, told_there}

-- the pixels at a tile's sides, and those beyond
abbrev pub pairs_of : Tiles → ℕ → SidePairs
pairs_of tiles t =
    let rect : Rect = rect_of tiles t in
    record {
      above = record { inner = λ i. at (rect.x + i) rect.y; outer = λ i. at (rect.x + i) (rect.y - 1) };
      left = record { inner = λ i. at rect.x (rect.y + i); outer = λ i. at (rect.x - 1) (rect.y + i) };
      right = record {
        inner = λ i. at (rect.x + rect.w - 1) (rect.y + i);
        outer = λ i. at (rect.x + rect.w) (rect.y + i);
      };
      below = record {
        inner = λ i. at (rect.x + i) (rect.y + rect.h - 1);
        outer = λ i. at (rect.x + i) (rect.y + rect.h);
      };
    }

less : (a b : ℕ) → IsTrue (nat_lt a b) → a < b
less a b below = ltb-true a b below

-- of four lists all are empty but one
only_first : (a b c d : List Hint) → b ≡ [] → c ≡ [] → d ≡ [] → a ++ b ++ c ++ d ≡ a
only_first a b c d b_is c_is d_is =
    ap (λ (x : List Hint). a ++ x ++ c ++ d) b_is ∙ ap (λ (x : List Hint). a ++ [] ++ x ++ d) c_is
    ∙ ap (λ (x : List Hint). a ++ [] ++ [] ++ x) d_is ∙ append-nil (a ++ [] ++ []) ∙ append-nil (a ++ []) ∙ append-nil a

only_second : (a b c d : List Hint) → a ≡ [] → c ≡ [] → d ≡ [] → a ++ b ++ c ++ d ≡ b
only_second a b c d a_is c_is d_is =
    ap (λ (x : List Hint). x ++ b ++ c ++ d) a_is ∙ ap (λ (x : List Hint). b ++ x ++ d) c_is
    ∙ ap (λ (x : List Hint). b ++ [] ++ x) d_is ∙ append-nil (b ++ []) ∙ append-nil b

only_third : (a b c d : List Hint) → a ≡ [] → b ≡ [] → d ≡ [] → a ++ b ++ c ++ d ≡ c
only_third a b c d a_is b_is d_is =
    ap (λ (x : List Hint). x ++ b ++ c ++ d) a_is ∙ ap (λ (x : List Hint). x ++ c ++ d) b_is
    ∙ ap (λ (x : List Hint). c ++ x) d_is ∙ append-nil c

only_fourth : (a b c d : List Hint) → a ≡ [] → b ≡ [] → c ≡ [] → a ++ b ++ c ++ d ≡ d
only_fourth a b c d a_is b_is c_is =
    ap (λ (x : List Hint). x ++ b ++ c ++ d) a_is ∙ ap (λ (x : List Hint). x ++ c ++ d) b_is
    ∙ ap (λ (x : List Hint). x ++ d) c_is

-- a tile is the one beyond a side where the image goes on, or it is not
is_there : (goes_on : Bool) (t u : ℕ) → (IsTrue goes_on × (t ≡ u)) ⊎ (IsTrue goes_on → t ≡ u → ⊥)
is_there true t u = elim (cases_eq t u) [ inl same ↦ inl (refl, same) | inr other ↦ inr (λ goes_on same. other same) ]
is_there false t u = inr (λ goes_on same. absurd cc)

-- the tiles beyond the sides are of the tiling
pub all_within : {tiles : Tiles} {rect : Rect} {sides : Sides} {beyond : BeyondSides}
    → AreBeyond tiles rect sides beyond → AreWithin (count_of tiles) beyond
all_within leads = record {
  above = leads.above.within;
  left = leads.left.within;
  right = leads.right.within;
  below = leads.below.within;
}

module _ (tiles : Tiles) (from : ℕ) (sides : Sides) (beyond : BeyondSides) (tiled : IsTiled tiles)
    (within : from < count_of tiles) (leads : AreBeyond tiles (rect_of tiles from) sides beyond) where
  pub all_can_tell : HaveLengths tiles (rect_of tiles from) sides → CanAllTell sides beyond
  all_can_tell lengths =
      let fits = tiles_lie_inside tiles from tiled within in
      let wide = tiled.size.width_within in
      let high = tiled.size.height_within in
      let columns = fits.columns in
      let rows = fits.rows in
      record {
        above = can_tell leads.above (λ goes_on. lengths.above (less _ _ goes_on)) (omega (arith, wide, columns));
        left = can_tell leads.left (λ goes_on. lengths.left (less _ _ goes_on)) (omega (arith, high, rows));
        right = can_tell leads.right (λ goes_on. lengths.right (less _ _ goes_on)) (omega (arith, high, rows));
        below = can_tell leads.below (λ goes_on. lengths.below (less _ _ goes_on)) (omega (arith, wide, columns));
      }

  pub all_apart : AreApart beyond
  all_apart = record {
    above_left = λ one other same.
        let above = (leads.above.some one).0 in
        let left = (leads.left.some other).0 in
        above_not_left tiles from tiled within (less _ _ above) (less _ _ left)
        (sym (leads.above.tile_is above) ∙ same ∙ leads.left.tile_is left);
    above_right = λ one other same.
        let above = (leads.above.some one).0 in
        let right = (leads.right.some other).0 in
        above_not_right tiles from tiled within (less _ _ above) (less _ _ right)
        (sym (leads.above.tile_is above) ∙ same ∙ leads.right.tile_is right);
    above_below = λ one other same.
        let above = (leads.above.some one).0 in
        let below = (leads.below.some other).0 in
        above_not_below tiles from tiled within (less _ _ above) (less _ _ below)
        (sym (leads.above.tile_is above) ∙ same ∙ leads.below.tile_is below);
    left_right = λ one other same.
        let left = (leads.left.some one).0 in
        let right = (leads.right.some other).0 in
        left_not_right tiles from tiled within (less _ _ left) (less _ _ right)
        (sym (leads.left.tile_is left) ∙ same ∙ leads.right.tile_is right);
    left_below = λ one other same.
        let left = (leads.left.some one).0 in
        let below = (leads.below.some other).0 in
        left_not_below tiles from tiled within (less _ _ left) (less _ _ below)
        (sym (leads.left.tile_is left) ∙ same ∙ leads.below.tile_is below);
    right_below = λ one other same.
        let right = (leads.right.some one).0 in
        let below = (leads.below.some other).0 in
        below_not_right tiles from tiled within (less _ _ below) (less _ _ right)
        (sym (leads.below.tile_is below) ∙ sym same ∙ leads.right.tile_is right);
  }

  module _ (image mask : Pixel → ℕ) (generation : ℕ)
      (are_sides : AreSidesOf tiles (rect_of tiles from) image mask sides) where
    abbrev sender : Sender
    sender = sender_by tiles Four mask image from generation

    pub are_telling : AreTelling (sender_by tiles Four mask image from generation) from generation sides beyond
        (pairs_of tiles from)
    are_telling = record {
      above =
          is_telling leads.above sender (pairs_of tiles from).above.inner (pairs_of tiles from).above.outer
          (λ goes_on. are_sides.above (less _ _ goes_on))
          (λ goes_on i place. along_above tiles from i tiled within (less _ _ goes_on) place) refl generation refl
          (λ i. refl) (λ goes_on. above_other tiles from tiled within (less _ _ goes_on));
      left =
          is_telling leads.left sender (pairs_of tiles from).left.inner (pairs_of tiles from).left.outer
          (λ goes_on. are_sides.left (less _ _ goes_on))
          (λ goes_on i place. along_left tiles from i tiled within (less _ _ goes_on) place) refl generation refl
          (λ i. refl) (λ goes_on. left_other tiles from tiled within (less _ _ goes_on));
      right =
          is_telling leads.right sender (pairs_of tiles from).right.inner (pairs_of tiles from).right.outer
          (λ goes_on. are_sides.right (less _ _ goes_on))
          (λ goes_on i place. along_right tiles from i tiled within (less _ _ goes_on) place) refl generation refl
          (λ i. refl) (λ goes_on. right_other tiles from tiled within (less _ _ goes_on));
      below =
          is_telling leads.below sender (pairs_of tiles from).below.inner (pairs_of tiles from).below.outer
          (λ goes_on. are_sides.below (less _ _ goes_on))
          (λ goes_on i place. along_below tiles from i tiled within (less _ _ goes_on) place) refl generation refl
          (λ i. refl) (λ goes_on. below_other tiles from tiled within (less _ _ goes_on));
    }

    -- the hints along each side
    abbrev above_told : List Hint
    above_told =
        hints_along sender beyond.above.count (pairs_of tiles from).above.inner (pairs_of tiles from).above.outer

    abbrev left_told : List Hint
    left_told = hints_along sender beyond.left.count (pairs_of tiles from).left.inner (pairs_of tiles from).left.outer

    abbrev right_told : List Hint
    right_told =
        hints_along sender beyond.right.count (pairs_of tiles from).right.inner (pairs_of tiles from).right.outer

    abbrev below_told : List Hint
    below_told =
        hints_along sender beyond.below.count (pairs_of tiles from).below.inner (pairs_of tiles from).below.outer

    -- a side where the image goes on tells the tile beyond it all that it is to be told
    above_all : IsTrue (nat_lt 0 (rect_of tiles from).y) → (t : ℕ)
        → t ≡ tile_of tiles (at (rect_of tiles from).x ((rect_of tiles from).y - 1))
        → hints_at tiles t above_told ≡ hints_at tiles t (open_edges sender)
    above_all goes_on t is =
        subst (λ u. hints_at tiles u above_told ≡ hints_at tiles u (open_edges sender)) (sym is)
        (told_there leads.above sender (pairs_of tiles from).above.inner (pairs_of tiles from).above.outer
        (λ goes_on. are_sides.above (less _ _ goes_on))
        (λ goes_on i place. along_above tiles from i tiled within (less _ _ goes_on) place) refl goes_on
        ∙ sym ((by_sides sender tiled within refl).above (less _ _ goes_on)))

    left_all : IsTrue (nat_lt 0 (rect_of tiles from).x) → (t : ℕ)
        → t ≡ tile_of tiles (at ((rect_of tiles from).x - 1) (rect_of tiles from).y)
        → hints_at tiles t left_told ≡ hints_at tiles t (open_edges sender)
    left_all goes_on t is =
        subst (λ u. hints_at tiles u left_told ≡ hints_at tiles u (open_edges sender)) (sym is)
        (told_there leads.left sender (pairs_of tiles from).left.inner (pairs_of tiles from).left.outer
        (λ goes_on. are_sides.left (less _ _ goes_on))
        (λ goes_on i place. along_left tiles from i tiled within (less _ _ goes_on) place) refl goes_on
        ∙ sym ((by_sides sender tiled within refl).left (less _ _ goes_on)))

    right_all : IsTrue (nat_lt ((rect_of tiles from).x + (rect_of tiles from).w) tiles.width) → (t : ℕ)
        → t ≡ tile_of tiles (at ((rect_of tiles from).x + (rect_of tiles from).w) (rect_of tiles from).y)
        → hints_at tiles t right_told ≡ hints_at tiles t (open_edges sender)
    right_all goes_on t is =
        subst (λ u. hints_at tiles u right_told ≡ hints_at tiles u (open_edges sender)) (sym is)
        (told_there leads.right sender (pairs_of tiles from).right.inner (pairs_of tiles from).right.outer
        (λ goes_on. are_sides.right (less _ _ goes_on))
        (λ goes_on i place. along_right tiles from i tiled within (less _ _ goes_on) place) refl goes_on
        ∙ sym ((by_sides sender tiled within refl).right (less _ _ goes_on)))

    below_all : IsTrue (nat_lt ((rect_of tiles from).y + (rect_of tiles from).h) tiles.height) → (t : ℕ)
        → t ≡ tile_of tiles (at (rect_of tiles from).x ((rect_of tiles from).y + (rect_of tiles from).h))
        → hints_at tiles t below_told ≡ hints_at tiles t (open_edges sender)
    below_all goes_on t is =
        subst (λ u. hints_at tiles u below_told ≡ hints_at tiles u (open_edges sender)) (sym is)
        (told_there leads.below sender (pairs_of tiles from).below.inner (pairs_of tiles from).below.outer
        (λ goes_on. are_sides.below (less _ _ goes_on))
        (λ goes_on i place. along_below tiles from i tiled within (less _ _ goes_on) place) refl goes_on
        ∙ sym ((by_sides sender tiled within refl).below (less _ _ goes_on)))

    -- and no other tile anything
    above_none : (t : ℕ)
        → (IsTrue (nat_lt 0 (rect_of tiles from).y)
        → t ≡ tile_of tiles (at (rect_of tiles from).x ((rect_of tiles from).y - 1)) → ⊥)
        → hints_at tiles t above_told ≡ []
    above_none =
        told_elsewhere leads.above sender (pairs_of tiles from).above.inner (pairs_of tiles from).above.outer
        (λ goes_on. are_sides.above (less _ _ goes_on))
        (λ goes_on i place. along_above tiles from i tiled within (less _ _ goes_on) place) refl

    left_none : (t : ℕ)
        → (IsTrue (nat_lt 0 (rect_of tiles from).x)
        → t ≡ tile_of tiles (at ((rect_of tiles from).x - 1) (rect_of tiles from).y) → ⊥)
        → hints_at tiles t left_told ≡ []
    left_none =
        told_elsewhere leads.left sender (pairs_of tiles from).left.inner (pairs_of tiles from).left.outer
        (λ goes_on. are_sides.left (less _ _ goes_on))
        (λ goes_on i place. along_left tiles from i tiled within (less _ _ goes_on) place) refl

    right_none : (t : ℕ)
        → (IsTrue (nat_lt ((rect_of tiles from).x + (rect_of tiles from).w) tiles.width)
        → t ≡ tile_of tiles (at ((rect_of tiles from).x + (rect_of tiles from).w) (rect_of tiles from).y) → ⊥)
        → hints_at tiles t right_told ≡ []
    right_none =
        told_elsewhere leads.right sender (pairs_of tiles from).right.inner (pairs_of tiles from).right.outer
        (λ goes_on. are_sides.right (less _ _ goes_on))
        (λ goes_on i place. along_right tiles from i tiled within (less _ _ goes_on) place) refl

    below_none : (t : ℕ)
        → (IsTrue (nat_lt ((rect_of tiles from).y + (rect_of tiles from).h) tiles.height)
        → t ≡ tile_of tiles (at (rect_of tiles from).x ((rect_of tiles from).y + (rect_of tiles from).h)) → ⊥)
        → hints_at tiles t below_told ≡ []
    below_none =
        told_elsewhere leads.below sender (pairs_of tiles from).below.inner (pairs_of tiles from).below.outer
        (λ goes_on. are_sides.below (less _ _ goes_on))
        (λ goes_on i place. along_below tiles from i tiled within (less _ _ goes_on) place) refl

    yes_when : (a b : ℕ) → a < b → IsTrue (nat_lt a b)
    yes_when a b lower = lt-ltb a b lower

    in_parts : (t : ℕ)
        → hints_at tiles t (hints_beyond sender beyond (pairs_of tiles from))
        ≡ hints_at tiles t above_told ++ hints_at tiles t left_told ++ hints_at tiles t right_told
        ++ hints_at tiles t below_told
    in_parts t =
        let goes_to : Hint → Bool = λ hint. tile_of tiles hint.to_pixel == t in
        filter-append goes_to (above_told ++ left_told ++ right_told) below_told
        ∙ ap (λ (hs : List Hint). hs ++ hints_at tiles t below_told)
        (filter-append goes_to (above_told ++ left_told) right_told
        ∙ ap (λ (hs : List Hint). hs ++ hints_at tiles t right_told) (filter-append goes_to above_told left_told))

    -- of the tiles that are neither above nor left
    by_others : (t : ℕ)
        → (IsTrue (nat_lt 0 (rect_of tiles from).y)
        → t ≡ tile_of tiles (at (rect_of tiles from).x ((rect_of tiles from).y - 1)) → ⊥)
        → (IsTrue (nat_lt 0 (rect_of tiles from).x)
        → t ≡ tile_of tiles (at ((rect_of tiles from).x - 1) (rect_of tiles from).y) → ⊥)
        → hints_at tiles t above_told ++ hints_at tiles t left_told ++ hints_at tiles t right_told
        ++ hints_at tiles t below_told
        ≡ hints_at tiles t (open_edges sender)
    by_others t not_above not_left =
        elim (is_there (nat_lt ((rect_of tiles from).x + (rect_of tiles from).w) tiles.width) t
        (tile_of tiles (at ((rect_of tiles from).x + (rect_of tiles from).w) (rect_of tiles from).y))) [
          | inl (right, is) ↦
              only_third _ _ _ _ (above_none t not_above) (left_none t not_left)
              (below_none t (λ below same.
              below_not_right tiles from tiled within (less _ _ below) (less _ _ right) (sym same ∙ is)))
              ∙ right_all right t is
          | inr not_right ↦
              elim (is_there (nat_lt ((rect_of tiles from).y + (rect_of tiles from).h) tiles.height) t
              (tile_of tiles (at (rect_of tiles from).x ((rect_of tiles from).y + (rect_of tiles from).h)))) [
                | inl (below, is) ↦
                    only_fourth _ _ _ _ (above_none t not_above) (left_none t not_left) (right_none t not_right)
                    ∙ below_all below t is
                | inr not_below ↦
                    only_fourth _ _ _ _ (above_none t not_above) (left_none t not_left) (right_none t not_right)
                    ∙ below_none t not_below
                    ∙ sym ((by_sides sender tiled within refl).none t
                    (λ some. not_above (yes_when _ _ some)) (λ some. not_below (yes_when _ _ some))
                    (λ some. not_left (yes_when _ _ some)) (λ some. not_right (yes_when _ _ some)))
              ]
        ]

    -- each tile is told by the sides what it is to be told
    pub all_told : (t : ℕ)
        → hints_at tiles t (hints_beyond sender beyond (pairs_of tiles from)) ≡ hints_at tiles t (open_edges sender)
    all_told t =
        in_parts t
        ∙ elim (is_there (nat_lt 0 (rect_of tiles from).y) t
        (tile_of tiles (at (rect_of tiles from).x ((rect_of tiles from).y - 1)))) [
          | inl (above, is) ↦
              only_first _ _ _ _
              (left_none t (λ left same.
              above_not_left tiles from tiled within (less _ _ above) (less _ _ left) (sym is ∙ same)))
              (right_none t (λ right same.
              above_not_right tiles from tiled within (less _ _ above) (less _ _ right) (sym is ∙ same)))
              (below_none t (λ below same.
              above_not_below tiles from tiled within (less _ _ above) (less _ _ below) (sym is ∙ same)))
              ∙ above_all above t is
          | inr not_above ↦
              elim (is_there (nat_lt 0 (rect_of tiles from).x) t
              (tile_of tiles (at ((rect_of tiles from).x - 1) (rect_of tiles from).y))) [
                | inl (left, is) ↦
                    only_second _ _ _ _ (above_none t not_above)
                    (right_none t (λ right same.
                    left_not_right tiles from tiled within (less _ _ left) (less _ _ right) (sym is ∙ same)))
                    (below_none t (λ below same.
                    left_not_below tiles from tiled within (less _ _ left) (less _ _ below) (sym is ∙ same)))
                    ∙ left_all left t is
                | inr not_left ↦ by_others t not_above not_left
              ]
        ]

    -- so what came by the sides is what was to come
    pub received_all : (old new : List TileWork)
        → AreReceived tiles (hints_beyond sender beyond (pairs_of tiles from)) old new
        → AreReceived tiles (open_edges (sender_by tiles Four mask image from generation)) old new
    received_all old new came = record {
      count = came.count;
      each = λ t place. came.each t place ∙ ap (received (work_of old t)) (all_told t);
    }
