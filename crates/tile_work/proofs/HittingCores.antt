-- The marked tiles are those that are hit.
use Rattle.std.proofs.Common.{◌≡◌, ℕ, inl, inr, Bool, true, false, List, ◌∷◌, sym, ◌∙◌, subst, replicate, ◌↔◌, []}
use Rattle.std.proofs.lemmas.Bool.{cases_Bool}
use Rattle.grid_core.specs.{declared.conn.Conn.Conn, declared.pixel.Pixel.Pixel, Raster.Raster, Tiles.Tiles}
use Rattle.stroke_lattice.specs.State.{State, IsJoin}
use Rattle.stroke_lattice.proofs.Joins.{join_is_union}
use Rattle.core_rules.specs.Hits.{HoldsOne, LosesStroke, AreLinked, LeadFrom, IsReached}
use Rattle.tile_work.specs.{TileSet.Has, Marks.AreHits, Marks.LosesStrokeTo, Marks.Adds}
use Rattle.tile_work.proofs.TileSets.{replicate_has_none}
use Rattle.std.specs.FinSet as set

-- a stroke dies where the delta has a tombstone for it
loses_is_lost : (state delta after : State) → IsJoin state delta after → (p : Pixel) → LosesStroke state after p
    → LosesStrokeTo state delta p
loses_is_lost state delta after join p loses =
    let union = join_is_union state delta after join in
    let tag = loses.tag in
    elim (cases_Bool (set.contains delta.tombstones tag)) [
      | inl buried ↦ (tag, buried, (loses.seed, loses.was, loses.covered))
      | inr free ↦ absurd (loses.is_dead (
        loses.seed,
        (
          join.first.strokes tag loses.seed loses.was.0,
          λ dead.
              elim (union.tombstones tag dead) [
                | inl before ↦ loses.was.1 before
                | inr given ↦ let gone : true ≡ false = sym given ∙ free in absurd cc
              ],
        ),
      ))
    ]

lost_is_losing : (state delta after : State) → IsJoin state delta after → (p : Pixel) → LosesStrokeTo state delta p
    → LosesStroke state after p
lost_is_losing state delta after join p (tag, buried, (seed, was, covered)) = record {
  tag = tag;
  seed = seed;
  was = was;
  is_dead = λ live. live.1.1 (join.second.tombstones tag buried);
  covered = covered;
}

-- lists that lead from some tiles lead from others that those are
lead_from_same : (P R : ℕ → Type 0) (linked : ℕ → ℕ → Type 0) → ((t : ℕ) → P t → R t) → (before : List ℕ) (t : ℕ)
    → LeadFrom P linked before t → LeadFrom R linked before t
lead_from_same P R linked same [] t p = same t p
lead_from_same P R linked same (u ∷ before) t (lead, link) = (lead_from_same P R linked same before u lead, link)

-- what is reached from the marks of the tiles that lose a stroke, where none was marked before, is hit
pub reached_is_hit : (tiles : Tiles) (image : Raster) (conn : Conn) (state delta : State) (n : ℕ)
    (m q m1 q1 m2 : List Bool) → m ≡ replicate n false → Adds (HoldsOne tiles (LosesStrokeTo state delta)) m q m1 q1
    → ((t : ℕ) → Has m2 t ↔ IsReached (Has m1) (AreLinked tiles image conn) t)
    → AreHits tiles image conn state delta m2
reached_is_hit tiles image conn state delta n m q m1 q1 m2 empty adds reached after join t within =
    let losing = HoldsOne tiles (LosesStroke state after) in
    let linked = AreLinked tiles image conn in (
      λ has. let to = (reached t).0 has in (
        to.0,
        lead_from_same (Has m1) losing linked (λ u marked. elim ((adds.marked u).0 marked) [
          | inl before ↦ absurd (replicate_has_none n u (subst (λ xs. Has xs u) empty before))
          | inr (p, in_tile, lost) ↦ (p, in_tile, lost_is_losing state delta after join p lost)
        ]) to.0 t to.1,
      ),
      λ to. (reached t).1 (
        to.0,
        lead_from_same losing (Has m1) linked (λ u (p, in_tile, loses).
            (adds.marked u).1 (inr (p, in_tile, loses_is_lost state delta after join p loses))) to.0 t to.1,
      ),
    )
