-- A state above another that has as many strokes and as many tombstones.
use Rattle.std.proofs.Common.{◌≡◌, ℕ, List, map, length, sym, subst, Contains}
use Rattle.std.proofs.lemmas.List.{map-id}
use Rattle.stroke_core.specs.Seed.{Seed}
use Rattle.stroke_lattice.specs.{Change.AreRising, State.State, State.IsBelow, Pieces.strokes_of, Pieces.tombstones_of}
use Rattle.stroke_lattice.proofs.RisingLists.{same_list}
use Rattle.stroke_lattice.proofs.{Items.strokes_walk, Items.tombstones_walk, Joining.decided}

-- the tombstones of a state rise, also where each is its own key
rising_tags : (s : State) → AreRising (map (λ (tag : ℕ). tag) (tombstones_of s))
rising_tags s = subst AreRising (sym (map-id (tombstones_of s))) (tombstones_walk s).rise

-- a state above another that has as many strokes and as many tombstones is that state
pub counted : (a b : State) → IsBelow a b → length (strokes_of a) ≡ length (strokes_of b)
    → length (tombstones_of a) ≡ length (tombstones_of b) → a ≡ b
counted a b below strokes tombstones =
    let from = strokes_walk a in
    let to = strokes_walk b in
    let from' = tombstones_walk a in
    let to' = tombstones_walk b in
    let entries : strokes_of a ≡ strokes_of b =
    same_list (λ (e : ℕ × Seed). e.0) (strokes_of a) (strokes_of b) from.rise to.rise
    (λ q has. (to.each q.0 q.1).1 (below.strokes q.0 q.1 ((from.each q.0 q.1).0 has))) strokes in
    let tags : tombstones_of a ≡ tombstones_of b =
    same_list (λ (tag : ℕ). tag) (tombstones_of a) (tombstones_of b) (rising_tags a) (rising_tags b)
    (λ q has. (to'.each q).1 (below.tombstones q ((from'.each q).0 has))) tombstones in
    decided a b
    (λ tag seed. (
      below.strokes tag seed,
      λ has. (from.each tag seed).0
          (subst (λ (l : List (ℕ × Seed)). Contains l (tag, seed)) (sym entries) ((to.each tag seed).1 has)),
    ))
    (λ tag. (
      below.tombstones tag,
      λ has. (from'.each tag).0 (subst (λ (l : List ℕ). Contains l tag) (sym tags) ((to'.each tag).1 has)),
    ))
