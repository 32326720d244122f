-- A set that gains the tiles of another one, so many further on.
use Rattle.std.proofs.Common.{◌≡◌, ℕ, ◌+◌, ◌<◌, inl, inr, Bool, true, List, length, set, refl, ◌∙◌, arith}
use Rattle.std.proofs.lemmas.Bool.{cases_lt}
use Rattle.std.proofs.lemmas.List.{length-set}
use Rattle.tile_work.specs.TileSet.{Has, HasNoneFrom, HasGained, IsFirstFrom}
use Rattle.tile_work.proofs.{TileSets.put_has, TileSetUnions.HasGained-like}

-- the tile is one of the other set before this one, so many further on
abbrev pub IsMovedBefore : ℕ → List Bool → ℕ → ℕ → Type 0
IsMovedBefore first other next t = (u : ℕ) × (t ≡ first + u) × (u < next) × Has other u

pub none_moved : (old : List Bool) (first : ℕ) (other : List Bool) → HasGained old (IsMovedBefore first other 0) old
none_moved old first other = record {
  count = refl;
  each = λ t. (
    λ has. inl has,
    λ has. elim has [ inl was ↦ was | inr (u, same, before, there) ↦ absurd (omega (arith, before)) ],
  );
}

-- one more is put in
pub one_more_moved : (old now : List Bool) (first : ℕ) (other : List Bool) (next tile : ℕ)
    → first + tile < length now → IsFirstFrom other next tile → HasGained old (IsMovedBefore first other next) now
    → HasGained old (IsMovedBefore first other (tile + 1)) (set now (first + tile) true)
one_more_moved old now first other next tile within found gained = record {
  count = length-set now (first + tile) true ∙ gained.count;
  each = λ t. (
    λ has. elim ((put_has now (first + tile) within t).0 has) [
      | inr same ↦ inr (tile, same, omega arith, found.has)
      | inl before ↦ elim ((gained.each t).0 before) [
        | inl was ↦ inl was
        | inr (u, same, earlier, there) ↦ inr (u, same, omega (arith, earlier, found.from), there)
      ]
    ],
    λ has. (put_has now (first + tile) within t).1 (elim has [
      | inl was ↦ inl ((gained.each t).1 (inl was))
      | inr (u, same, earlier, there) ↦ elim (cases_lt u next) [
        | inl before ↦ inl ((gained.each t).1 (inr (u, same, before, there)))
        | inr from ↦
            let last = found.first u from there in
            inr (omega (arith, same, earlier, last))
      ]
    ]),
  );
}

-- all were put in, where none is left
pub all_moved : (old now : List Bool) (first : ℕ) (other : List Bool) (next : ℕ) → HasNoneFrom other next
    → HasGained old (IsMovedBefore first other next) now
    → HasGained old (λ t. (u : ℕ) × (t ≡ first + u) × Has other u) now
all_moved old now first other next none gained =
    HasGained-like old now (IsMovedBefore first other next) (λ t. (u : ℕ) × (t ≡ first + u) × Has other u)
    (λ t. (
      λ (u, same, before, there). (u, same, there),
      λ (u, same, there). elim (cases_lt u next) [
        | inl before ↦ (u, same, before, there)
        | inr from ↦ absurd (none u from there)
      ],
    )) gained
