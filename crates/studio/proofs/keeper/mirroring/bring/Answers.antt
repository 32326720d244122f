use Rattle.std.proofs.Common.{arith, false, refl, true, Bool, IsTrue, ◌↔◌, ◌≡◌}
use Rattle.grid_core.specs.Raster.{IsBelow, Raster}
use Rattle.studio.proofs.keeper.mirroring.bring.Goals as goal
use Rattle.studio.proofs.keeper.mirroring.bring.Goals.{in-Err, in-Ok}

-- a marker that was found not to be below
falls : (old marker : Raster) (is_below : Bool) → (IsTrue is_below ↔ IsBelow old marker) → is_below ≡ false
    → IsBelow old marker → ⊥
falls old marker is_below is above below =
    let true_is : is_below ≡ true = is.1 below in
    absurd cc

pub raise_planted-requires-clause-keeper : goal.raise_planted-requires-clause-keeper
raise_planted-requires-clause-keeper c = c.requires.seat

pub raise_planted-requires-clause-above : goal.raise_planted-requires-clause-above
raise_planted-requires-clause-above c = c.is_below.ensures.0 c.if-is_below.true

pub raise_planted-requires-clause-below : goal.raise_planted-requires-clause-below
raise_planted-requires-clause-below c = c.requires.below

pub returns-then-is_below-clause-seat : goal.returns-then-is_below-clause-seat
returns-then-is_below-clause-seat c = c.raise_planted.ensures.keeper

pub returns-then-is_below-clause-brought : goal.returns-then-is_below-clause-brought
returns-then-is_below-clause-brought c =
    let rises = c.is_below.ensures.0 c.if-is_below.true in
    record {
      marker_is = c.raise_planted.ensures.marker;
      advanced_is = ((λ advanced. absurd cc), λ none. absurd (none rises));
      generation = omega (arith, c.raise_planted.ensures.generation);
      room = λ advanced. absurd cc;
    }

pub advance-requires-clause-keeper : goal.advance-requires-clause-keeper
advance-requires-clause-keeper c = c.requires.seat

pub advance-requires-clause-below : goal.advance-requires-clause-below
advance-requires-clause-below c = c.requires.below

pub returns-clause-seat : goal.returns-clause-seat
returns-clause-seat c = c.advance.ensures.keeper

pub returns-clause-brought : goal.returns-clause-brought
returns-clause-brought c =
    elim c.match-advance.branch [
      | in-Ok w ↦ let advanced = w.in-Ok.ensures.advanced in
          rw w.result-is (record {
            marker_is = advanced.marker_is;
            advanced_is = (
              (λ yes. falls _ _ _ c.is_below.ensures c.if-is_below.false),
              λ other. refl,
            );
            generation = omega (arith, advanced.generation_is);
            room = λ yes. w.in-Ok.ensures.spent;
          })
      | in-Err w ↦ rw w.result-is tt
    ]

pub returns-clause-refused : goal.returns-clause-refused
returns-clause-refused c =
    elim c.match-advance.branch [
      | in-Ok w ↦ rw w.result-is tt
      | in-Err w ↦ rw w.result-is w.in-Err.ensures.unchanged
    ]

pub returns-clause-spent : goal.returns-clause-spent
returns-clause-spent c =
    elim c.match-advance.branch [
      | in-Ok w ↦ rw w.result-is tt
      | in-Err w ↦ rw w.result-is (
        refl,
        w.in-Err.ensures.spent,
        falls _ _ _ c.is_below.ensures c.if-is_below.false,
      )
    ]

pub returns-then-is_below-clause-planted : goal.returns-then-is_below-clause-planted
returns-then-is_below-clause-planted c = λ none. c.raise_planted.ensures.planted

pub returns-clause-planted : goal.returns-clause-planted
returns-clause-planted c =
    elim c.match-advance.branch [
      | in-Ok w ↦ rw w.result-is (λ none. absurd (none refl))
      | in-Err w ↦ rw w.result-is tt
    ]
