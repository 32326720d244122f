use Rattle.std.proofs.Common.{◌≡◌, ℕ, [], ◌∷◌, ◌++◌, max, min, arith, get_or, set, subst, sym, IsTrue, MatchBool}
use Rattle.std.proofs.Common.{nat_lt, true}
use Rattle.raster_sweeps.specs.Spans.{AreSpread}
use Rattle.raster_sweeps.proofs.Raised.{spread_if}
use Rattle.raster_sweeps.proofs.raising.raise_on.Goals as goal

pub returns : goal.returns
returns c =
    let mask = c.args.mask.now in
    let cells = c.args.cells.now in
    let cell = c.args.cell in
    let old = c.args.trail.now in
    let new = c.push_if.new.self in
    let now : ℕ = get_or cells cell 0 in
    let raised : c.min-raised.result ≡ min c.args.level (get_or mask cell 0) = c.min-raised.ensures in
    let joined : MatchBool (nat_lt now c.min-raised.result) (new.cells ≡ old.cells ++ cell ∷ []) (new ≡ old) =
    subst (λ k. MatchBool (nat_lt now c.min-raised.result) (new.cells ≡ old.cells ++ k ∷ []) (new ≡ old))
    c.requires.place c.push_if.ensures.joined in
    let value : c.max.result ≡ max now (min c.args.level (get_or mask cell 0)) =
    omega (arith, c.max.ensures, raised) in
    record {
      spread =
          subst (λ x. AreSpread (λ k. k ≡ cell) mask c.args.level cells (set cells cell x) old.cells new.cells
          (IsTrue true)) (sym value)
          (spread_if mask c.args.level cells cell old new (omega (arith, c.ranges.level.fits)) c.requires.within
          (subst (λ v. MatchBool (nat_lt now v) (new.cells ≡ old.cells ++ cell ∷ []) (new ≡ old)) raised joined));
      width = c.push_if.ensures.kept.0;
      room = c.push_if.ensures.places;
    }
