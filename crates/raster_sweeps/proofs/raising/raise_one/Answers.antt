use Rattle.std.proofs.Common.{◌≡◌, ◌⊎◌, min, get_or, set, arith, inl, inr, refl, subst, sym, ◌∙◌, IsTrue, MatchBool}
use Rattle.std.proofs.Common.{true}
use Rattle.std.proofs.lemmas.Bool.{cases_Bool, false≢true}
use Rattle.raster_sweeps.specs.Spans.{AreSpread, IsCell}
use Rattle.row_scans.specs.Waiting.{AreOneMore}
use Rattle.raster_sweeps.proofs.Raised.{spread_none, spread_one, spread_stays}
use Rattle.raster_sweeps.proofs.raising.raise_one.Goals as goal

pub bounds-mask-at : goal.bounds-mask-at
bounds-mask-at c =
    omega (
      arith,
      c.requires.within c.in-Some.place.cell (subst (λ one. IsCell one c.in-Some.place.cell) (sym c.in-Some.is) refl),
      c.requires.same,
    )

pub bounds-cells-at : goal.bounds-cells-at
bounds-cells-at c =
    c.requires.within c.in-Some.place.cell
    (subst (λ one. IsCell one c.in-Some.place.cell) (sym c.in-Some.is) refl)

pub returns-then-cells-at : goal.returns-then-cells-at
returns-then-cells-at c =
    let mask = c.args.mask.now in
    let level = c.args.level in
    let cells = c.args.cells.now in
    let cell = c.in-Some.place.cell in
    let old = c.args.waiting.now in
    let new = c.push.new.self in
    let here : IsCell c.args.one cell = subst (λ one. IsCell one cell) (sym c.in-Some.is) refl in
    let v : c.min-raised.result ≡ min level (get_or mask cell 0) = c.min-raised.ensures in
    let joined : AreOneMore cell old new ⊎ ((IsTrue c.push.result → ⊥) × (new ≡ old)) =
    elim (cases_Bool c.push.result) [
      | inl room ↦ inl (subst (λ b. MatchBool b (AreOneMore cell old new) (new ≡ old)) room c.push.ensures.added)
      | inr full ↦
          inr (
            λ room. false≢true (sym full ∙ room),
            subst (λ b. MatchBool b (AreOneMore cell old new) (new ≡ old)) full c.push.ensures.added,
          )
    ] in
    subst (λ one. AreSpread (IsCell one) mask level cells (set cells cell c.min-raised.result) old new
    (IsTrue c.push.result)) (sym c.in-Some.is)
    (subst (λ x. AreSpread (λ k. k ≡ cell) mask level cells (set cells cell x) old new (IsTrue c.push.result)) (sym v)
    (spread_one mask level cells cell old new (IsTrue c.push.result) (omega (arith, c.ranges.level.fits))
    (c.requires.within cell here) (omega (arith, c.if-cells-at.true, v)) joined))

pub returns-else-cells-at : goal.returns-else-cells-at
returns-else-cells-at c =
    subst (λ one. AreSpread (IsCell one) c.args.mask.now c.args.level c.args.cells.now c.args.cells.now
    c.args.waiting.now c.args.waiting.now (IsTrue true)) (sym c.in-Some.is)
    (spread_stays refl (omega (arith, c.if-cells-at.false, c.min-raised.ensures)))

pub returns-in_default : goal.returns-in_default
returns-in_default c = spread_none refl (λ k here. subst (λ one. IsCell one k) c.in_default.is here)
