-- What the tactics leave open of `raise_row`.
use Rattle.std.proofs.Common.{◌≡◌, ℕ, ◌+◌, ◌<◌, ◌≤◌, ◌||◌, ◌↔◌, Bool, true, false, IsTrue, List, length, get_or, set}
use Rattle.std.proofs.Common.{max, arith, sym, ap, subst, refl, ◌∙◌, inl, inr, get_or-set_same, get_or-set_other}
use Rattle.std.proofs.lemmas.Bool.{cases_eq, cases_lt, ltb-true, lt-ltb}
use Rattle.tile_work.specs.Renewing.{SomeIsLess}
use Rattle.tile_work.proofs.renewing.cells.raise_row.Goals as goal
use lib.Dec.{ltb}

-- one more value is raised, and the later ones are as they were
module _ (old marker row : List ℕ) (i value : ℕ) (within : i < length row)
    (is : value ≡ max (get_or row i 0) (get_or marker i 0))
    (kept : (k : ℕ) → i ≤ k → get_or row k 0 ≡ get_or old k 0) where
  raised_more : ((k : ℕ) → k < i → get_or row k 0 ≡ max (get_or old k 0) (get_or marker k 0)) → (k : ℕ) → k < i + 1
      → get_or (set row i value) k 0 ≡ max (get_or old k 0) (get_or marker k 0)
  raised_more raised k below = elim (cases_eq k i) [
    | inl same ↦
        subst (λ j. get_or (set row i value) j 0 ≡ max (get_or old j 0) (get_or marker j 0)) (sym same)
        (get_or-set_same row i value 0 within ∙ is ∙ ap (λ v. max v (get_or marker i 0)) (kept i (omega arith)))
    | inr other ↦ get_or-set_other row i k value 0 other ∙ raised k (omega arith)
  ]

  kept_more : (k : ℕ) → i + 1 ≤ k → get_or (set row i value) k 0 ≡ get_or old k 0
  kept_more k above = get_or-set_other row i k value 0 (λ same. omega arith) ∙ kept k (omega arith)

-- whether one of the values up to this one is less than the marker's
rose_more : (rose : Bool) (old marker : List ℕ) (i value : ℕ) → value ≡ get_or old i 0
    → IsTrue rose ↔ SomeIsLess 0 i old marker
    → IsTrue (rose || ltb value (get_or marker i 0)) ↔ SomeIsLess 0 (i + 1) old marker
rose_more true old marker i value is so_far =
    (λ yes. let (k, above, below, less) = so_far.0 yes in (k, above, omega (arith, below), less), λ some. refl)
rose_more false old marker i value is so_far = (
  λ yes. (i, omega arith, omega arith, omega (arith, ltb-true value (get_or marker i 0) yes, is)),
  λ (k, above, below, less). elim (cases_lt k i) [
    | inl before ↦ let no : false ≡ true = so_far.1 (k, above, before, less) in cc
    | inr last ↦
        let same : k ≡ i = omega arith in
        let here : get_or old i 0 < get_or marker i 0 = subst (λ j. get_or old j 0 < get_or marker j 0) same less in
        lt-ltb value (get_or marker i 0) (omega (arith, here, is))
  ],
)

pub loop-i-preserved : goal.loop-i-preserved
loop-i-preserved c =
    let (raised, kept, rose) = c.loop-i.invariant in
    let row = c.loop-i.row in
    let i = c.loop-i.i in
    let within : i < length row = omega (arith, c.loop-i-test.true, c.loop-i.auto.row) in (
      raised_more c.args.row.now c.args.marker.now row i c.max.result within c.max.ensures kept raised,
      kept_more c.args.row.now c.args.marker.now row i c.max.result within c.max.ensures kept,
      rose_more c.loop-i.rose c.args.row.now c.args.marker.now i (get_or row i 0) (kept i (omega arith)) rose,
    )

pub returns-clause-values : goal.returns-clause-values
returns-clause-values c = λ k within.
    c.loop-i.invariant.0 k (omega (arith, within, c.loop-i-test.false, c.loop-i.auto.row))

pub returns-clause-rose : goal.returns-clause-rose
returns-clause-rose c =
    let end : c.loop-i.i ≡ length c.args.row.now = omega (arith, c.loop-i-test.false, c.loop-i.auto.i-end) in
    subst (λ n. IsTrue c.loop-i.rose ↔ SomeIsLess 0 n c.args.row.now c.args.marker.now) end c.loop-i.invariant.2
