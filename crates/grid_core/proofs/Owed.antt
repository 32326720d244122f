-- What is owed to an image is one number, and each lawful image has it.
use Rattle.std.proofs.Common.{◌≡◌, ℕ, ◌-◌, ◌<◌, ◌≤◌, refl, sym, ◌∙◌, subst, arith, inl, inr}
use Rattle.std.proofs.lemmas.Bool.{cases_lt}
use Rattle.grid_core.specs.{declared.pixel.Pixel.Pixel, Path.Domain, Path.Inside, Path.Reaches}
use Rattle.grid_core.specs.{Reconstruction.IsReconstruction, Reconstruction.IsLawful, Owed.sum_over, Owed.IsOwed}
use Rattle.grid_core.proofs.{Reach.reaches_rises, Images.one_reconstruction, Images.lies_between, Sums.sum_over-same}
use Rattle.grid_core.proofs.{Sums.sum_over-zero, Sums.sum_over-less, Growing.reconstruction_of}

pub one_owed : (d : Domain) (mask marker j : Pixel → ℕ) (n m : ℕ) → IsOwed d mask marker j n
    → IsOwed d mask marker j m → n ≡ m
one_owed d mask marker j n m first second =
    let same : (p : Pixel) → Inside d p → first.reconstruction p - j p ≡ second.reconstruction p - j p = λ p inside.
    let e =
    one_reconstruction d mask marker first.reconstruction second.reconstruction first.is_reconstruction
    second.is_reconstruction p inside in
    omega (arith, e) in
    first.is_sum
    ∙ sum_over-same d (λ p. first.reconstruction p - j p) (λ p. second.reconstruction p - j p) same
    ∙ sym second.is_sum

pub lawful_is_owed : (d : Domain) (mask marker j : Pixel → ℕ) → IsLawful d mask marker j
    → (n : ℕ) × IsOwed d mask marker j n
lawful_is_owed d mask marker j lawful =
    let goal = reconstruction_of d mask marker j lawful in
    (sum_over d (λ p. goal.0 p - j p), record { reconstruction = goal.0; is_reconstruction = goal.1; is_sum = refl })

-- nothing is owed to the reconstruction
pub reconstruction_is_owed_nothing : (d : Domain) (mask marker j : Pixel → ℕ) → IsReconstruction d mask marker j
    → IsOwed d mask marker j 0
reconstruction_is_owed_nothing d mask marker j recon = record {
  reconstruction = j;
  is_reconstruction = recon;
  is_sum = sym (sum_over-zero d (λ p. j p - j p) (λ p inside. omega arith));
}

-- a sum of 0 is one of zeros
none_in_no_sum : (d : Domain) (f : Pixel → ℕ) → sum_over d f ≡ 0 → (p : Pixel) → Inside d p → f p ≡ 0
none_in_no_sum d f none p inside = elim (cases_lt 0 (f p)) [
  | inl some ↦
      let less = sum_over-less d (λ q. 0) f p (λ q h. omega arith) inside some in
      absurd (omega (arith, less, none))
  | inr at_most ↦ omega (arith, at_most)
]

-- a lawful image to which nothing is owed is the reconstruction
pub owed_nothing_is_reconstruction : (d : Domain) (mask marker j : Pixel → ℕ) → IsLawful d mask marker j
    → IsOwed d mask marker j 0 → IsReconstruction d mask marker j
owed_nothing_is_reconstruction d mask marker j lawful owed p inside =
    let r = owed.reconstruction in
    let none : r p - j p ≡ 0 = none_in_no_sum d (λ q. r q - j q) (sym owed.is_sum) p inside in
    let at_most : j p ≤ r p = (lies_between d mask marker j r lawful owed.is_reconstruction p inside).1 in
    let same : r p ≡ j p = omega (arith, none, at_most) in
    subst (λ v. Reaches d mask marker p v × ((k : ℕ) → v < k → Reaches d mask marker p k → ⊥)) same
    (owed.is_reconstruction p inside)

-- a reconstruction from one marker is one from each that is equal to it in the domain
pub same_marker : (d : Domain) (mask first second r : Pixel → ℕ) → ((p : Pixel) → Inside d p → first p ≡ second p)
    → IsReconstruction d mask first r → IsReconstruction d mask second r
same_marker d mask first second r same recon p inside = (
  reaches_rises d mask first second (λ q h. let e = same q h in omega (arith, e)) p (r p) (recon p inside).0,
  λ k above reach.
      (recon p inside).1 k above
      (reaches_rises d mask second first (λ q h. let e = same q h in omega (arith, e)) p k reach),
)
