-- That threads may share a type holds in one way at most, so it may be taken out of a ghost field, and gives `Sync`.
use Rattle.std.specs.Thread.{IsSync}
use base.Fml.{Fml, ftrue, ffalse, feq, flt, fsep, fand, for, fwand, fex, fall, fupd, fhide, fat, froom, fleft, fdies}
use base.Fml.{flft, fdead, fobs, fauth, fres, fown, fbor, fobor, flent, fshr_bor, finv, fnamed, ftok, fkid, fme, fsent}
use base.Shift.{Keyless}
use denote.RattleType.{RattleType}
use mathlib.Core.Logic.{∥∥₁_elim}
use Rattle.band_growth.specs.Sharing.{IsShared}

one_unit : IsProp (Unit {0})
one_unit p q = λ i. tt

keyless_prop : (P : Fml) → IsProp (Keyless P)
keyless_prop ftrue = one_unit
keyless_prop ffalse = one_unit
keyless_prop (feq d x y) = one_unit
keyless_prop (flt m n) = one_unit
keyless_prop (fat q τ b o v) = one_unit
keyless_prop (froom τ b o) = one_unit
keyless_prop (fleft q ω τs b o) = one_unit
keyless_prop (fdies τ b) = one_unit
keyless_prop (flft κ q) = one_unit
keyless_prop (fdead κ) = one_unit
keyless_prop (fobs γ x) = one_unit
keyless_prop (fauth γ x) = one_unit
keyless_prop (fres γ x) = one_unit
keyless_prop (fown R γ x) = one_unit
keyless_prop (fsep P Q) = λ p q i. (keyless_prop P p.0 q.0 i, keyless_prop Q p.1 q.1 i)
keyless_prop (fand P Q) = λ p q i. (keyless_prop P p.0 q.0 i, keyless_prop Q p.1 q.1 i)
keyless_prop (for P Q) = λ p q i. (keyless_prop P p.0 q.0 i, keyless_prop Q p.1 q.1 i)
keyless_prop (fwand P Q) = λ p q i. (keyless_prop P p.0 q.0 i, keyless_prop Q p.1 q.1 i)
keyless_prop (fupd P) = keyless_prop P
keyless_prop (fhide P) = keyless_prop P
keyless_prop (fbor κ P) = keyless_prop P
keyless_prop (fobor κ q P) = keyless_prop P
keyless_prop (flent κ P) = keyless_prop P
keyless_prop (finv P) = keyless_prop P
keyless_prop (fnamed nm P) = keyless_prop P
keyless_prop (fex X F) = λ p q i x. keyless_prop (F x) (p x) (q x) i
keyless_prop (fall X F) = λ p q i x. keyless_prop (F x) (p x) (q x) i
keyless_prop (fshr_bor κ Φ) = λ p q i x. keyless_prop (Φ x) (p x) (q x) i
keyless_prop (ftok E) = λ p q. absurd p
keyless_prop (fkid h a) = λ p q. absurd p
keyless_prop (fme h) = λ p q. absurd p
keyless_prop (fsent E) = one_unit

shared_once : (R : RattleType) → IsProp (IsShared R)
shared_once R = λ p q i x b o κ. keyless_prop (R.shr_at x b o κ) (p x b o κ) (q x b o κ) i

pub shared_sync : (R : RattleType) → ∥ IsShared R ∥₁ → IsSync R
shared_sync R shared = let all : IsShared R = ∥∥₁_elim shared (shared_once R) (λ each. each) in record { shared = all }
