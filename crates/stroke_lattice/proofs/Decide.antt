-- Two seeds are equal or not.
use Rattle.std.proofs.{Common.◌≡◌, Common.ℕ, Common.ap, Common.◌⊎◌, Common.inl, Common.inr, lemmas.Bool.cases_eq}
use base.Stored.{Gv, gnil, gnum, gcons, Coded}
use Rattle.stroke_core.specs.{Seed.Seed, contracts.stroke.Stroke.the_row}

abbrev head : Gv → Gv
head gnil = gnil
head (gnum n) = gnil
head (gcons a b) = a

abbrev tail : Gv → Gv
tail gnil = gnil
tail (gnum n) = gnil
tail (gcons a b) = b

abbrev number : Gv → ℕ
number gnil = 0
number (gnum n) = n
number (gcons a b) = 0

pairs_decide : (a b c d : Gv) → (a ≡ c) ⊎ (a ≡ c → ⊥) → (b ≡ d) ⊎ (b ≡ d → ⊥)
    → (gcons a b ≡ gcons c d) ⊎ (gcons a b ≡ gcons c d → ⊥)
pairs_decide a b c d (inl p) (inl q) = inl (λ i. gcons (p i) (q i))
pairs_decide a b c d (inr n) q = inr (λ e. n (ap head e))
pairs_decide a b c d (inl p) (inr n) = inr (λ e. n (ap tail e))

codes_decide : (x y : Gv) → (x ≡ y) ⊎ (x ≡ y → ⊥)
codes_decide gnil gnil = inl (λ i. gnil)
codes_decide gnil (gnum n) = inr (λ e. cc)
codes_decide gnil (gcons a b) = inr (λ e. cc)
codes_decide (gnum m) gnil = inr (λ e. cc)
codes_decide (gnum m) (gnum n) = elim (cases_eq m n) [ inl e ↦ inl (ap gnum e) | inr ne ↦ inr (λ e. ne (ap number e)) ]
codes_decide (gnum m) (gcons a b) = inr (λ e. cc)
codes_decide (gcons a b) gnil = inr (λ e. cc)
codes_decide (gcons a b) (gnum n) = inr (λ e. cc)
codes_decide (gcons a b) (gcons c d) = pairs_decide a b c d (codes_decide a c) (codes_decide b d)

coded_decide : {A : Type 0} (c : Coded A) (x y : A) → (c.code x ≡ c.code y) ⊎ (c.code x ≡ c.code y → ⊥)
    → (x ≡ y) ⊎ (x ≡ y → ⊥)
coded_decide c x y (inl e) = inl (c.inj x y e)
coded_decide c x y (inr n) = inr (λ e. n (ap c.code e))

-- seeds are equal or not
pub seeds_decide : (x y : Seed) → (x ≡ y) ⊎ (x ≡ y → ⊥)
seeds_decide x y = coded_decide the_row.coded x y (codes_decide (the_row.coded.code x) (the_row.coded.code y))

-- seeds that can't differ are equal
pub same_seed : (x y : Seed) → ((x ≡ y → ⊥) → ⊥) → x ≡ y
same_seed x y h = elim (seeds_decide x y) [ inl e ↦ e | inr n ↦ absurd (h n) ]
