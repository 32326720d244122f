-- Lists of values that are compared place by place.
use Rattle.std.proofs.Common.{◌+◌, ◌<◌, ◌||◌, Bool, List, arith, false, not, refl, slice_index, subst, sym, true}
use Rattle.std.proofs.Common.{ℕ, ◌↔◌, ◌≡◌, ◌≤◌}
use Rattle.std.proofs.lemmas.Bool.{cases_lt}
use mathlib.Core.Logic.{dite, ⊎_elim}
use native.Mathlib.Decide.{ℕ_discrete}
use Rattle.live_board.specs.Blocks.{AreNoneAbove}

-- none is above before the first place
pub none_above : (from : ℕ) (ones others : List ℕ) → (false ≡ false) ↔ AreNoneAbove from from ones others
none_above from ones others = (λ e k after before. absurd (omega (arith, after, before)), λ all. refl)

-- one place more
above_more : (from to : ℕ) (ones others : List ℕ) → AreNoneAbove from to ones others
    → slice_index ones to ≤ slice_index others to → AreNoneAbove from (to + 1) ones others
above_more from to ones others all last k after before = dite (ℕ_discrete k to)
    (λ (e : k ≡ to). subst (λ (j : ℕ). slice_index ones j ≤ slice_index others j) (sym e) last)
    (λ ne. all k after (omega (arith, before, ne)))

pub flag_more : (from to : ℕ) (ones others : List ℕ) (flag test : Bool) → from ≤ to
    → (flag ≡ false) ↔ AreNoneAbove from to ones others
    → (test ≡ false) ↔ (slice_index ones to ≤ slice_index others to)
    → (flag || test ≡ false) ↔ AreNoneAbove from (to + 1) ones others
flag_more from to ones others true test low before here = (
  λ e. absurd cc,
  λ all. absurd (let no : true ≡ false = before.1 (λ k after h. all k after (omega arith)) in cc),
)
flag_more from to ones others false test low before here = (
  λ e. above_more from to ones others (before.0 refl) (here.0 e),
  λ all. here.1 (all to low (omega arith)),
)

pub not_down : (flag : Bool) → (not flag ≡ true) ↔ (flag ≡ false)
not_down false = (λ e. refl, λ e. refl)
not_down true = (
  λ e. absurd (let no : false ≡ true = e in cc),
  λ e. absurd (let no : true ≡ false = e in cc),
)

-- what the flag says at the end
pub flag_told : (from to at : ℕ) (ones others : List ℕ) (flag : Bool) → at ≡ to
    → (flag ≡ false) ↔ AreNoneAbove from at ones others → (not flag ≡ true) ↔ AreNoneAbove from to ones others
flag_told from to at ones others flag is before =
    let same : (flag ≡ false) ↔ AreNoneAbove from to ones others =
    subst (λ (n : ℕ). (flag ≡ false) ↔ AreNoneAbove from n ones others) is before in
    (λ e. same.0 ((not_down flag).0 e), λ all. (not_down flag).1 (same.1 all))

-- block by block
pub blocks_none : (ones others : List ℕ) → AreNoneAbove 0 0 ones others
blocks_none ones others k after before = absurd (omega (arith, before))

pub blocks_more : (from to : ℕ) (ones others : List ℕ) → AreNoneAbove 0 from ones others
    → AreNoneAbove from to ones others → AreNoneAbove 0 to ones others
blocks_more from to ones others first then k after before = ⊎_elim
    (λ (less : k < from). first k after less)
    (λ (no_less : from ≤ k). then k no_less before)
    (cases_lt k from)
