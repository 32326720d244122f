-- Tiles that are passed over: each is as it was, and as many serials are spent.
use Rattle.std.proofs.Common.{◌≡◌, ℕ, zero, suc, ◌+◌, ◌%◌, ◌^◌, ◌-◌, ◌<◌, ◌≤◌, true, false, if◌then◌else◌, length, None}
use Rattle.std.proofs.Common.{refl, sym, ap, ◌∙◌, subst, inl, inr, arith, Bool, List}
use Rattle.std.proofs.lemmas.{Bool.cases_Bool, Nat.mod_below}
use Rattle.std.proofs.Math.Nat.{mod-add-mod}
use Rattle.border_queues.specs.TileWork.{TileWork, work_of}
use Rattle.core_rules.specs.{Work.Core, Sweeps.IsReady}
use Rattle.core_rules.proofs.PassingOver.{is_passed_over}
use Rattle.reset_core.specs.declared.replica.Core.TheInside.{Inside as Parts}
use Rattle.reset_core.specs.Replica.{core_of, IsStored}
use Rattle.reset_core.proofs.Sweeping.{passed_is_stored}
use Rattle.tile_work.specs.WorkTable.{can_be_taken, ready_in}
use Rattle.tile_work.proofs.WorkTables.{can_be_taken_says}
use Rattle.tiled_core.specs.Passing.{ArePassed}

-- the parts once so many more serials are spent
abbrev pub with_spent : Parts → ℕ → Parts
with_spent parts n = record parts { serial = (parts.serial + n) % 2 ^ 64 }

none_spent : (parts : Parts) → parts.serial < 2 ^ 64 → with_spent parts 0 ≡ parts
none_spent parts fits =
    let same : (parts.serial + 0) % 2 ^ 64 ≡ parts.serial = omega (arith, fits) in
    ap (λ n. record parts { serial = n }) same

spent_twice : (parts : Parts) (n : ℕ) → with_spent (with_spent parts 1) n ≡ with_spent parts (1 + n)
spent_twice parts n =
    let same : ((parts.serial + 1) % 2 ^ 64 + n) % 2 ^ 64 ≡ (parts.serial + (1 + n)) % 2 ^ 64 =
    mod-add-mod (parts.serial + 1) (2 ^ 64) n ∙ ap (λ k. k % 2 ^ 64) (omega arith) in
    ap (λ k. record parts { serial = k }) same

-- a tile counts as one that can be taken exactly where it can
is_ready : (parts : Parts) (t : ℕ) → t < length parts.work → can_be_taken (work_of parts.work t) ≡ true
    → IsReady (core_of parts) t
is_ready parts t within can =
    let taken = (can_be_taken_says parts.work t).0 can in
    record { is_tile = taken.0.0; dirty = taken.0.1; none_out = taken.1 }

is_not_ready : (parts : Parts) (t : ℕ) → t < length parts.work → can_be_taken (work_of parts.work t) ≡ false
    → IsReady (core_of parts) t → ⊥
is_not_ready parts t within cannot ready =
    let can = (can_be_taken_says parts.work t).1 ((ready.is_tile, ready.dirty), ready.none_out) in
    let no : true ≡ false = sym can ∙ cannot in
    cc

-- the tiles were passed over
pub record WerePassed (parts : Parts) (from n : ℕ) : Type 0 where
  pub passed : ArePassed from n (core_of parts) (core_of (with_spent parts (ready_in parts.work from n)))
  pub stored : IsStored (with_spent parts (ready_in parts.work from n))

ready_more : (parts : Parts) (from n : ℕ) (can : Bool) → can_be_taken (work_of parts.work from) ≡ can
    → ready_in parts.work from (suc n) ≡ (if can then 1 else 0) + ready_in parts.work (from + 1) n
ready_more parts from n can is = ap (λ b. (if b then 1 else 0) + ready_in parts.work (from + 1) n) is

pub were_passed : (n from : ℕ) (parts : Parts) → IsStored parts → parts.serial < 2 ^ 64
    → n ≤ length parts.work - from → WerePassed parts from n
were_passed zero from parts stored fits within =
    let same = none_spent parts fits in record {
      passed = ap core_of same;
      stored = subst IsStored (sym same) stored;
    }
were_passed (suc n) from parts stored fits within =
    let here : from < length parts.work = omega (arith, within) in
    elim (cases_Bool (can_be_taken (work_of parts.work from))) [
      | inl can ↦
          let ready = is_ready parts from here can in
          let next = with_spent parts 1 in
          let rest =
          were_passed n (from + 1) next (passed_is_stored parts (core_of parts) from refl stored ready)
          (mod_below (parts.serial + 1) (2 ^ 64) (omega arith)) (omega (arith, within)) in
          let same : with_spent next (ready_in parts.work (from + 1) n)
          ≡ with_spent parts (ready_in parts.work from (suc n)) =
          spent_twice parts (ready_in parts.work (from + 1) n)
          ∙ ap (with_spent parts) (sym (ready_more parts from n true can)) in
          record {
            passed = (
              core_of next,
              inl (is_passed_over (core_of parts) from ready),
              subst (λ (p : Parts). ArePassed (from + 1) n (core_of next) (core_of p)) same rest.passed,
            );
            stored = subst IsStored same rest.stored;
          }
      | inr cannot ↦
          let rest = were_passed n (from + 1) parts stored fits (omega (arith, within)) in
          let same : with_spent parts (ready_in parts.work (from + 1) n)
          ≡ with_spent parts (ready_in parts.work from (suc n)) =
          let count : ready_in parts.work from (suc n) ≡ ready_in parts.work (from + 1) n =
          omega (arith, ready_more parts from n false cannot) in
          ap (with_spent parts) (sym count) in
          record {
            passed = (
              core_of parts,
              inr (is_not_ready parts from here cannot, refl),
              subst (λ (p : Parts). ArePassed (from + 1) n (core_of parts) (core_of p)) same rest.passed,
            );
            stored = subst IsStored same rest.stored;
          }
    ]

-- where the tiles are as they were, a tile that could be taken still can
pub ready_still : (before after : Core) (t : ℕ) → after.tiles ≡ before.tiles → IsReady before t → IsReady after t
ready_still before after t same ready = record {
  is_tile = subst (λ (works : List TileWork). t < length works) (sym same) ready.is_tile;
  dirty = subst (λ (works : List TileWork). (work_of works t).dirty ≡ true) (sym same) ready.dirty;
  none_out = subst (λ (works : List TileWork). (work_of works t).out ≡ None) (sym same) ready.none_out;
}
