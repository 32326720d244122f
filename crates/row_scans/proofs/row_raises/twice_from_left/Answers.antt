use Rattle.std.proofs.Common.{◌≡◌, ◌-◌, ◌<◌, ◌≤◌, ℕ, List, ◌∙◌, min, max, get_or, slice_set, subst, arith, inl, inr}
use Rattle.std.proofs.lemmas.Bool.{cases_lt}
use Rattle.std.proofs.lemmas.List.{length-set, get_or-set_same, get_or-set_other}
use Rattle.row_scans.proofs.row_raises.twice_from_left.Goals as goal

pub loop-i-preserved : goal.loop-i-preserved
loop-i-preserved c =
    let held = c.loop-i.invariant in
    let next = c.loop-i.next in
    let reach = c.args.reach in
    let by = c.args.by in
    let i = c.loop-i.i in
    let level = c.max.result in
    let cap = c.min-in-loop-i.result in
    let levels : List ℕ = slice_set next.levels i level in
    let caps : List ℕ = slice_set next.caps i cap in
    let from : by ≤ i = omega (arith, c.loop-i.auto.i) in
    let level_else : (k : ℕ) → k < i → get_or levels k 0 ≡ get_or next.levels k 0 =
    λ k less. get_or-set_other next.levels i k level 0 (λ e. absurd (omega (arith, less, e))) in
    let cap_else : (k : ℕ) → k < i → get_or caps k 0 ≡ get_or next.caps k 0 =
    λ k less. get_or-set_other next.caps i k cap 0 (λ e. absurd (omega (arith, less, e))) in
    record {
      long = length-set next.levels i level ∙ held.long;
      wide = length-set next.caps i cap ∙ held.wide;
      kept = λ k less. level_else k (omega (arith, less, from)) ∙ held.kept k less;
      stays = λ k less. cap_else k (omega (arith, less, from)) ∙ held.stays k less;
      levels = λ k some less. elim (cases_lt k i) [
        | inl before ↦ level_else k before ∙ held.levels k some before
        | inr past ↦
            let here : i ≡ k = omega (arith, past, less) in
            subst (λ n. get_or levels n 0
            ≡ max (get_or reach.levels n 0) (min (get_or reach.levels (n - by) 0) (get_or reach.caps n 0))) here
            (get_or-set_same next.levels i level 0 (omega (arith, held.long, c.loop-i-test.true))
            ∙ omega (arith, c.max.ensures, c.min.ensures))
      ];
      caps = λ k some less. elim (cases_lt k i) [
        | inl before ↦ cap_else k before ∙ held.caps k some before
        | inr past ↦
            let here : i ≡ k = omega (arith, past, less) in
            subst (λ n. get_or caps n 0 ≡ min (get_or reach.caps n 0) (get_or reach.caps (n - by) 0)) here
            (get_or-set_same next.caps i cap 0 (omega (arith, held.wide, c.loop-i-test.true))
            ∙ omega (arith, c.min-in-loop-i.ensures))
      ];
    }
