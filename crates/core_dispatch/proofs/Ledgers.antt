-- An edit that is taken keeps the books faithful.
use Rattle.std.proofs.Common.{◌≡◌, ◌≢◌, ◌⊎◌, ℕ, zero, suc, ◌<◌, List, [], ◌∷◌, ◌++◌, length, set, replicate, sym, refl}
use Rattle.std.proofs.Common.{ap, ◌∙◌, subst, inl, inr, ⊎_elim, arith}
use mathlib.Core.Option.{some, some-ne-none, some-injective}
use mathlib.Core.Logic.{dite}
use native.Mathlib.Decide.{ℕ_discrete}
use lib.ListN.{get_elem?}
use Rattle.atomic_table.proofs.Lists.{at_set, at_snoc, at_longer, at_last, set_here, set_else}
use Rattle.stroke_lattice.specs.{State.State, State.HasStroke, State.HasTombstone, State.IsBelow, Change.Turnover}
use Rattle.stroke_lattice.proofs.Joins.{below_itself, below_through, join_is_union}
use Rattle.core_rules.specs.{Work.Core, Merge.IsMerged}
use Rattle.core_dispatch.specs.declared.refusal.Refusal.{Refusal}
use Rattle.core_dispatch.specs.Books.{Ledger, StandsAt, IsListed, IsKept, IsReason, IsFaithful, SomeKeptHasStroke}
use Rattle.core_dispatch.specs.Books.{SomeKeptHasTombstone}
use Rattle.steal_pool.proofs.Deals.{below, not_last}
use Rattle.core_dispatch.proofs.Reasons.{still}

-- ---- lists

same_everywhere : {A : Type 0} (n : ℕ) (a b : A) (i : ℕ) → get_elem? (replicate n a) i ≡ some b → a ≡ b
same_everywhere zero a b i e = absurd (some-ne-none b (sym e))
same_everywhere (suc n) a b zero e = some-injective a b e
same_everywhere (suc n) a b (suc i) e = same_everywhere n a b i e

-- ---- one edit more of a pen

module _ (taken : List (List State)) (pen : ℕ) (edits : List State) (delta : State)
    (at : get_elem? taken pen ≡ some edits) where
  abbrev more : List State
  more = edits ++ delta ∷ []

  abbrev grown : List (List State)
  grown = set taken pen more

  at_pen : get_elem? grown pen ≡ some more
  at_pen = set_here taken pen more (below taken pen edits at)

  stands_on : (p n : ℕ) (d : State) → StandsAt taken p n d → StandsAt grown p n d
  stands_on p n d s = dite (ℕ_discrete p pen)
      (λ same.
      let is : s.0 ≡ edits = some-injective s.0 edits (sym s.1 ∙ (ap (λ (j : ℕ). get_elem? taken j) same ∙ at)) in (
        more,
        ap (λ (j : ℕ). get_elem? grown j) same ∙ at_pen,
        at_longer edits (delta ∷ []) n d (ap (λ (l : List State). get_elem? l n) (sym is) ∙ s.2),
      ))
      (λ other. (s.0, set_else taken pen p more other ∙ s.1, s.2))

  new_stands : StandsAt grown pen (length edits) delta
  new_stands = (more, at_pen, at_last edits delta (length edits) refl)

  none_there : (n : ℕ) (d : State) → StandsAt taken pen n d → n ≡ length edits → ⊥
  none_there n d s e =
      let is : s.0 ≡ edits = some-injective s.0 edits (sym s.1 ∙ at) in
      let lt : n < length edits = below edits n d (ap (λ (l : List State). get_elem? l n) (sym is) ∙ s.2) in
      omega arith

  stood : (p n : ℕ) (d : State) → StandsAt grown p n d
      → StandsAt taken p n d ⊎ ((p ≡ pen) × (n ≡ length edits) × (delta ≡ d))
  stood p n d s = ⊎_elim
      (λ (t : (p ≡ pen) × (more ≡ s.0)).
      let e : get_elem? more n ≡ some d = ap (λ (l : List State). get_elem? l n) t.1 ∙ s.2 in
      dite (ℕ_discrete n (length edits))
      (λ last.
      let there = ap (λ (j : ℕ). get_elem? more j) last ∙ at_last edits delta (length edits) refl in
      inr (t.0, last, some-injective delta d (sym there ∙ e)))
      (λ before. inl (edits, ap (λ (j : ℕ). get_elem? taken j) t.0 ∙ at, not_last edits delta d n before e)))
      (λ (t : (p ≢ pen) × (get_elem? taken p ≡ some s.0)). inl (s.0, t.1, s.2))
      (at_set taken pen p more s.0 s.1)

-- the pen's next edit is not among the refused
unlisted : (l : Ledger) (pen : ℕ) (edits : List State) → IsFaithful l → get_elem? l.taken pen ≡ some edits
    → IsListed l.refusals pen (length edits) → ⊥
unlisted l pen edits f at li =
    let s = (f.refused li.0 li.1 li.2).0 in
    none_there l.taken pen edits li.1.delta at li.1.number li.1.delta
    (subst (λ (p : ℕ). StandsAt l.taken p li.1.number li.1.delta) li.3 s) li.4

-- an edit that is taken and merged keeps the books faithful
pub merged : (l : Ledger) (pen : ℕ) (edits : List State) (delta : State) (turnover : Turnover) (after : Core)
    → IsFaithful l → get_elem? l.taken pen ≡ some edits → IsMerged l.core delta turnover after
    → IsFaithful (record l { core = after; taken = set l.taken pen (edits ++ delta ∷ []) })
merged l pen edits delta turnover after f at m =
    let u = join_is_union l.core.state delta after.state m.join in
    let next : Ledger = record l { core = after; taken = set l.taken pen (edits ++ delta ∷ []) } in
    let new : IsKept next.taken next.refusals pen (length edits) delta =
    (new_stands l.taken pen edits delta at, unlisted l pen edits f at) in
    let on = stands_on l.taken pen edits delta at in
    record {
      opening = below_through l.opening l.core.state after.state f.opening u.above_first;
      kept = λ p n d k. ⊎_elim
          (λ s. below_through d l.core.state after.state (f.kept p n d (s, k.1)) u.above_first)
          (λ (t : (p ≡ pen) × (n ≡ length edits) × (delta ≡ d)).
          subst (λ (x : State). IsBelow x after.state) t.2 u.above_second)
          (stood l.taken pen edits delta at p n d k.0);
      strokes = λ tag seed h. ⊎_elim
          (λ (old : HasStroke l.core.state tag seed). ⊎_elim (λ o. inl o)
          (λ (k : SomeKeptHasStroke l tag seed). inr (k.0, k.1, k.2, (on k.0 k.1 k.2 k.3.0, k.3.1), k.4))
          (f.strokes tag seed old))
          (λ (has : HasStroke delta tag seed). inr (pen, length edits, delta, new, has))
          (u.strokes tag seed h);
      tombstones = λ tag h. ⊎_elim
          (λ (old : HasTombstone l.core.state tag). ⊎_elim (λ o. inl o)
          (λ (k : SomeKeptHasTombstone l tag). inr (k.0, k.1, k.2, (on k.0 k.1 k.2 k.3.0, k.3.1), k.4))
          (f.tombstones tag old))
          (λ (has : HasTombstone delta tag). inr (pen, length edits, delta, new, has))
          (u.tombstones tag h);
      refused = λ i r e.
          let o = f.refused i r e in
          (on r.pen r.number r.delta o.0, still l.core after delta turnover m r.delta r.error o.1);
    }

-- an edit that is taken and listed keeps the books faithful
pub listed : (l : Ledger) (pen : ℕ) (edits : List State) (r : Refusal) → IsFaithful l
    → get_elem? l.taken pen ≡ some edits → r.pen ≡ pen → r.number ≡ length edits → IsReason l.core r.delta r.error
    → IsFaithful (record l {
      taken = set l.taken pen (edits ++ r.delta ∷ []);
      refusals = l.refusals ++ r ∷ [];
    })
listed l pen edits r f at pen_is number_is why =
    let more : List Refusal = l.refusals ++ r ∷ [] in
    let grown : List (List State) = set l.taken pen (edits ++ r.delta ∷ []) in
    let on = stands_on l.taken pen edits r.delta at in
    let up : (p n : ℕ) → IsListed l.refusals p n → IsListed more p n =
    λ p n li. (li.0, li.1, at_longer l.refusals (r ∷ []) li.0 li.1 li.2, li.3, li.4) in
    let mine : IsListed more pen (length edits) =
    (length l.refusals, r, at_last l.refusals r (length l.refusals) refl, pen_is, number_is) in
    let down : (p n : ℕ) (d : State) → StandsAt l.taken p n d → (IsListed l.refusals p n → ⊥) → IsListed more p n → ⊥ =
    λ p n d s no li. ⊎_elim
    (λ (old : get_elem? l.refusals li.0 ≡ some li.1). no (li.0, li.1, old, li.3, li.4))
    (λ (is : r ≡ li.1). none_there l.taken pen edits d at n d
    (subst (λ (q : ℕ). StandsAt l.taken q n d) (sym li.3 ∙ (ap (λ (x : Refusal). x.pen) (sym is) ∙ pen_is)) s)
    (sym li.4 ∙ (ap (λ (x : Refusal). x.number) (sym is) ∙ number_is)))
    (at_snoc l.refusals r li.1 li.0 li.2) in
    record {
      opening = f.opening;
      kept = λ p n d k. ⊎_elim
          (λ s. f.kept p n d (s, λ li. k.1 (up p n li)))
          (λ (t : (p ≡ pen) × (n ≡ length edits) × (r.delta ≡ d)).
          absurd (k.1 (subst (λ (q : ℕ). IsListed more q n) (sym t.0)
          (subst (λ (m : ℕ). IsListed more pen m) (sym t.1) mine))))
          (stood l.taken pen edits r.delta at p n d k.0);
      strokes = λ tag seed h. ⊎_elim (λ o. inl o)
          (λ (k : SomeKeptHasStroke l tag seed).
          inr (k.0, k.1, k.2, (on k.0 k.1 k.2 k.3.0, down k.0 k.1 k.2 k.3.0 k.3.1), k.4))
          (f.strokes tag seed h);
      tombstones = λ tag h. ⊎_elim (λ o. inl o)
          (λ (k : SomeKeptHasTombstone l tag).
          inr (k.0, k.1, k.2, (on k.0 k.1 k.2 k.3.0, down k.0 k.1 k.2 k.3.0 k.3.1), k.4))
          (f.tombstones tag h);
      refused = λ i q e. ⊎_elim
          (λ (old : get_elem? l.refusals i ≡ some q).
          let o = f.refused i q old in (on q.pen q.number q.delta o.0, o.1))
          (λ (is : r ≡ q).
          subst (λ (x : Refusal). StandsAt grown x.pen x.number x.delta × IsReason l.core x.delta x.error) is (
            subst (λ (p : ℕ). StandsAt grown p r.number r.delta) (sym pen_is)
                (subst (λ (m : ℕ). StandsAt grown pen m r.delta) (sym number_is)
                (new_stands l.taken pen edits r.delta at)),
            why,
          ))
          (at_snoc l.refusals r q i e);
    }

-- books of which nothing was taken yet are faithful
pub opened : (core : Core) (pens : ℕ) (taken : List (List State)) → taken ≡ replicate pens []
    → IsFaithful (record { core = core; opening = core.state; taken = taken; refusals = [] })
opened core pens taken none =
    let no : (pen n : ℕ) (delta : State) → StandsAt taken pen n delta → ⊥ =
    λ pen n delta s.
    let at = ap (λ (l : List (List State)). get_elem? l pen) (sym none) ∙ s.1 in
    let is : [] ≡ s.0 = same_everywhere pens [] s.0 pen at in
    some-ne-none delta (sym (ap (λ (l : List State). get_elem? l n) is ∙ s.2)) in
    record {
      opening = below_itself core.state;
      kept = λ pen n delta k. absurd (no pen n delta k.0);
      strokes = λ tag seed h. inl h;
      tombstones = λ tag h. inl h;
      refused = λ i r e. absurd (some-ne-none r (sym e));
    }
