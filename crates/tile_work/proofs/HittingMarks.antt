-- Marks that are set, and the queue of the tiles that were newly marked.
use Rattle.std.proofs.Common.{ℕ, ◌⊎◌, inl, inr, Bool, List, refl, ◌∙◌}
use Rattle.tile_work.specs.{Marks.Grows, Marks.Adds}
use Rattle.tile_work.proofs.TileSets.{cases_has}

pub grows_none : {m q : List Bool} → Grows m q m q
grows_none = record {
  count = refl;
  queue_count = refl;
  kept = λ t has. has;
  queued = λ t. (λ has. inl has, λ either. elim either [ inl has ↦ has | inr (has, not) ↦ absurd (not has) ]);
}

pub grows_more : {m q m1 q1 m2 q2 : List Bool} → Grows m q m1 q1 → Grows m1 q1 m2 q2 → Grows m q m2 q2
grows_more {m1 = m1} a b = record {
  count = b.count ∙ a.count;
  queue_count = b.queue_count ∙ a.queue_count;
  kept = λ t has. b.kept t (a.kept t has);
  queued = λ t. (
    λ has. elim ((b.queued t).0 has) [
      | inl before ↦ elim ((a.queued t).0 before) [
        | inl first ↦ inl first
        | inr (marked, new) ↦ inr (b.kept t marked, new)
      ]
      | inr (marked, new) ↦ inr (marked, λ had. new (a.kept t had))
    ],
    λ either. elim either [
      | inl first ↦ (b.queued t).1 (inl ((a.queued t).1 (inl first)))
      | inr (marked, new) ↦ elim (cases_has m1 t) [
        | inl between ↦ (b.queued t).1 (inl ((a.queued t).1 (inr (between, new))))
        | inr later ↦ (b.queued t).1 (inr (marked, later))
      ]
    ],
  );
}

pub adds_more : {P Q R : ℕ → Type 0} {m q m1 q1 m2 q2 : List Bool} → Adds P m q m1 q1 → Adds Q m1 q1 m2 q2
    → ((t : ℕ) → R t → P t ⊎ Q t) → ((t : ℕ) → P t → R t) → ((t : ℕ) → Q t → R t) → Adds R m q m2 q2
adds_more a b parts first second = record {
  grows = grows_more a.grows b.grows;
  marked = λ t. (
    λ has. elim ((b.marked t).0 has) [
      | inl before ↦ elim ((a.marked t).0 before) [ inl had ↦ inl had | inr p ↦ inr (first t p) ]
      | inr x ↦ inr (second t x)
    ],
    λ either. elim either [
      | inl had ↦ b.grows.kept t (a.grows.kept t had)
      | inr r ↦ elim (parts t r) [
        | inl p ↦ b.grows.kept t ((a.marked t).1 (inr p))
        | inr x ↦ (b.marked t).1 (inr x)
      ]
    ],
  );
}

pub adds_same : {P R : ℕ → Type 0} {m q m1 q1 : List Bool} → Adds P m q m1 q1 → ((t : ℕ) → R t → P t)
    → ((t : ℕ) → P t → R t) → Adds R m q m1 q1
adds_same a to from = record {
  grows = a.grows;
  marked = λ t. (
    λ has. elim ((a.marked t).0 has) [ inl had ↦ inl had | inr p ↦ inr (from t p) ],
    λ either. (a.marked t).1 (elim either [ inl had ↦ inl had | inr r ↦ inr (to t r) ]),
  );
}
