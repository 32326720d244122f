-- Tags that turned, news by news, and in order.
use Rattle.std.proofs.Common.{◌≡◌, ℕ, ◌<◌, ◌≤◌, ◌⊎◌, inl, inr, sym, subst, List, [], ◌∷◌, ◌++◌, arith, ◌↔◌, Contains}
use Rattle.std.proofs.Common.{eqb, IsSorted, IsPermutation, nat_cmp}
use Rattle.std.proofs.lemmas.List.Elements.{Contains-push, Contains-push_cases, Contains-append_left}
use Rattle.std.proofs.lemmas.List.Elements.{Contains-append_right, Contains-append_cases}
use Rattle.std.proofs.lemmas.List.Kept.{Contains-dedup_nat, Contains-from_dedup, IsStrictlySortedBy-dedup}
use Rattle.std.proofs.lemmas.List.Sorted.{Contains-permutation, IsPermutation-sym}
use Rattle.std.proofs.{lemmas.Cmp.nat_cmp_total, lemmas.Bool.Decides.nat_tests}
use Rattle.std.specs.List.{dedup}
use Rattle.stroke_lattice.proofs.Lists.{rising_from_sorted}
use Rattle.stroke_lattice.specs.Growth.{AreTags}
use Rattle.page_board.specs.{declared.news.News.News, Board.HasTurnedIn}

-- the list has the tags that turned
abbrev pub HasTurnedTags : List News → ℕ → List ℕ → Type 0
HasTurnedTags all since tags = (tag : ℕ) → Contains tags tag ↔ HasTurnedIn all since tag

module _ (all : List News) (since : ℕ) (news : News) where
  turned_before : (tag : ℕ) → HasTurnedIn all since tag → HasTurnedIn (all ++ news ∷ []) since tag
  turned_before tag turned = record {
    news = turned.news;
    told = Contains-append_left all (news ∷ []) turned.news turned.told;
    later = turned.later;
    turned = turned.turned;
  }

  -- with the last news, or before
  now_or_before : (tag : ℕ) → HasTurnedIn (all ++ news ∷ []) since tag
      → ((since < news.step) × (Contains news.change.born tag ⊎ Contains news.change.dead tag))
      ⊎ HasTurnedIn all since tag
  now_or_before tag turned = elim (Contains-push_cases all news turned.news turned.told) [
    | inl there ↦ inr
        (record { news = turned.news; told = there; later = turned.later; turned = turned.turned })
    | inr same ↦ inl (
      subst (λ (n : News). since < n.step) (sym same) turned.later,
      subst (λ (n : News). Contains n.change.born tag ⊎ Contains n.change.dead tag) (sym same) turned.turned,
    )
  ]

  -- news that are not later tell no tag
  pub turned_passed : (tags : List ℕ) → HasTurnedTags all since tags → news.step ≤ since
      → HasTurnedTags (all ++ news ∷ []) since tags
  turned_passed tags so_far early tag = (
    λ there. turned_before tag ((so_far tag).0 there),
    λ turned. elim (now_or_before tag turned) [
      | inl now ↦ absurd (omega (arith, early, now.0))
      | inr before ↦ (so_far tag).1 before
    ],
  )

  -- later ones tell those that were born and those that died
  pub turned_more : (tags : List ℕ) → HasTurnedTags all since tags → since < news.step
      → HasTurnedTags (all ++ news ∷ []) since ((tags ++ news.change.born) ++ news.change.dead)
  turned_more tags so_far later tag = (
    λ there. elim (Contains-append_cases (tags ++ news.change.born) news.change.dead tag there) [
      | inr dead ↦ record { news = news; told = Contains-push all news; later = later; turned = inr dead }
      | inl front ↦ elim (Contains-append_cases tags news.change.born tag front) [
        | inr born ↦ record { news = news; told = Contains-push all news; later = later; turned = inl born }
        | inl before ↦ turned_before tag ((so_far tag).0 before)
      ]
    ],
    λ turned. elim (now_or_before tag turned) [
      | inr before ↦ Contains-append_left (tags ++ news.change.born) news.change.dead tag
          (Contains-append_left tags news.change.born tag ((so_far tag).1 before))
      | inl now ↦ elim now.1 [
        | inl born ↦ Contains-append_left (tags ++ news.change.born) news.change.dead tag
            (Contains-append_right tags news.change.born tag born)
        | inr dead ↦ Contains-append_right (tags ++ news.change.born) news.change.dead tag dead
      ]
    ],
  )

-- those tags in order, and each once
pub in_order : (all : List News) (since : ℕ) (tags sorted rising : List ℕ) → HasTurnedTags all since tags
    → IsPermutation tags sorted → IsSorted nat_cmp sorted → rising ≡ dedup eqb sorted
    → AreTags (HasTurnedIn all since) rising
in_order all since tags sorted rising turned moved order is = record {
  each = λ tag. (
    λ there. (turned tag).0 (Contains-permutation sorted tags tag (IsPermutation-sym tags sorted moved)
        (Contains-from_dedup eqb sorted tag (subst (λ (xs : List ℕ). Contains xs tag) is there))),
    λ has. subst (λ (xs : List ℕ). Contains xs tag) (sym is)
        (Contains-dedup_nat sorted tag (Contains-permutation tags sorted tag moved ((turned tag).1 has))),
  );
  rise = rising_from_sorted rising
      (rw is (IsStrictlySortedBy-dedup nat_cmp_total (λ x y. grind (arith, nat_tests)) sorted order));
}
