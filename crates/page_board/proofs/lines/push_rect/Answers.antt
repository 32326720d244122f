use Rattle.std.proofs.Common.{◌≡◌, ℕ, List, [], ◌∷◌, ◌++◌, append_assoc}
use Rattle.page_board.proofs.lines.push_rect.Goals as goal

-- four texts that were put behind one, each with a byte behind it
four_behind : (before a b c d : List ℕ) (u v w z : ℕ)
    → (((((((before ++ a) ++ u ∷ []) ++ b) ++ v ∷ []) ++ c) ++ w ∷ []) ++ d) ++ z ∷ []
    ≡ before ++ (a ++ u ∷ (b ++ v ∷ (c ++ w ∷ (d ++ z ∷ []))))
four_behind before a b c d u v w z = simp append_assoc

pub returns : goal.returns
returns c =
    rw (
      c.in_ok-push_number-4.ensures,
      c.in_ok-push_number-3.ensures,
      c.in_ok-push_number-2.ensures,
      c.in_ok-push_number.ensures,
    )
    (four_behind c.args.out.now.items _ _ _ _ _ _ _ _)
