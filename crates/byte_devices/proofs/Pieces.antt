-- Lists that are taken piece by piece.
use Rattle.std.proofs.Common.{◌≡◌, ℕ, ◌+◌, ◌-◌, ◌≤◌, List, ◌++◌, length, take, drop, sym, ap, ◌∙◌, append_assoc}
use Rattle.std.proofs.Common.{take-append-drop, take-add, length-take-le, take_at, drop-drop}
use Rattle.std.proofs.lemmas.List.{take_rest}

-- the first n of what is left go to those that are done
pub moves_front : (all done rest : List ℕ) (n : ℕ) → all ≡ done ++ rest
    → all ≡ (done ++ take n rest) ++ take (length rest - n) (drop n rest)
moves_front all done rest n e =
    e ∙ ap (λ l. done ++ l) (sym (take-append-drop n rest)) ∙ sym (append_assoc done (take n rest) (drop n rest))
    ∙ ap (λ l. (done ++ take n rest) ++ l) (sym (take_rest rest n))

-- a copied piece, and then what is left behind it
pub copied_piece : (xs piece buf : List ℕ) (at n : ℕ) → n ≤ length (drop at xs) → piece ≡ take n (drop at xs)
    → drop at xs ≡ take n (piece ++ drop n buf) ++ drop (at + n) xs
copied_piece xs piece buf at n fits same =
    let left = drop at xs in
    let long : length piece ≡ n = ap length same ∙ length-take-le n left fits in
    let front : take n (piece ++ drop n buf) ≡ take n left = take_at piece (drop n buf) n long ∙ same in
    sym (take-append-drop n left) ∙ ap (λ l. l ++ drop n left) (sym front)
    ∙ ap (λ l. take n (piece ++ drop n buf) ++ l) (drop-drop n at xs)

-- what stands in front stays, and n more stand behind it
pub filled_more : (before after : List ℕ) (filled n : ℕ) → take filled after ≡ take filled before
    → take filled before ++ take n (drop filled after) ≡ take (filled + n) after
filled_more before after filled n same =
    ap (λ (l : List ℕ). l ++ take n (drop filled after)) (sym same) ∙ sym (take-add filled n after)
