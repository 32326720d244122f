use Rattle.std.proofs.Common.{◌*◌, ◌<◌, List, ap, ap₂, length, slice_index, subst, sym, ℕ, ◌∙◌, ◌≡◌, ◌≤◌}
use Rattle.live_board.specs.{Seats.ground_of, Words.mask_of}
use Rattle.live_board.proofs.hand.HandSeat.draw.Goals as goal

pub take_in-requires-clause-low : goal.take_in-requires-clause-low
take_in-requires-clause-low c =
    let mask = mask_of (ground_of c.args.board.now) in
    let are : c.cells_mut.result.now ≡ c.args.image.now.cells = c.cells_mut.ensures.values in (
      ap (λ (l : List ℕ). length l) are ∙ c.cells_mut.ensures.sized.filled
          ∙ ap₂ (λ (w h : ℕ). w * h) c.requires.image.width c.requires.image.height
          ∙ sym c.width.ensures.sized.sized.filled,
      λ k inside. subst (λ (l : List ℕ). slice_index l k ≤ slice_index mask.cells k) (sym are)
          (c.requires.image.values k (subst (λ (l : List ℕ). k < length l) are inside)),
    )
