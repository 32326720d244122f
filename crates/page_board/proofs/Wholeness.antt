-- What keeps a board whole.
use Rattle.std.proofs.Common.{◌≡◌, ℕ, ◌≤◌, ◌∙◌, inl, inr, sym, ap, subst, List, Bool, arith}
use Rattle.grid_core.specs.{Raster.Raster, Tiles.IsTiled, Tiles.count_of}
use Rattle.pgm_codec.specs.Graymap.{IsGraymap, BelowKeepsMaxval}
use Rattle.stroke_lattice.specs.State.{IsLiveTag}
use Rattle.reset_core.specs.Answers.{IsImageOf}
use Rattle.page_board.specs.Board.{PageBoard, mask_of, shown_at, last_step, IsWhole, HasTurned}
use Rattle.page_board.specs.{Later.HasSameGround, Marking.AreMarked}
use Rattle.page_board.proofs.{Later.same_tiling, Marked.set_decides}

-- the same ground and the same maxval: the same mask, as files have it
pub same_mask : (old new : PageBoard) → HasSameGround old.core new.core → new.maxval ≡ old.maxval
    → mask_of new ≡ mask_of old
same_mask old new ground maxval = λ i. record { raster = ground.mask i; maxval = maxval i }

-- where the tiles of a set were given the step of the new board, and the others have theirs
module _ (old new : PageBoard) (whole : IsWhole old) (tiles : List Bool)
    (marked : AreMarked tiles new.step old.shown new.shown) (risen : old.step ≤ new.step) where
  pub rises : (t : ℕ) → shown_at old t ≤ shown_at new t
  rises t = elim (set_decides tiles t) [
    | inl has ↦ omega (arith, marked.marked t has, whole.past t, risen)
    | inr not ↦ omega (arith, marked.others t not)
  ]

  past : (t : ℕ) → shown_at new t ≤ new.step
  past t = elim (set_decides tiles t) [
    | inl has ↦ omega (arith, marked.marked t has)
    | inr not ↦ omega (arith, marked.others t not, whole.past t, risen)
  ]

  pub still_whole : HasSameGround old.core new.core → new.maxval ≡ old.maxval → new.version ≤ last_step
      → new.step ≤ last_step → ((tag : ℕ) → IsLiveTag new.core.state tag → HasTurned new 0 tag) → IsWhole new
  still_whole ground maxval version step told = record {
    graymap = subst IsGraymap (sym (same_mask old new ground maxval)) whole.graymap;
    tiled = subst IsTiled (sym (same_tiling old.core new.core ground)) whole.tiled;
    tiles = ground.count ∙ whole.tiles ∙ ap count_of (sym (same_tiling old.core new.core ground));
    count = marked.count ∙ whole.count ∙ sym ground.count;
    begun = λ t within. omega (arith, rises t, whole.begun t (omega (arith, within, ground.count)));
    past = past;
    version = version;
    step = step;
    told = told;
  }

-- the image of a board is one with its maxval
pub image_graymap : (b : PageBoard) (image : Raster) → BelowKeepsMaxval → IsWhole b → IsImageOf b.core image
    → IsGraymap (record { raster = image; maxval = b.maxval })
image_graymap b image keeps whole is =
    subst (λ (r : Raster). IsGraymap (record { raster = r; maxval = b.maxval })) (sym is.value)
    (keeps (mask_of b) b.core.image whole.graymap is.sized.filled is.below)
