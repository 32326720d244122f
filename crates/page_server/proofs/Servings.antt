-- Why a page is not served, by where that is found.
use Rattle.std.proofs.Common.{◌≡◌, ◌⊎◌, ℕ, List, Option, inl, inr, subst, sym, IfSome}
use Rattle.grid_core.specs.declared.conn.Conn.{Conn}
use Rattle.run_faults.specs.{RunError.IsTransferFault, declared.run_error.RunError.RunError}
use Rattle.run_faults.specs.declared.run_error.RunError.TheVariants.{Link, Memory}
use Rattle.view_session.specs.Store.{AreSame, Held, IsHeldIn}
use Rattle.page_board.specs.Board.{PageBoard}
use Rattle.page_server.specs.{Opening.IsNotOpenedFrom, Opening.IsOpeningFault, Serving.IsKeptIn, Serving.IsNotServed}

module _ (conn : Conn) (held : Held) (name : List ℕ) where
  -- in opening the board, whatever is known of the input
  pub not_opened_not_served : (Comes : List ℕ → Type 0) (e : RunError) → IsOpeningFault e ⊎ IsTransferFault e
      ⊎ ((old input : List ℕ) × IsHeldIn held name old × Comes input × IsNotOpenedFrom conn old input e)
      → IsNotServed conn held name e
  not_opened_not_served Comes e (inl early) = inr (inl early)
  not_opened_not_served Comes e (inr (inl device)) = inr (inr (inl device))
  not_opened_not_served Comes e (inr (inr (old, input, is_held, comes, why))) =
      inr (inr (inr (old, input, is_held, why)))

  -- in finding a place for it, and telling where that is
  pub not_told_not_served : (e : RunError) → (e ≡ Link) ⊎ (e ≡ Memory) ⊎ IsTransferFault e
      → IsNotServed conn held name e
  not_told_not_served e (inl link) = inl link
  not_told_not_served e (inr (inl memory)) = inr (inl (inr (inl memory)))
  not_told_not_served e (inr (inr device)) = inr (inr (inl device))

  -- in serving it
  pub ended_not_served : (e : RunError) → (e ≡ Link) ⊎ (e ≡ Memory) → IsNotServed conn held name e
  ended_not_served e (inl link) = inl link
  ended_not_served e (inr memory) = inr (inl (inr (inl memory)))

-- what is kept in a file is kept there where no file changed
pub kept_on : (before after : Held) (name kept : List ℕ) (board : PageBoard) → AreSame before after
    → IsKeptIn before name kept board → IsKeptIn after name kept board
kept_on before after name kept board same is = record {
  is_held = subst (λ (known : Option (List ℕ)). IfSome known (λ bytes. kept ≡ bytes)) (sym (same name)) is.is_held;
  keeps = is.keeps;
  had = is.had;
}
