-- Deltas that a board takes together, of a text or of a file, and why it refuses them.
use Rattle.std.proofs.Common.{◌≡◌, ℕ, ◌⊎◌, inl, inr, refl, ap, subst, List}
use Rattle.grid_core.specs.declared.conn.Conn.{Conn}
use Rattle.stroke_lattice.specs.State.{State}
use Rattle.edit_lang.specs.Edit.{EditSpells}
use Rattle.core_rules.specs.{declared.error.CoreError.CoreError, Merge.IsRefused}
use Rattle.view_session.specs.{Kept.print_of, Kept.FileSpells, Merging.AreMerged}
use Rattle.run_faults.specs.{RunError.IsMemory, declared.run_error.RunError.TheVariants.Core}
use Rattle.page_board.specs.Board.{PageBoard, mask_of}
use Rattle.page_board.specs.Taking.{IsTaken, AreTakenTogether, AreRefusedTogether, TextIsTaken, TextIsRefused}
use Rattle.page_board.specs.Taking.{FileIsTaken, FileIsRefused}
use Rattle.core_rules.specs.declared.error.CoreError.TheVariants as core

-- the numbers of columns and rows
abbrev pub size_of : PageBoard → ℕ × ℕ
size_of b = (b.core.mask.width, b.core.mask.height)

-- the deltas are these, merged into one for an image of the board's size
pub record AreJoined (b : PageBoard) (deltas : List State) (delta : State) : Type 0 where
  pub read : List State
  pub same : read ≡ deltas
  pub size : ℕ × ℕ
  pub size_is : size ≡ size_of b
  pub merged : AreMerged size.0 size.1 read delta

module _ (b : PageBoard) (deltas : List State) (delta : State) (joined : AreJoined b deltas delta) where
  merged : AreMerged b.core.mask.width b.core.mask.height deltas delta
  merged =
      subst (λ (size : ℕ × ℕ). AreMerged size.0 size.1 deltas delta) joined.size_is
      (subst (λ (read : List State). AreMerged joined.size.0 joined.size.1 read delta) joined.same joined.merged)

  taken_together : (new : PageBoard) → IsTaken b delta new → AreTakenTogether b deltas new
  taken_together new taken = (delta, merged, taken)

  refused_together : (why : CoreError) → (why ≡ core.Memory) ⊎ IsRefused b.core delta why
      → IsMemory (Core why) ⊎ AreRefusedTogether b deltas (Core why)
  refused_together why (inl memory) = inl (inr (inr (inr (inl (ap (λ (e : CoreError). Core e) memory)))))
  refused_together why (inr refused) = inr (inr (delta, why, merged, refused, refl))

  -- ---- texts

  pub text_is_taken : (text : List ℕ) (new : PageBoard) → EditSpells text deltas → IsTaken b delta new
      → TextIsTaken b text new
  text_is_taken text new spelled taken = (deltas, spelled, taken_together new taken)

  pub text_is_refused : (text : List ℕ) (why : CoreError) → EditSpells text deltas
      → (why ≡ core.Memory) ⊎ IsRefused b.core delta why → IsMemory (Core why) ⊎ TextIsRefused b text (Core why)
  text_is_refused text why spelled refused = elim (refused_together why refused) [
    | inl memory ↦ inl memory
    | inr told ↦ inr (inr (deltas, spelled, told))
  ]

  -- ---- state files

  module _ (conn : Conn) (print bytes : List ℕ) (same_conn : conn ≡ b.core.conn)
      (same_print : print ≡ print_of (mask_of b)) (spelled : FileSpells conn print bytes deltas) where
    spelled_for : FileSpells b.core.conn (print_of (mask_of b)) bytes deltas
    spelled_for =
        subst (λ (c : Conn). FileSpells c (print_of (mask_of b)) bytes deltas) same_conn
        (subst (λ (p : List ℕ). FileSpells conn p bytes deltas) same_print spelled)

    pub file_is_taken : (new : PageBoard) → IsTaken b delta new → FileIsTaken b bytes new
    file_is_taken new taken = (deltas, spelled_for, taken_together new taken)

    pub file_is_refused : (why : CoreError) → (why ≡ core.Memory) ⊎ IsRefused b.core delta why
        → IsMemory (Core why) ⊎ FileIsRefused b bytes (Core why)
    file_is_refused why refused = elim (refused_together why refused) [
      | inl memory ↦ inl memory
      | inr told ↦ inr (inr (inr (deltas, spelled_for, told)))
    ]
