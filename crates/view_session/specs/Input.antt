-- How an input splits into edit text and an image file.
use Rattle.std.specs.Prelude.{◌≡◌, ℕ, ◌≤◌, ◌⊎◌, List, [], ◌∷◌, ◌++◌, length, codes}

-- no text, or lines that each end with LF
abbrev pub AreWholeLines : List ℕ → Type 0
AreWholeLines text = (text ≡ []) ⊎ ((front : List ℕ) × (text ≡ front ++ 10 ∷ []))

-- the line is exactly `image`, where a CR at its end does not count
abbrev pub IsImageLine : List ℕ → Type 0
IsImageLine line = (line ≡ codes "image") ⊎ (line ≡ codes "image" ++ 13 ∷ [])

-- an `image` line stands in the input: whole lines before it, and the image file after its LF
pub record HasImageLine (input edits file : List ℕ) : Type 0 where
  pub line : List ℕ
  pub is_image : IsImageLine line
  pub whole_lines : AreWholeLines edits
  pub parts : input ≡ edits ++ (line ++ 10 ∷ file)

-- the first `image` line splits the input
pub record IsSplit (input edits file : List ℕ) : Type 0 where
  pub has_line : HasImageLine input edits file
  pub first : (other_edits other_file : List ℕ) → HasImageLine input other_edits other_file → length edits ≤ length
      other_edits

-- no line of the input is an `image` line
abbrev pub HasNoImageLine : List ℕ → Type 0
HasNoImageLine input = (edits file : List ℕ) → HasImageLine input edits file → ⊥
