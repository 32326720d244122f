-- The history of what was announced and confirmed: which chain it tells, its rule, and what a step tells.
use Rattle.std.specs.Prelude.{◌≡◌, ◌==◌, ℕ, true, List, [], ◌∷◌, ◌++◌, length, Option, Some, None, MatchBool}
use Rattle.logbook.specs.Pages.{Cell, Step, View, Book, Named}
use Rattle.studio.specs.{declared.shots.history.Entry.Entry, Shots.Shot}
use Rattle.studio.specs.declared.shots.history.Entry.TheVariants.{Announced, Confirmed}

-- the shots that the history confirms, where this one is announced. A shot that is announced over another that was not
-- confirmed takes its place
abbrev pub confirmed_from : Option Shot → List Entry → List Shot
confirmed_from p [] = []
confirmed_from p (Announced s ∷ log) = confirmed_from (Some s) log
confirmed_from None (Confirmed ∷ log) = confirmed_from None log
confirmed_from (Some s) (Confirmed ∷ log) = s ∷ confirmed_from None log

-- the shots that the history confirms
abbrev pub confirmed : List Entry → List Shot
confirmed log = confirmed_from None log

-- the shots that the history confirms, and then the one that is announced, if any
abbrev pub whole : List Entry → List Shot
whole log = confirmed (log ++ Confirmed ∷ [])

-- the rule of the history: its first word is its length. A history has two words, of which the second stays 0
abbrev pub IsCounted : List Cell → List Entry → Type 0
IsCounted cells log = cells ≡ (length log, true) ∷ (0, true) ∷ []

-- the first word of a history
abbrev pub head_of : Book → Named
head_of b = record { tracked = true; key = 0; book = b }

-- the entry was added to all that had been seen; or the history was longer than that
abbrev pub Adds : Step Entry → View Entry ℕ → ℕ → View Entry ℕ → Type 0
Adds s v found w = MatchBool (found == s.old) (w.0 ≡ v.0 ++ s.ask ∷ []) (length w.0 ≡ found)
