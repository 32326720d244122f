-- A mask's file is refused as the input of a view is that has no strokes.
use Rattle.std.proofs.Common.{ℕ, List, [], inl, inr, refl, subst, arith}
use Rattle.grid_core.specs.declared.conn.Conn.{Conn}
use Rattle.stroke_lattice.specs.State.{State}
use Rattle.edit_lang.specs.{Edit.EditSpells, Edit.OneMeaning, Lines.cut_lines, Lines.lines_of}
use Rattle.view_session.specs.{Input.IsSplit, Kept.KeptIsRefused, Kept.OldIsRefused, View.FileIsRefusedBy}
use Rattle.view_session.specs.{View.PartsAreRefusedBy}
use Rattle.run_faults.specs.declared.run_error.RunError.{RunError}
use Rattle.view_session.proofs.Splits.{one_split, splits_or_not}
use Rattle.page_server.specs.Opening.{IsNotOpenedFrom, plain_input}

-- such an input splits behind its first line
plain_splits : (file : List ℕ) → IsSplit (plain_input file) [] file
plain_splits file = record {
  has_line = record { line = _; is_image = inl refl; whole_lines = inl refl; parts = refl };
  first = λ other_edits other_file has. omega arith;
}

-- and has no strokes
no_strokes : EditSpells [] []
unfolding lines_of cut_lines
no_strokes = refl

pub into_view : (conn : Conn) (old file : List ℕ) (e : RunError) → IsNotOpenedFrom conn old file e
    → KeptIsRefused conn old (plain_input file) e
into_view conn old file e refused = inr ([], file, plain_splits file, inr ([], no_strokes, refused))

parts_of_view : (law : OneMeaning) (conn : Conn) (old file : List ℕ) (e : RunError)
    → PartsAreRefusedBy (OldIsRefused conn old) [] file e → IsNotOpenedFrom conn old file e
parts_of_view law conn old file e (inl (fault, is, first)) = absurd (law.no_fault [] [] fault no_strokes first)
parts_of_view law conn old file e (inr (deltas, spelled, refused)) =
    subst (λ (ds : List State). FileIsRefusedBy (OldIsRefused conn old) file ds e)
    (law.one_list [] deltas [] spelled no_strokes) refused

pub out_of_view : (law : OneMeaning) (conn : Conn) (old file : List ℕ) (e : RunError)
    → KeptIsRefused conn old (plain_input file) e → IsNotOpenedFrom conn old file e
out_of_view law conn old file e (inl (is, none)) = absurd (splits_or_not _ [] file none (plain_splits file))
out_of_view law conn old file e (inr (edits, other, split, parts)) =
    let same = one_split (plain_input file) edits other [] file split (plain_splits file) in
    parts_of_view law conn old file e
    (subst (λ (f : List ℕ). PartsAreRefusedBy (OldIsRefused conn old) [] f e) same.1
    (subst (λ (t : List ℕ). PartsAreRefusedBy (OldIsRefused conn old) t other e) same.0 parts))
