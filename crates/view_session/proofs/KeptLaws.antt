-- An input has one view over the old bytes of a state file, which leaves one file; it is refused for one reason, and
-- then has no view.
use Rattle.std.proofs.Common.{◌≡◌, ℕ, List, ◌++◌, sym, ap, ◌∙◌, subst, inl, inr, All}
use Rattle.grid_core.specs.declared.conn.Conn.{Conn}
use Rattle.pgm_codec.specs.{Graymap.Graymap, Writing.raw_text}
use Rattle.stroke_lattice.specs.State.{State, IsJoinOf}
use Rattle.spd_codec.specs.{declared.frame.Frame.Frame, declared.error.SpdError.SpdError}
use Rattle.view_session.specs.Kept.{print_of, deltas_of, kept_text, IsFrameFor, FileSpells, FileIsOfAnother}
use Rattle.view_session.specs.Kept.{IsImageKept, IsKeptView, KeptIsRefused, OldIsRefused}
use Rattle.view_session.specs.View.{DeltasAreRefused}
use Rattle.view_session.specs.LowerLaws.{FileLaws, ImageLaws, ReadingLaws, JoinLaw}
use Rattle.derived_views.specs.Shown.{IsShown}
use Rattle.run_faults.specs.{declared.run_error.RunError.RunError, declared.run_error.RunError.TheVariants.Spd}
use Rattle.view_session.proofs.{Shown.one_shown, Shown.one_spelling, Refusals.OneReason, Refusals.one_for_input}
use Rattle.view_session.proofs.{Refusals.one_for_deltas, Refusals.merged_or_refused, Refusals.spelled_or_refused}

-- the bytes of a state file spell one list of deltas for an image
one_kept : FileLaws → (conn : Conn) (print old : List ℕ) (kept others : List State) → FileSpells conn print old kept
    → FileSpells conn print old others → kept ≡ others
one_kept files conn print old kept others first second =
    first.deltas ∙ ap (λ (frames : List Frame). deltas_of frames)
    (files.one_file old first.frames second.frames first.spelled second.spelled) ∙ sym second.deltas

-- and not both for this image and for another
for_this_or_another : FileLaws → (conn : Conn) (print old : List ℕ) (kept : List State)
    → FileSpells conn print old kept → FileIsOfAnother conn print old → ⊥
for_this_or_another files conn print old kept this another =
    another.not_all_for (subst (λ (frames : List Frame). All (IsFrameFor conn print) frames)
    (files.one_file old this.frames another.frames this.spelled another.spelled) this.all_for)

-- ---- one view

module _ (images : ImageLaws) (reading : ReadingLaws) (joins : JoinLaw) (files : FileLaws) where
  one_kept_image : (conn : Conn) (old input : List ℕ) (s t : State) (image other : Graymap) (m n : List ℕ)
      → IsImageKept conn old input s image m → IsImageKept conn old input t other n → (image ≡ other) × (m ≡ n)
  one_kept_image conn old input s t image other m n v w =
      let same = one_spelling images reading joins input v.mask w.mask v.deltas w.deltas v.spelled w.spelled in
      let first : FileSpells conn (print_of w.mask) old v.kept = subst
      (λ (g : Graymap). FileSpells conn (print_of g) old v.kept) same.0 v.old_spelled in
      let kept = one_kept files conn (print_of w.mask) old v.kept w.kept first w.old_spelled in
      let join : IsJoinOf (w.kept ++ w.deltas) s = subst (λ (ks : List State). IsJoinOf (ks ++ w.deltas) s) kept
      (subst (λ (ds : List State). IsJoinOf (v.kept ++ ds) s) same.1 v.merged.join) in
      let state : s ≡ t = joins (w.kept ++ w.deltas) s t join w.merged.join in
      let shown : IsShown conn w.mask t image = subst (λ r. IsShown conn w.mask r image) state
      (subst (λ g. IsShown conn g s image) same.0 v.shown) in (
        one_shown images conn w.mask t image other shown w.shown,
        v.new_is ∙ ap (λ (g : Graymap). kept_text conn g s) same.0 ∙ ap (λ (r : State). kept_text conn w.mask r) state ∙
            sym w.new_is,
      )

  pub one_kept_view : (conn : Conn) (old input a b m n : List ℕ) → IsKeptView conn old input a m
      → IsKeptView conn old input b n → a ≡ b
  one_kept_view conn old input a b m n (s, image, v, spelled) (t, other, w, again) =
      spelled ∙ ap raw_text (one_kept_image conn old input s t image other m n v w).0 ∙ sym again

  pub one_kept_file : (conn : Conn) (old input a b m n : List ℕ) → IsKeptView conn old input a m
      → IsKeptView conn old input b n → m ≡ n
  one_kept_file conn old input a b m n (s, image, v, spelled) (t, other, w, again) =
      (one_kept_image conn old input s t image other m n v w).1

-- ---- one refusal

-- of the old bytes and the deltas there is one reason
one_over : FileLaws → JoinLaw → (conn : Conn) (old : List ℕ) → OneReason (OldIsRefused conn old)
one_over files joins conn old deltas mask d e (inl (a, is, first)) (inl (b, also, second)) =
    is ∙ ap (λ (c : SpdError). Spd c) (files.one_fault old a b first second) ∙ sym also
one_over files joins conn old deltas mask d e (inl (a, is, fault)) (inr (inl (also, another))) =
    absurd (files.no_fault old another.frames a another.spelled fault)
one_over files joins conn old deltas mask d e (inl (a, is, fault)) (inr (inr (kept, this, refused))) =
    absurd (files.no_fault old this.frames a this.spelled fault)
one_over files joins conn old deltas mask d e (inr (inl (is, another))) (inl (b, also, fault)) =
    absurd (files.no_fault old another.frames b another.spelled fault)
one_over files joins conn old deltas mask d e (inr (inl (is, another))) (inr (inl (also, again))) = is ∙ sym also
one_over files joins conn old deltas mask d e (inr (inl (is, another))) (inr (inr (kept, this, refused))) =
    absurd (for_this_or_another files conn (print_of mask) old kept this another)
one_over files joins conn old deltas mask d e (inr (inr (kept, this, refused))) (inl (b, also, fault)) =
    absurd (files.no_fault old this.frames b this.spelled fault)
one_over files joins conn old deltas mask d e (inr (inr (kept, this, refused))) (inr (inl (also, another))) =
    absurd (for_this_or_another files conn (print_of mask) old kept this another)
one_over files joins conn old deltas mask d e (inr (inr (kept, this, refused))) (inr (inr (others, again, later))) =
    one_for_deltas joins (others ++ deltas) mask d e
    (subst (λ (ks : List State). DeltasAreRefused (ks ++ deltas) mask d)
    (one_kept files conn (print_of mask) old kept others this again) refused) later

pub one_kept_refusal : ReadingLaws → FileLaws → JoinLaw → (conn : Conn) (old input : List ℕ) (d e : RunError)
    → KeptIsRefused conn old input d → KeptIsRefused conn old input e → d ≡ e
one_kept_refusal reading files joins conn old input d e first second =
    one_for_input reading (OldIsRefused conn old) (one_over files joins conn old) input d e first second

-- ---- no view

-- old bytes with which the deltas are merged are no reason
accepted_over : FileLaws → (conn : Conn) (old input : List ℕ) (state : State) (image : Graymap) (new : List ℕ)
    (e : RunError) → (v : IsImageKept conn old input state image new) → OldIsRefused conn old v.deltas v.mask e → ⊥
accepted_over files conn old input state image new e v (inl (c, is, fault)) =
    files.no_fault old v.old_spelled.frames c v.old_spelled.spelled fault
accepted_over files conn old input state image new e v (inr (inl (is, another))) =
    for_this_or_another files conn (print_of v.mask) old v.kept v.old_spelled another
accepted_over files conn old input state image new e v (inr (inr (kept, this, refused))) =
    merged_or_refused (v.kept ++ v.deltas) v.mask state e v.merged
    (subst (λ (ks : List State). DeltasAreRefused (ks ++ v.deltas) v.mask e)
    (one_kept files conn (print_of v.mask) old kept v.kept this v.old_spelled) refused)

pub no_kept_view_of_a_refused_input : ReadingLaws → FileLaws
    → (conn : Conn) (old input text new : List ℕ) (e : RunError)
    → IsKeptView conn old input text new → KeptIsRefused conn old input e → ⊥
no_kept_view_of_a_refused_input reading files conn old input text new e (state, image, v, spelled) refused =
    spelled_or_refused reading (OldIsRefused conn old) input v.mask v.deltas e v.spelled
    (accepted_over files conn old input state image new e v) refused
