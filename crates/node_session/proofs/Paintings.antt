-- What a node's run makes of an input, and where it stops.
use Rattle.std.proofs.Common.{◌≡◌, ◌⊎◌, ℕ, List, sym, ap, ◌∙◌, subst, inl, inr}
use Rattle.grid_core.specs.{declared.conn.Conn.Conn, Raster.Raster}
use Rattle.pgm_codec.specs.{Graymap.Graymap, FirstFault.PgmFault, declared.error.PgmError.TheVariants.Device}
use Rattle.stroke_lattice.specs.{State.State, Pieces.pieces_of}
use Rattle.spd_codec.specs.StateFile.{SpellsFile, file_text, frames_of}
use Rattle.derived_views.specs.Shown.{IsShown}
use Rattle.core_rules.specs.Work.{Core}
use Rattle.reset_core.specs.Starting.{IsBegunWith}
use Rattle.view_session.specs.{Kept.print_of, Kept.IsGathered, Kept.FileSpells, declared.joining.Strokes.Strokes}
use Rattle.run_faults.specs.{RunError.IsReadingFault, RunError.IsTransferFault, declared.run_error.RunError.RunError}
use Rattle.view_session.proofs.KeptViews.{spells_pieces, no_kept_device}
use Rattle.link_nodes.specs.Links.{LinkSeen}
use Rattle.node_session.specs.{Given.HasGiven, Working.IsCoreOf, Working.IsShared}
use Rattle.node_session.specs.Shared.{IsImageShared, IsStrokesShared, NodeStops, StudioFails}

-- ---- a core begins

-- a core that begins with strokes has them
pub begins : (mask : Raster) (conn : Conn) (side first : ℕ) (state : State) (core : Core)
    → IsBegunWith mask conn side first state core → IsCoreOf mask conn state core
begins mask conn side first state core is = record {
  mask_is = ap (λ (c : Core). c.mask) is.core_is;
  conn_is = ap (λ (c : Core). c.conn) is.core_is;
  state_is = ap (λ (c : Core). c.state) is.core_is;
}

-- ---- the end

pub same_mask : (raster : Raster) (maxval : ℕ) (mask : Graymap) → raster ≡ mask.raster → maxval ≡ mask.maxval
    → record { raster = raster; maxval = maxval } ≡ mask
same_mask raster maxval mask same_raster same_maxval = rw (same_raster, same_maxval)

-- the strokes of a core, for the mask of this fingerprint
abbrev strokes_of : Core → List ℕ → Strokes
strokes_of core print = record {
  conn = core.conn;
  print = print;
  width = core.mask.width;
  height = core.mask.height;
  state = core.state;
}

-- a core that begins with what was gathered, is shared and settles
pub shown_behind : (conn : Conn) (old input : List ℕ) (mask : Graymap) (first : State) (print : List ℕ)
    (maxval ticks : ℕ) (link link' : LinkSeen) (begun shared quiet : Core) (image : Graymap) (strokes : Strokes)
    → print ≡ print_of mask → maxval ≡ mask.maxval → IsGathered conn old input mask first
    → IsCoreOf mask.raster conn first begun → IsShared conn print ticks link link' begun shared
    → IsCoreOf shared.mask shared.conn shared.state quiet
    → IsShown quiet.conn (record { raster = quiet.mask; maxval = maxval }) quiet.state image
    → strokes ≡ strokes_of quiet print
    → (given : List (List ℕ)) × HasGiven link link' given × IsStrokesShared conn old input given image strokes
shown_behind conn old input mask first print maxval ticks link link' begun shared quiet image strokes is_print is_maxval
    gathered begins goes ends is_shown is_strokes =
    let mask_is = ends.mask_is ∙ goes.mask ∙ begins.mask_is in
    let conn_is = ends.conn_is ∙ goes.conn_is ∙ begins.conn_is in
    let given = goes.given in (
      given,
      goes.gives,
      subst (λ (s : Strokes). IsStrokesShared conn old input given image s) (sym is_strokes) (record {
        mask = mask;
        are_for = record {
          conn_is = conn_is;
          print_is = is_print;
          width_is = ap (λ (r : Raster). r.width) mask_is;
          height_is = ap (λ (r : Raster). r.height) mask_is;
        };
        first = first;
        gathered = gathered;
        comes = rw (← is_print, ends.state_is, ← begins.state_is) goes.comes;
        shown =
            subst (λ (m : Graymap). IsShown conn m quiet.state image)
            (same_mask quiet.mask maxval mask mask_is is_maxval)
            (subst (λ (c : Conn). IsShown c (record { raster = quiet.mask; maxval = maxval }) quiet.state image) conn_is
            is_shown);
      }),
    )

-- the new bytes of a state file are those of the strokes
pub spelled_image : (conn : Conn) (old input : List ℕ) (given : List (List ℕ)) (image : Graymap) (strokes : Strokes)
    (new : List ℕ) → IsStrokesShared conn old input given image strokes
    → new ≡ file_text strokes.conn strokes.print (pieces_of 1400 strokes.state)
    → SpellsFile new (frames_of strokes.conn strokes.print (pieces_of 1400 strokes.state))
    → IsImageShared conn old input given strokes.state image new
spelled_image conn old input given image strokes new shared text spells =
    let pieces = pieces_of 1400 strokes.state in record {
      mask = shared.mask;
      first = shared.first;
      gathered = shared.gathered;
      comes = shared.comes;
      shown = shared.shown;
      new_is =
          subst (λ (p : List ℕ). new ≡ file_text conn p pieces) shared.are_for.print_is
          (subst (λ (c : Conn). new ≡ file_text c strokes.print pieces) shared.are_for.conn_is text);
      new_spelled =
          subst (λ (p : List ℕ). FileSpells conn p new pieces) shared.are_for.print_is
          (spells_pieces conn strokes.print new pieces
          (subst (λ (c : Conn). SpellsFile new (frames_of c strokes.print pieces)) shared.are_for.conn_is spells));
    }

-- ---- where a run stops

-- no failure of a studio is one of a device
no_studio_is_a_device : (hands : ℕ) (e : RunError) → StudioFails hands e → IsTransferFault e → ⊥
no_studio_is_a_device hands e (why, is, counts) device = cc

pub no_node_device : ((text : List ℕ) → PgmFault text Device → ⊥) → (conn : Conn) (hands : ℕ) (old input : List ℕ)
    (e : RunError) → IsTransferFault e → IsReadingFault e ⊎ NodeStops conn hands old input e → ⊥
no_node_device law conn hands old input e device (inl reading) =
    no_kept_device law conn old input e device (inl reading)
no_node_device law conn hands old input e device (inr (inl kept)) =
    no_kept_device law conn old input e device (inr kept)
no_node_device law conn hands old input e device (inr (inr (mask, first, gathered, fails))) =
    no_studio_is_a_device hands e fails device
