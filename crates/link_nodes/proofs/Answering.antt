-- Frames that are for the node's image, or not, and datagrams that are refused.
use Rattle.std.proofs.Common.{◌≡◌, ◌⊎◌, ℕ, ◌<◌, ◌≤◌, List, length, Err, IsErrOf, ap, subst, inl, inr}
use Rattle.std.proofs.{Common.arith, Common.length-take, lemmas.Bool.cases_lt}
use Rattle.grid_core.specs.declared.conn.Conn.{Conn}
use Rattle.stroke_lattice.specs.State.{State}
use Rattle.spd_codec.specs.{declared.frame.Frame.Frame, declared.error.SpdError.SpdError}
use Rattle.spd_codec.specs.{Spelling.Spells, Spelling.SpellsFrame, Spelling.max_bytes}
use Rattle.spd_codec.specs.Faults.{IsFault, too_long, in_frame}
use Rattle.spd_codec.specs.declared.error.SpdError.TheVariants as faults
use Rattle.link_nodes.specs.{declared.link.TheConstants.BUFFER_BYTES, declared.ticked.Heard.Heard}
use Rattle.link_nodes.specs.{MemoryLinks.front_of, Hearing.IsFor, Hearing.IsAnswer}
use Rattle.link_nodes.specs.declared.error.NodeError.TheVariants as errors
use Rattle.link_nodes.specs.declared.ticked.Heard.TheVariants as heards

-- what spells a frame for the image of this fingerprint, with these neighbours, spells its strokes for that image
pub for_this : (datagram : List ℕ) (frame : Frame) (conn : Conn) (print : List ℕ) → SpellsFrame datagram frame
    → IsFor conn print frame → Spells datagram conn print frame.delta
for_this datagram frame conn print spells same =
    subst (λ (c : Conn). Spells datagram c print frame.delta) same.0
    (subst (λ (p : List ℕ). Spells datagram frame.conn p frame.delta) same.1 spells)

-- ---- refusals

pub refused_for : (datagram : List ℕ) (e : SpdError)
    → (max_bytes < length datagram → IsErrOf {T = Frame} (Err e) faults.TooLong)
    → (e ≡ faults.Memory) ⊎ IsFault datagram e
    → ((e ≡ faults.Memory) × (length datagram ≤ max_bytes)) ⊎ IsFault datagram e
refused_for datagram e long (inl memory) = elim (cases_lt max_bytes (length datagram)) [
  | inl more ↦ let is = long more in absurd cc
  | inr within ↦ inl (memory, within)
]
refused_for datagram e long (inr fault) = inr fault

-- ---- what is too long

fault_of_long : (bytes : List ℕ) (e : SpdError) → max_bytes < length bytes → IsFault bytes e → e ≡ faults.TooLong
fault_of_long bytes e long (too_long more is) = is
fault_of_long bytes e long (in_frame within fault) = absurd (omega (arith, long, within))

none_fits : (bytes : List ℕ) → max_bytes < length bytes → length bytes ≤ max_bytes → ⊥
none_fits bytes long within = omega (arith, long, within)

long_is_refused : (conn : Conn) (print : List ℕ) (before after : List State) (bytes : List ℕ) (heard : Heard)
    → max_bytes < length bytes → IsAnswer conn print before after bytes heard
    → heard ≡ heards.Refused (errors.Spd faults.TooLong)
long_is_refused conn print before after bytes heards.Nothing long none = absurd none
long_is_refused conn print before after bytes heards.Submitted long (delta, spells, adds) =
    absurd (none_fits bytes long spells.within)
long_is_refused conn print before after bytes heards.Full long (delta, spells, full, same) =
    absurd (none_fits bytes long spells.within)
long_is_refused conn print before after bytes (heards.Refused errors.OtherMask) long ((frame, spells, other), same) =
    absurd (none_fits bytes long spells.within)
long_is_refused conn print before after bytes (heards.Refused (errors.Spd fault)) long (is, same) =
    ap (λ (e : SpdError). heards.Refused (errors.Spd e)) (fault_of_long bytes fault long is)
long_is_refused conn print before after bytes (heards.Refused errors.Device) long (none, same) = absurd none
long_is_refused conn print before after bytes (heards.Refused errors.Memory) long (within, same) =
    absurd (none_fits bytes long within)

pub long_front_is_refused : (conn : Conn) (print : List ℕ) (before after : List State) (datagram : List ℕ)
    (heard : Heard) → max_bytes < length datagram → IsAnswer conn print before after (front_of datagram) heard
    → heard ≡ heards.Refused (errors.Spd faults.TooLong)
long_front_is_refused conn print before after datagram heard long =
    long_is_refused conn print before after (front_of datagram) heard
    (omega (arith, long, length-take BUFFER_BYTES datagram))
