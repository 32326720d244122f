-- Which faults a text can have: want of memory and a device's failure are none of them.
use Rattle.std.proofs.Common.{◌≡◌, ℕ, List, Option, Some, inl, inr, arith}
use Rattle.pgm_codec.specs.{declared.error.PgmError.PgmError, declared.grammar.Encoding.Encoding}
use Rattle.pgm_codec.specs.declared.error.PgmError.TheVariants.{Memory, Device}
use Rattle.pgm_codec.specs.declared.grammar.Encoding.TheVariants.{Plain, Raw}
use Rattle.pgm_codec.specs.Spelling.{width_fault, height_fault, maxval_fault}
use Rattle.pgm_codec.specs.FirstFault.{MagicFault, FieldFault, GoodFieldFault, SampleFault, EndFault, RasterFault}
use Rattle.pgm_codec.specs.FirstFault.{PgmFault, in_magic, in_width, in_height, in_maxval, in_raster}

-- a fault that a text can have
abbrev pub IsOfText : PgmError → Type 0
IsOfText Memory = ⊥
IsOfText Device = ⊥
IsOfText _ = Unit {0}

magic_kind : (text : List ℕ) (e : PgmError) → MagicFault text e → IsOfText e
magic_kind text Memory f = f
magic_kind text Device f = f
magic_kind text _ f = tt

spelling_kind : (text : List ℕ) (e : PgmError) → FieldFault text e → IsOfText e
spelling_kind text Memory f = f
spelling_kind text Device f = f
spelling_kind text _ f = tt

field_kind : (fault : ℕ → Option PgmError) → ((n : ℕ) (e : PgmError) → fault n ≡ Some e → IsOfText e)
    → (text : List ℕ) (e : PgmError)
    → GoodFieldFault fault text e → IsOfText e
field_kind fault kind text e (inl f) = spelling_kind text e f
field_kind fault kind text e (inr (n, rest, h, f)) = kind n e f

width_kind : (n : ℕ) (e : PgmError) → width_fault n ≡ Some e → IsOfText e
width_kind n Memory f = grind arith
width_kind n Device f = grind arith
width_kind n _ f = tt

height_kind : (w n : ℕ) (e : PgmError) → height_fault w n ≡ Some e → IsOfText e
height_kind w n Memory f = grind arith
height_kind w n Device f = grind arith
height_kind w n _ f = tt

maxval_kind : (n : ℕ) (e : PgmError) → maxval_fault n ≡ Some e → IsOfText e
maxval_kind n Memory f = grind arith
maxval_kind n Device f = grind arith
maxval_kind n _ f = tt

sample_kind : (k : Encoding) (m : ℕ) (text : List ℕ) (e : PgmError) → SampleFault k m text e → IsOfText e
sample_kind Plain m text Memory f = f
sample_kind Raw m text Memory f = f
sample_kind Plain m text Device f = f
sample_kind Raw m text Device f = f
sample_kind _ m text _ f = tt

end_kind : (k : Encoding) (text : List ℕ) (e : PgmError) → EndFault k text e → IsOfText e
end_kind Plain text Memory f = f
end_kind Raw text Memory f = f
end_kind Plain text Device f = f
end_kind Raw text Device f = f
end_kind _ text _ f = tt

raster_kind : (k : Encoding) (m count : ℕ) (text : List ℕ) (e : PgmError) → RasterFault k m count text e → IsOfText e
raster_kind k m count text e (ss, rest, all, inl (lt, f)) = sample_kind k m rest e f
raster_kind k m count text e (ss, rest, all, inr (len, f)) = end_kind k rest e f

-- the fault of a text is one that a text can have
pub fault_kind : (text : List ℕ) (e : PgmError) → PgmFault text e → IsOfText e
fault_kind text e (in_magic f) = magic_kind text e f
fault_kind text e (in_width k a ha f) = field_kind width_fault width_kind a e f
fault_kind text e (in_height k a b w ha hw f) = field_kind (height_fault w) (height_kind w) b e f
fault_kind text e (in_maxval k a b c w h ha hw hh f) = field_kind maxval_fault maxval_kind c e f
fault_kind text e (in_raster k rest w h m head f) = raster_kind k m _ rest e f
