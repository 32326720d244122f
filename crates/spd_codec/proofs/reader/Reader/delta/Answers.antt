use Rattle.std.proofs.Common.{ap, subst, sym, ◌∙◌, nat_cmp}
use Rattle.stroke_lattice.specs.State.{State, HasSomeStroke}
use Rattle.stroke_lattice.proofs.Shared.{nothing_has_no_stroke, nothing_has_no_tombstone}
use Rattle.spd_codec.specs.Reading.{strokes_at}
use Rattle.spd_codec.proofs.NewTags.{same_tombstones}
use Rattle.std.specs.FinSet as set
use Rattle.spd_codec.proofs.reader.Reader.delta.Goals as goal

pub strokes-requires : goal.strokes-requires
strokes-requires c = λ tag some. nothing_has_no_stroke tag some.0
    (subst (λ (s : State). HasSomeStroke s tag) c.in-Ok.ensures.value some).1

pub tombstones-requires : goal.tombstones-requires
tombstones-requires c = λ tag has. nothing_has_no_tombstone tag
    (ap (λ (s : set.FinSet nat_cmp). set.contains s tag) (sym (same_tombstones c.in-Ok.state
    (strokes_at c.args.version c.args.strokes c.args.self.now.rest.now)
    (c.strokes.new.state, c.strokes.new.self.rest.now)
    c.in_ok-strokes.ensures ∙ ap (λ (s : State). s.tombstones) c.in-Ok.ensures.value)) ∙ has)
