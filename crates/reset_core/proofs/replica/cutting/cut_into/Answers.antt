use Rattle.std.proofs.Common.{◌≡◌, ℕ, ◌+◌, ◌∷◌, ◌++◌, List, [], length, sym, ap, ◌∙◌, subst, arith}
use Rattle.std.proofs.lemmas.List.{length_push}
use Rattle.grid_core.specs.{declared.bounds.Bounds.Bounds, declared.conn.Conn.Conn, Tiles.Tiles, Tiles.rows_of}
use Rattle.border_queues.specs.TileWork.{TileWork}
use Rattle.reset_core.specs.declared.replica.bands.Band.{Band}
use Rattle.reset_core.specs.BandParts.{AreBandsCut, IsBandCut}
use Rattle.reset_core.proofs.Bands.Cuts.{one_more_cut}
use Rattle.reset_core.proofs.replica.cutting.cut_into.Goals as goal
use Rattle.reset_core.proofs.replica.cutting.cut_into.Goals.{then-above-below+then-below-rows+in_ok-band+in_ok-push}
use Rattle.reset_core.proofs.replica.cutting.cut_into.Goals.{else-above-below}

-- once one band more is cut out and put behind the others
cut_more : (tiles : Tiles) (conn : Conn) (limit : ℕ) (works : List TileWork) (table : List Bounds) (bands : List Band)
    (below : ℕ) (band : Band) (new : List Band) (end : ℕ) → AreBandsCut tiles conn limit works table 0 bands below
    → IsBandCut tiles conn limit works table below band → below + rows_of band.tiling ≡ end
    → new ≡ bands ++ band ∷ [] → AreBandsCut tiles conn limit works table 0 new end
cut_more tiles conn limit works table bands below band new end so_far one rows is =
    subst (λ l. AreBandsCut tiles conn limit works table 0 l end) (sym is)
    (one_more_cut tiles conn limit works table 0 bands below band end so_far one rows)

pub loop-below-preserved : goal.loop-below-preserved
loop-below-preserved c = elim c.if-above-below.branch [
  | then-above-below+then-below-rows+in_ok-band+in_ok-push w ↦
      let so_far = c.loop-below.invariant in
      let items = ap (λ v. v.items) w.bands-is ∙ w.in_ok-push.ensures.items in
      record {
        cut =
            cut_more c.args.tiling.now c.args.conn c.args.limit c.args.work.now c.args.bounds.now
            c.loop-below.bands.items c.loop-below.above w.in_ok-band.band c.if-above-below.bands.items
            c.if-above-below.above so_far.cut w.in_ok-band.ensures.cut (w.in_ok-band.ensures.rows ∙ sym w.above-is)
            items;
        within = omega (arith, w.if-below-rows.true, w.above-is, c.rows_of-rows.ensures);
        few =
            omega (
              arith,
              ap length items,
              length_push c.loop-below.bands.items w.in_ok-band.band,
              so_far.few,
            );
      }
  | else-above-below w ↦
      let so_far = c.loop-below.invariant in
      let items = ap (λ v. v.items) w.bands-is in
      record {
        cut =
            subst (λ n. AreBandsCut c.args.tiling.now c.args.conn c.args.limit c.args.work.now c.args.bounds.now 0
            c.if-above-below.bands.items n) (sym w.above-is)
            (subst (λ l. AreBandsCut c.args.tiling.now c.args.conn c.args.limit c.args.work.now c.args.bounds.now 0 l
            c.loop-below.above) (sym items) so_far.cut);
        within = omega (arith, so_far.within, w.above-is);
        few = omega (arith, ap length items, so_far.few);
      }
]

pub returns-clause-cut : goal.returns-clause-cut
returns-clause-cut c =
    cut_more c.args.tiling.now c.args.conn c.args.limit c.args.work.now c.args.bounds.now c.loop-below.bands.items
    c.loop-below.above c.in_ok-band-2.band c.push-2.new.self.items (rows_of c.args.tiling.now)
    c.loop-below.invariant.cut c.in_ok-band-2.ensures.cut (c.in_ok-band-2.ensures.rows ∙ c.rows_of-rows.ensures)
    c.in_ok-push-2.ensures.items
