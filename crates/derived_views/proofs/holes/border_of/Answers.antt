use Rattle.std.proofs.Common.{◌≡◌, ◌*◌, replicate, subst, sym, rules, inl, inr}
use Rattle.derived_views.specs.Rasters.{IsPartOfBorder}
use Rattle.derived_views.proofs.Borders.{zeros_part, copies_both}
use Rattle.derived_views.proofs.holes.border_of.Goals as goal

pub copy_columns-requires : goal.copy_columns-requires
copy_columns-requires c =
    let zeros : c.in_ok-cells.cells.items ≡ replicate (c.width-w.result * c.height-h.result) 0 =
    c.in_ok-cells.ensures.items_if_clones_equal (λ y. search rules)
    in
    subst (λ r. IsPartOfBorder c.args.grid.now r) (sym c.from_cells-border.ensures)
    (zeros_part c.args.grid.now
    (record { width = c.width-w.result; height = c.height-h.result; cells = c.in_ok-cells.cells.items })
    c.width-w.ensures.value c.height-h.ensures.value zeros)

pub returns : goal.returns
returns c = record {
  part = c.copy_rows.ensures.part;
  border = λ p inside on.
      (copies_both c.copy_columns.ensures c.copy_rows.ensures).copied p inside (elim on [
        | inl left ↦ inl (inl left)
        | inr rest ↦ elim rest [ inl right ↦ inl (inr right) | inr row ↦ inr row ]
      ]);
}
