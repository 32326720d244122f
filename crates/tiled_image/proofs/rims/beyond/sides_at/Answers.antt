-- What the tactics leave open of `sides_at`.
use Rattle.tiled_image.proofs.rims.beyond.sides_at.Goals as goal

pub returns-clause-values : goal.returns-clause-values
returns-clause-values c whole mask value image rims_are limits_are has raised same = record {
  above = c.side_at.ensures.values whole mask value image rims_are limits_are has raised same;
  below = c.side_at-2.ensures.values whole mask value image rims_are limits_are has raised same;
  left = c.side_at-3.ensures.values whole mask value image rims_are limits_are has raised same;
  right = c.side_at-4.ensures.values whole mask value image rims_are limits_are has raised same;
}
