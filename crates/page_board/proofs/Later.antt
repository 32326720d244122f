-- Boards that are later than others.
use Rattle.std.proofs.Common.{◌≡◌, ℕ, ◌<◌, ◌⊎◌, inl, inr, refl, ◌∙◌, sym, subst, arith}
use Rattle.grid_core.specs.Tiles.{Tiles}
use Rattle.stroke_lattice.proofs.Joins.{below_itself, below_through}
use Rattle.core_rules.specs.{Shown.ShowsTheSame, Work.Core, Work.tiling, Work.IsTile, Hits.IsInTile}
use Rattle.page_board.specs.Board.{PageBoard, last_step, since_in, HasTurned}
use Rattle.page_board.specs.Later.{HasSameGround, HasSameStroke, IsNewsSince, IsLater}
use Rattle.page_board.proofs.Since.{since_falls, turned_after}

pub same_tiling : (a b : Core) → HasSameGround a b → tiling b ≡ tiling a
same_tiling a b same =
    λ i. record { width = (same.mask i).width; height = (same.mask i).height; side = same.side i }

pub each_is_later : (b : PageBoard) → IsLater b b
each_is_later b = record {
  run = refl;
  maxval = refl;
  ground = record { mask = refl; conn = refl; side = refl; count = refl };
  version = omega arith;
  step = omega arith;
  state = below_itself b.core.state;
  tiles = λ t is_tile. inl (λ p within. refl);
  strokes = λ tag. inl (λ seed. (λ live. live, λ live. live));
  rises = λ t. omega arith;
  keeps = λ news told. told;
}

-- what is later than something later
module _ (a b c : PageBoard) (ab : IsLater a b) (bc : IsLater b c) where
  ground : HasSameGround a.core c.core
  ground = record {
    mask = bc.ground.mask ∙ ab.ground.mask;
    conn = bc.ground.conn ∙ ab.ground.conn;
    side = bc.ground.side ∙ ab.ground.side;
    count = bc.ground.count ∙ ab.ground.count;
  }

  same_again : (t : ℕ) → ShowsTheSame a.core b.core t → ShowsTheSame b.core c.core t → ShowsTheSame a.core c.core t
  same_again t first second p within =
      second p (subst (λ (tiles : Tiles). IsInTile tiles t p) (sym (same_tiling a.core b.core ab.ground)) within)
      ∙ first p within

  news_still : (t : ℕ) → IsNewsSince b a.step t → IsNewsSince c a.step t
  news_still t news =
      omega (arith, since_falls b.step c.step a.step a.step last_step bc.step (omega arith), bc.rises t, news)

  news_now : (t : ℕ) → IsNewsSince c b.step t → IsNewsSince c a.step t
  news_now t news = omega (arith, since_falls c.step c.step a.step b.step last_step (omega arith) ab.step, news)

  tiles : (t : ℕ) → IsTile a.core t → ShowsTheSame a.core c.core t ⊎ IsNewsSince c a.step t
  tiles t is_tile = elim (bc.tiles t (subst (λ (n : ℕ). t < n) (sym ab.ground.count) is_tile)) [
    | inr news ↦ inr (news_now t news)
    | inl second ↦ elim (ab.tiles t is_tile) [
      | inr news ↦ inr (news_still t news)
      | inl first ↦ inl (same_again t first second)
    ]
  ]

  turned_still : (tag : ℕ) → HasTurned b (since_in b a.step) tag → HasTurned c (since_in c a.step) tag
  turned_still tag turned = record {
    news = turned.news;
    told = bc.keeps turned.news turned.told;
    later = omega
        (arith, since_falls b.step c.step a.step a.step last_step bc.step (omega arith), turned.later);
    turned = turned.turned;
  }

  strokes : (tag : ℕ) → HasSameStroke a.core.state c.core.state tag ⊎ HasTurned c (since_in c a.step) tag
  strokes tag = elim (bc.strokes tag) [
    | inr turned ↦ inr (turned_after c (since_in c a.step) (since_in c b.step) tag
        (since_falls c.step c.step a.step b.step last_step (omega arith) ab.step) turned)
    | inl second ↦ elim (ab.strokes tag) [
      | inr turned ↦ inr (turned_still tag turned)
      | inl first ↦ inl (λ seed. (
        λ live. (second seed).0 ((first seed).0 live),
        λ live. (first seed).1 ((second seed).1 live),
      ))
    ]
  ]

  pub later_goes_on : IsLater a c
  later_goes_on = record {
    run = bc.run ∙ ab.run;
    maxval = bc.maxval ∙ ab.maxval;
    ground = ground;
    version = omega (arith, ab.version, bc.version);
    step = omega (arith, ab.step, bc.step);
    state = below_through a.core.state b.core.state c.core.state ab.state bc.state;
    tiles = tiles;
    strokes = strokes;
    rises = λ t. omega (arith, ab.rises t, bc.rises t);
    keeps = λ news told. bc.keeps news (ab.keeps news told);
  }
