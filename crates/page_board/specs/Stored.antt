-- Which board the parts of a stored one are, and what is true of each stored board.
use Rattle.std.specs.Prelude.{◌≡◌, false, length, replicate}
use Rattle.view_session.specs.Kept.{print_of}
use Rattle.page_board.specs.Board.{PageBoard, mask_of, IsWhole}
use Rattle.page_board.specs.declared.board.PageBoard.TheInside.{Inside as Parts}

abbrev pub board_of : Parts → PageBoard
board_of parts = record {
  core = parts.core;
  maxval = parts.maxval;
  run = parts.run;
  version = parts.version;
  step = parts.step;
  shown = parts.shown.items;
  news = parts.news.items;
}

-- the board is whole, the fingerprint is that of its mask, and between calls no tile is marked
pub record IsStored (parts : Parts) : Type 0 where
  pub whole : IsWhole (board_of parts)
  pub print : parts.print ≡ print_of (mask_of (board_of parts))
  pub no_marks : parts.marks ≡ replicate (length parts.core.tiles) false
