-- Which painting the parts of a stored one are, and what is true of each stored painting.
use Rattle.std.specs.Prelude.{◌≡◌, IsTrue, IfSome}
use Rattle.http_header.specs.FieldValue.{is_visible_text}
use Rattle.pgm_codec.specs.Writing.{raw_text}
use Rattle.page_board.specs.Board.{mask_of}
use Rattle.page_service.specs.Painting.{Painting, IsImageFile}
use Rattle.page_service.specs.declared.painting.Painting.TheInside.{Inside as Parts}

abbrev pub painting_of : Parts → Painting
painting_of parts = record {
  board = parts.board;
  port = parts.hosts;
  key = parts.key;
  name = parts.name;
  page = parts.page.now;
  policy = parts.policy.now;
  unkept = parts.unkept;
}

-- the policy may stand in a field, and files that were made are those of the board as it is
pub record IsStored (parts : Parts) : Type 0 where
  pub visible : IsTrue (is_visible_text parts.policy.now)
  pub mask : IfSome parts.mask (λ bytes. bytes ≡ raw_text (mask_of parts.board))
  pub image : IfSome parts.image (IsImageFile parts.board)
