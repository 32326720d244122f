-- What stands behind a page: a board, the port and the key by which it is asked, the field that tells how the mask's
-- file is called, where it is told, the page, its content security policy, and why what it has is not kept, where it is
-- not.
use Rattle.std.specs.Prelude.{◌≡◌, ℕ, List, Option, refl}
use Rattle.std.specs.Coded.{Coded, code_by, coded×, coded_ℕ, coded_list, coded_option}
use Rattle.stroke_core.specs.Seed.{Seed}
use Rattle.pgm_codec.specs.Writing.{raw_text}
use Rattle.core_rules.specs.{Work.IsQuiet, Invariant.HasLawfulImage, Invariant.HasReconstruction}
use Rattle.view_session.specs.Kept.{kept_text}
use Rattle.run_faults.specs.declared.run_error.RunError.{RunError}
use Rattle.page_board.specs.Board.{PageBoard, board_code, mask_of, image_of}

pub record Painting : Type 0 where
  pub board : PageBoard
  pub port : ℕ
  pub key : List ℕ
  pub name : Option (List ℕ)
  pub page : List ℕ
  pub policy : List ℕ
  pub unkept : Option RunError

-- the bytes are the raw file of the image as it is, which lies between the marker of the strokes and the reconstruction
-- of the mask from it, and where no work is left is that reconstruction
pub record IsImageFile (b : PageBoard) (bytes : List ℕ) : Type 0 where
  pub spelled : bytes ≡ raw_text (image_of b)
  pub lawful : HasLawfulImage b.core
  pub quiet : IsQuiet b.core → HasReconstruction b.core

-- the bytes of a state file that keeps the strokes and tombstones of the board
abbrev pub state_text : PageBoard → List ℕ
state_text b = kept_text b.core.conn (mask_of b) b.core.state

-- a painting is stored as the parts of its record
abbrev pub painting_code : Coded Seed → Coded RunError → Coded Painting
painting_code seed_code fault_code =
    code_by (PageBoard × (ℕ × (List ℕ × (Option (List ℕ) × (List ℕ × (List ℕ × Option RunError))))))
    (coded× (board_code seed_code) (coded× coded_ℕ (coded× (coded_list coded_ℕ)
    (coded× (coded_option (coded_list coded_ℕ)) (coded× (coded_list coded_ℕ) (coded× (coded_list coded_ℕ)
    (coded_option fault_code)))))))
    (λ p. (p.board, (p.port, (p.key, (p.name, (p.page, (p.policy, p.unkept)))))))
    (λ q. record {
      board = q.0;
      port = q.1.0;
      key = q.1.1.0;
      name = q.1.1.1.0;
      page = q.1.1.1.1.0;
      policy = q.1.1.1.1.1.0;
      unkept = q.1.1.1.1.1.1;
    }) (λ _. refl)
