-- The ground of a board, its words as facts, and what a seat knows.
use Rattle.std.specs.Prelude.{◌%◌, ◌*◌, ◌+◌, ◌++◌, ◌/◌, Contains, [], replicate, ℕ, ◌∷◌}
use Rattle.grid_core.specs.{Path.Domain, Path.Reaches, Path.domain_of, declared.pixel.Pixel.Pixel}
use Rattle.grid_core.specs.Raster.{IsInside, Raster, index_of, value_at}
use Rattle.live_board.specs.{declared.fact.Fact.Fact, declared.rule.Ground.Ground, declared.rule.SeatView.SeatView}

-- the greatest generation, 2^48 - 1
abbrev pub max_generation : ℕ
max_generation = 281474976710655

-- the greatest number of pixels of a board, 2^20
abbrev pub max_board : ℕ
max_board = 1048576

-- the mask of a board, and where it is defined
abbrev pub mask_of : Ground → Raster
mask_of base = base.mask.raster

abbrev pub domain : Ground → Domain
domain base = domain_of (mask_of base) base.conn

-- the pixel lies on the board
abbrev pub IsOn : Ground → Pixel → Type 0
IsOn base p = IsInside (mask_of base).width (mask_of base).height p

-- how many pixels a board has
abbrev pub size_of : Ground → ℕ
size_of base = (mask_of base).width * (mask_of base).height

-- the word of a pixel; word 0 has the generation
abbrev pub place_of : Ground → Pixel → ℕ
place_of base p = index_of (mask_of base).width p + 1

-- on the board the pixel reaches the level from the marker
abbrev pub Supports : Ground → Raster → Pixel → ℕ → Type 0
Supports base marker p level = Reaches (domain base) (value_at (mask_of base)) (value_at marker) p level

-- a fact: the pixel had at least this value in the generation
abbrev pub fact : Pixel → ℕ → ℕ → Fact
fact p generation value = record { pixel = p; generation = generation; value = value }

-- the number that stands for a fact in the word of its pixel
abbrev pub number : Fact → ℕ
number f = f.generation * 65536 + f.value

-- the fact for which a number stands in the word of the pixel
abbrev pub fact_of : Pixel → ℕ → Fact
fact_of p n = fact p (n / 65536) (n % 65536)

-- an image of this size with 0 at each pixel
abbrev pub blank : Raster → Raster
blank r = record { width = r.width; height = r.height; cells = replicate (r.width * r.height) 0 }

-- the view of the keeper of a new board
abbrev pub beginner : Ground → SeatView
beginner base = record {
  generation = base.first;
  marker = blank (mask_of base);
  facts = [];
  steps = [];
}

-- a seat's view after a step on a word, where it found a number
abbrev pub after_step : SeatView → ℕ → ℕ → SeatView
after_step v word found = record v { steps = v.steps ++ (word, found) ∷ [] }

-- the same, where it left a fact
abbrev pub with_fact : SeatView → ℕ → ℕ → Fact → SeatView
with_fact v word found f = record (after_step v word found) { facts = v.facts ++ f ∷ [] }

-- a seat's view after a step on word 0 that taught it the generation found there
abbrev pub taught : SeatView → ℕ → SeatView
taught v found = record (after_step v 0 found) { generation = found / 65536 }

-- the keeper's view after a step on word 0 that brought a generation and a marker
abbrev pub begun : SeatView → ℕ → ℕ → Raster → SeatView
begun v found generation marker = record (after_step v 0 found) { generation = generation; marker = marker }

-- the view knows of each pixel of its marker that it has the marker's value
abbrev pub KnowsMarker : SeatView → Type 0
KnowsMarker v =
    (p : Pixel) → IsInside v.marker.width v.marker.height p
    → Contains v.facts (fact p v.generation (value_at v.marker p))

-- what stands for a marker and for a pixel where none is picked
abbrev pub no_marker : Raster
no_marker = record { width = 0; height = 0; cells = [] }

abbrev pub origin : Pixel
origin = record { x = 0; y = 0 }
