-- What contracts say of nodes.
use Rattle.std.specs.Prelude.{◌≡◌, ℕ, List, Option}
use Rattle.logbook.specs.Pages.{Book}
use Rattle.grid_core.specs.declared.conn.Conn.{Conn}
use Rattle.stroke_lattice.specs.State.{State}
use Rattle.core_dispatch.specs.{declared.pen.Pen.Pen, Pens.submitted, Pens.KeepsDesk}
use Rattle.studio.specs.{declared.shots.eye.Eye.Eye, Shots.Shot, Words.seen_by, Words.learnt_by, Words.eye_studio}
use Rattle.link_nodes.specs.declared.node.Node.{Node}

-- the pen through which it submits, and the eye by which it looks
abbrev pub pen_of : Node → Pen
pen_of n = n.pen

abbrev pub eye_of : Node → Eye
eye_of n = n.sight.eye

-- the image that it paints: which pixels are neighbours, and the fingerprint
abbrev pub conn_of : Node → Conn
conn_of n = n.conn

abbrev pub print_of : Node → List ℕ
print_of n = n.print

-- the number of the piece that it sent last, if it sent one
abbrev pub last_sent : Node → Option ℕ
last_sent n = n.last

-- how many of its looks gave no glimpse
abbrev pub vain_looks : Node → ℕ
vain_looks n = n.sight.vain

-- the edits that its pen submitted, oldest first
abbrev pub submitted_by : Node → List State
submitted_by n = submitted (pen_of n)

-- the chain that its eye saw, and the longest that it was told of
abbrev pub chain_seen : Node → List Shot
chain_seen n = seen_by (eye_of n)

abbrev pub chain_learnt : Node → List Shot
chain_learnt n = learnt_by (eye_of n)

-- the studio that it is of
abbrev pub node_studio : Node → Book
node_studio n = eye_studio (eye_of n)

-- it paints the same image, and its pen and its eye are of the same studio
pub record IsSameNode (old new : Node) : Type 0 where
  pub conn : conn_of new ≡ conn_of old
  pub print : print_of new ≡ print_of old
  pub desk : KeepsDesk (pen_of old) (pen_of new)
  pub studio : node_studio new ≡ node_studio old
