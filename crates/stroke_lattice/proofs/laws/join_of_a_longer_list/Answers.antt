use Rattle.stroke_lattice.proofs.Joins.{longer_from_join, join_from_longer}
use Rattle.stroke_lattice.proofs.laws.join_of_a_longer_list.Goals as goal

pub returns : goal.returns
returns c = λ states s delta join is_s.
    (join_from_longer states s delta join is_s, longer_from_join states s delta join is_s)
