-- Which deque of jobs an end is of, and which ring of reports, by the names that the kit gives them.
use Rattle.std.specs.Prelude.{ℕ}
use Rattle.rtrb.specs.{declared.producer.Producer.Producer, declared.consumer.Consumer.Consumer}
use Rattle.crossbeam_deque.specs.{declared.handles.Worker.Worker, declared.handles.Stealer.Stealer}
use Rattle.crossbeam_deque.specs.Handles.{worker_deque, stealer_deque}

-- which deque it is
abbrev pub DequeName : Type 0
DequeName = ℕ × ℕ

-- which ring it is: its places, and the names of its two ends
abbrev pub RingName : Type 0
RingName = ℕ × (ℕ × ℕ)

module _ {T A V P : Type 0} where
  -- the deque that the owner pushes into
  abbrev pub deque_of : Worker T A V P → DequeName
  deque_of worker = (worker_deque worker).0

  -- the deque that a hand steals from
  abbrev pub stolen_from : Stealer T A V P → DequeName
  stolen_from stealer = (stealer_deque stealer).0

module _ {T A P : Type 0} where
  -- the ring that a hand sends into
  abbrev pub sent_into : Producer T A P → RingName
  sent_into producer = producer.end.names

  -- the ring that the owner reads
  abbrev pub read_from : Consumer T A P → RingName
  read_from consumer = consumer.end.names
