-- Document 02, Five: "Joining, taking a group and every later operation keep it equal to the number of writers queued."
use Rattle.std.specs.Prelude.{◌≡◌, length}
use Rattle.lock.specs.State.{State}

abbrev pub Tallied : State → Type 0
Tallied s = s.queue.waiting ≡ length s.queue.writers
