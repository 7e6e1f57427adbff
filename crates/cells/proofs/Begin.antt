-- The fresh lock: a fresh thread's numbers change nothing in it.
use Rattle.lock.proofs.Library.{ℕ, ◌+◌, ◌≤◌, ◌<◌, ◌≡◌, sym, ap, ◌∙◌, arith, get_or, set, replicate}
use Rattle.lock.proofs.Library.{set-get_or, get_or-replicate, get_or-set_other}
use Rattle.cells.specs.{Layout.{PC, NODE, ROUTE, BELOW, SEEN, FAILURES}}
use Rattle.cells.specs.View.{fresh_cells, fresh_thread_cells, with_thread_cells}

-- behind the mutex every number is 0, so that storing a 0 changes none
same_set : (i : ℕ) → 33 ≤ i → i < 512 → set fresh_cells i 0 ≡ fresh_cells
same_set i h l =
    let is : get_or fresh_cells i 0 ≡ 0 =
    get_or-set_other (replicate 512 0) 32 i 64 0 (λ e. omega arith) ∙ get_or-replicate 512 i 0 0 l in
    sym (ap (set fresh_cells i) is) ∙ set-get_or fresh_cells i 0

pub fresh-thread : (t : ℕ) → t < 64 → with_thread_cells fresh_cells t fresh_thread_cells ≡ fresh_cells
fresh-thread t h =
    rw (
      same_set (PC + t) (omega arith) (omega arith),
      same_set (NODE + t) (omega arith) (omega arith),
      same_set (ROUTE + t) (omega arith) (omega arith),
      same_set (BELOW + t) (omega arith) (omega arith),
      same_set (SEEN + t) (omega arith) (omega arith),
      same_set (FAILURES + t) (omega arith) (omega arith),
    )
