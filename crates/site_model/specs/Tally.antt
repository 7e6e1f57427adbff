-- What a site's run costs, event by event.
use Rattle.std.specs.Prelude.{ℕ, ◌+◌, Bool, not, eqb, leb, ltb}
use Rattle.std.specs.Prelude.{if◌then◌else◌}
use Rattle.lock.specs.declared.Entry.{Entry}
use Rattle.lock.specs.Demand.{one, is_failure}
pub use Rattle.site_model.specs.declared.Waits.{Waits}
pub use Rattle.site_model.specs.declared.Tally.{Tally}

abbrev pub no_waits : Waits
no_waits = record { got = 0; waited = 0; longest = 0 }

abbrev pub nothing : Tally
nothing =
    record {
      passed = 0;
      holding = 0;
      thinking = 0;
      rows = 0;
      failed = 0;
      root = 0;
      held = 0;
      finished = 0;
      writers = no_waits;
      readers = no_waits;
    }

-- ---- turns

-- a turn that is passed over
abbrev pub passed_over : Tally → Tally
passed_over y =
    record {
      passed = y.passed + 1;
      holding = y.holding;
      thinking = y.thinking;
      rows = y.rows;
      failed = y.failed;
      root = y.root;
      held = y.held;
      finished = y.finished;
      writers = y.writers;
      readers = y.readers;
    }

-- a turn that is spent by a thread which holds the lock, or else thinks
abbrev pub spent : Bool → Tally → Tally
spent holds y =
    record {
      passed = y.passed;
      holding = y.holding + one holds;
      thinking = y.thinking + one (not holds);
      rows = y.rows;
      failed = y.failed;
      root = y.root;
      held = y.held;
      finished = y.finished;
      writers = y.writers;
      readers = y.readers;
    }

-- ---- rows

-- a row counts once for each of n threads that wait for a lock when it is made
abbrev pub waited_for : ℕ → Waits → Waits
waited_for n w = record { got = w.got; waited = w.waited + n; longest = w.longest }

-- word 0 is "the root"; kind 4 is "held up"
abbrev pub is_on_root : Entry → Bool
is_on_root e = eqb e.word 0

abbrev pub is_held_up : Entry → Bool
is_held_up e = eqb e.kind 4

-- a row with this entry, made while so many threads wait for a write-lock and so many for a read-lock; "a failure [is]
-- one of kind 3"
abbrev pub row_made : Entry → ℕ → ℕ → Tally → Tally
row_made e writers readers y =
    record {
      passed = y.passed;
      holding = y.holding;
      thinking = y.thinking;
      rows = y.rows + 1;
      failed = y.failed + one (is_failure e);
      root = y.root + one (is_on_root e);
      held = y.held + one (is_held_up e);
      finished = y.finished;
      writers = waited_for writers y.writers;
      readers = waited_for readers y.readers;
    }

-- ---- calls

-- a call begins with any order but 0; order 1 is a write-lock, those from 64 on are read-locks
abbrev pub is_call : ℕ → Bool
is_call o = not (eqb o 0)

abbrev pub is_write_lock : ℕ → Bool
is_write_lock o = eqb o 1

abbrev pub is_read_lock : ℕ → Bool
is_read_lock o = leb 64 o

-- a lock was got after n rows
abbrev pub got_after : ℕ → Waits → Waits
got_after n w = record { got = w.got + 1; waited = w.waited; longest = if ltb w.longest n then n else w.longest }

abbrev pub got_if : Bool → ℕ → Waits → Waits
got_if b n w = if b then got_after n w else w

-- a call with this order was finished, n rows behind its first
abbrev pub call_over : ℕ → ℕ → Tally → Tally
call_over o n y =
    record {
      passed = y.passed;
      holding = y.holding;
      thinking = y.thinking;
      rows = y.rows;
      failed = y.failed;
      root = y.root;
      held = y.held;
      finished = y.finished + 1;
      writers = got_if (is_write_lock o) n y.writers;
      readers = got_if (is_read_lock o) n y.readers;
    }
