-- The credit table stands above the bench: what a run with a till gives is the bench's run of the same rows, gone over
-- afterwards by its rows and its journal.
use Rattle.std.specs.Prelude.{◌≡◌, List, length}
use Rattle.lock.specs.declared.Entry.{Entry}
use Rattle.lock.specs.declared.Sizes.{Sizes}
use Rattle.lock.specs.File.{with_items}
use Rattle.lock.specs.Machine.{Row, ResultOf}
use Rattle.pair.specs.Pair.{Pair, fresh_pair, Note, journal}
use Rattle.pair.specs.Pair as pair
use Rattle.till.specs.Till.{Till}
use Rattle.till.specs.Booking.{Ledger, fresh_ledger}
use Rattle.till.specs.Settle.{settle}
use Rattle.credit_model.specs.Credit.{Credit, start, run}

-- the sizes of the bench's run: all that it knows of the till is the number of items
abbrev pub with_till : Till → Sizes → Sizes
with_till i z = with_items (length i.items) z

-- the bench's run r of the rows rs, with each booking settled, from the table l on
abbrev pub settled : Till → Ledger → List Row → ResultOf Pair Note → ResultOf Credit Entry
settled i l rs r =
    let x = settle i l rs (journal r.entries) in
    record {
      answer = r.answer;
      taken = r.taken;
      state = record { locks = r.state; ledger = x.ledger };
      entries = x.entries;
    }

abbrev pub Above : Sizes → Till → List Row → Type 0
Above z i rs = run z i (start i) rs ≡ settled i (fresh_ledger i) rs (pair.run (with_till i z) fresh_pair rs)
