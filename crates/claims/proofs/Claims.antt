-- Each claim by the theorem that shows it.
use Rattle.lock.proofs.Examples.{hand-overs-end}
use Rattle.pair.proofs.Examples.{all-benched, all-answered, worked-sheet, worked-journal, every-sheet, every-journal}
use Rattle.pair.proofs.Apart.{separate}
use Rattle.pair.proofs.Calls.{one-call}
use Rattle.pair.proofs.Demand.{demand3-pair}
use Rattle.pair.proofs.Locking.{locking-pair}
use Rattle.pair.proofs.Words.{finished-pair}
use Rattle.waking.proofs.Waking.{wakes}
use Rattle.plain_model.proofs.Equal.{equals}
use Rattle.dispatch_model.proofs.Promises as dispatcher
use Rattle.ticket_model.proofs.Promises as tickets
use Rattle.credit_model.proofs.Once as bookings
use Rattle.credit_model.proofs.Examples.{sale-sheet, sale-journal}
use Rattle.progress.proofs.Progress.{progress-pair-each}
use Rattle.progress.proofs.LockOrder.{ordered}
use Rattle.progress.proofs.Deadlock.{stuck-states, crossed-stuck}
use Rattle.laws.proofs.Forget.{failures-do-not-matter}
use Rattle.site_model.proofs.Replays.{replays}
use Rattle.record_model.proofs.{Runs.claimed-of, Pieces.pieces-compose, File.first_ends, Begin.may-begin}
use Rattle.explore_model.proofs.Closed.{complete}
use Rattle.claims.specs.Claims.{Claims}

pub claims : Claims
claims =
    record {
      runs = all-benched;
      small_inputs = all-answered;
      worked_sheet = worked-sheet;
      worked_journal = worked-journal;
      every_sheet = every-sheet;
      every_journal = every-journal;
      finished = finished-pair;
      failed_swaps = demand3-pair;
      hand_overs = hand-overs-end;
      looks = wakes;
      plain_engine = equals;
      locking = locking-pair;
      dispatcher = dispatcher.promises;
      drawer = dispatcher.draw-promises;
      separate = separate;
      one_call = one-call;
      ticket_lock = tickets.promises;
      credit_table = bookings.promises;
      sale_sheet = sale-sheet;
      sale_journal = sale-journal;
      progress = progress-pair-each;
      lock_order = ordered;
      stuck = stuck-states;
      crossed = crossed-stuck;
      records = claimed-of;
      pieces = pieces-compose;
      first_ends = first_ends;
      failures = failures-do-not-matter;
      may_begin = may-begin;
      exploration = λ z f d n c. complete c;
      sites = replays;
    }
