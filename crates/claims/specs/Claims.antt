-- What is claimed of the lock bench, all of it, each claim with a line of plain words. A claim is a statement over the
-- definitions; behind "promised by" stands the function of the code whose contract says it of the caller's own bytes.
-- docs/PROVED.md explains this page.
--
-- Not here, since it is said by every contract and shown function by function: memory safety (no read or write outside
-- a buffer), termination, and refinement: answers, journals, schedules and sheets are, byte for byte, what the
-- definitions give, and arrays lent as locks stand for the states that these give (docs/PROVED.md says what of such an
-- array is left open). For a schedule file that is `Benches` (bench::run_file), with a till `Credits`
-- (credit::run_file), for its sheet `Sheeted`; for calls of the plain engine, wanted calls and tickets `PlainBenches`
-- (plain_engine::run_file), `Answers` (dispatcher::dispatch_file), `Tickets` (ticket_lock::run_file); for wanted calls
-- at lent turns `DrawAnswers` (drawer::draw_file), for a site at lent turns `RanSite` (site_run::run_site); for a record
-- `HoldsRecord` (record_hold::hold). What the first two
-- promise beyond that their sheets promise too, of the caller's journal and of the state that the sheet prints.
use Rattle.std.specs.Prelude.{ℕ, ◌≤◌, ◌<◌, ◌≡◌, List, replicate}
use Rattle.lock.specs.declared.Sizes.{Sizes}
use Rattle.lock.specs.File.{InRange}
use Rattle.lock.specs.Machine.{Row}
use Rattle.lock.specs.State.{State}
use Rattle.lock.specs.Examples as lock
use Rattle.pair.specs.Apart.{Separate}
use Rattle.pair.specs.Calls.{OneCallOf, FinishedOf}
use Rattle.pair.specs.Demand.{Demand3}
use Rattle.pair.specs.Locking.{LockingOf}
use Rattle.pair.specs.File.{journal_after}
use Rattle.pair.specs.Sheet.{sheet}
use Rattle.pair.specs.Examples.{AllBenched, inputs, AllAnswered, worked, worked_sheet}
use Rattle.pair.specs.Examples.{every_file, every_sheet, every_journal}
use Rattle.waking.specs.Waking.{WakesOf}
use Rattle.plain_model.specs.Equal.{Equals}
use Rattle.dispatch_model.specs.Claims as dispatcher
use Rattle.dispatch_model.specs.Claims.{DrawPromises}
use Rattle.ticket_model.specs.Machine.{fresh}
use Rattle.ticket_model.specs.Run.{run}
use Rattle.ticket_model.specs.Claims as tickets
use Rattle.till.specs.Till.{till_of, till_refusal}
use Rattle.credit_model.specs.Claims.{result}
use Rattle.credit_model.specs.Claims as bookings
use Rattle.credit_model.specs.File as file
use Rattle.credit_model.specs.Sheet as credit
use Rattle.credit_model.specs.Examples.{sale, sale_till, sale_sheet, sale_journal}
use Rattle.progress.specs.Progress.{ProgressOfEach}
use Rattle.progress.specs.LockOrder.{OrderedOf}
use Rattle.progress.specs.Deadlock.{StuckStates, Crossed}
use Rattle.laws.specs.Forget.{FailuresDoNotMatter}
use Rattle.record_model.specs.Runs.{ClaimedOf}
use Rattle.record_model.specs.Pieces.{PiecesCompose, FirstEnds}
use Rattle.record_model.specs.Begin.{MayBegin}
use Rattle.explore_model.specs.Closed.{Closed, Complete}
use Rattle.site_model.specs.Site.{Site}
use Rattle.site_model.specs.Claims.{Replays}

pub record Claims : Type 0 where
  -- ---- the mission

  -- Conformance to the paper's figures as document 01 cuts them into steps: its runs P1 to P12 as files, its small
  -- inputs, its worked sheet and journal byte for byte. What the definitions say beyond these examples is theirs to say
  -- (docs/MAP.md).
  pub runs : AllBenched lock.examples
  pub small_inputs : AllAnswered inputs
  pub worked_sheet : sheet worked 12 ≡ worked_sheet
  pub worked_journal : journal_after worked (replicate 12 0xEE) ≡ lock.worked_journal
  -- And byte for byte a run that has every kind of entry but a booking's and, with the sale of Twelve, every field of
  -- the sheet: hand-overs to readers and to a writer, a held-up row, an empty queue, an upgrade denied, a downgrade
  -- that wakes, the mutex's owner.
  pub every_sheet : sheet every_file 150 ≡ every_sheet
  pub every_journal : journal_after every_file (replicate 150 0xEE) ≡ every_journal
  -- 0 means that all rows were taken, and any other answer is the number of a refusal. Promised by bench::run_file
  -- (`promises.whole`).
  pub finished : FinishedOf
  -- Bounded failure of compare-and-swap (demand 3): a thread's failed swaps on a word are at most the changes that
  -- others made to it, the failures shown are its entries of kind 3, and a thread alone never fails; at each lock,
  -- after every row. Promised by bench::run_file and bench::sheet_file (`promises.counted`, `.left`).
  pub failed_swaps : Demand3
  -- ---- document 02

  -- One: a swap that fails has read the word that it met: by definition (`retried`), and `failed_swaps` holds of it.
  -- Two: readers hand over to writers and writers to readers.
  pub hand_overs : lock.AllEnd lock.hand_overs
  -- Three: whatever lock a wake leaves, it took as many looks as the group has threads, these hold, no other number is
  -- changed, and the state is that of the definitions' wake. Promised by waking::wake_all (`Woken`).
  pub looks : WakesOf
  -- Four: observational equivalence of the plain engine with the bench's first lock, over any N and F, for schedules of
  -- two fresh locks that run each call to its end, with the orders that the plain engine takes; the second lock stays
  -- fresh. The lines of the first lock are then one text but for node lines, tickets and the root's numbers. Both take
  -- or refuse the next call of these orders alike; every other order is 6 in the plain engine. Every call ends.
  pub plain_engine : Equals
  -- Five to Eight, at each lock, after every row. Mutual exclusion: nobody holds beside a writer, and a lock that is
  -- held never shows free. Closable SNZI: at rest the root's count is above 0 exactly when someone reads, and it is
  -- closed at 0 exactly when someone writes; an arrival succeeds while the root is open, or late, while its surplus
  -- stays above 0. The stored number of waiting writers is the number queued. An upgrade never makes a second writer.
  -- Where its swap found the root open, and nobody else moves until the thread reads with ticket 0 again, as it does at
  -- a downgrade's end, the root is the one found, whatever the thread did between. No lost wake-up: at rest, where
  -- someone sleeps someone holds, and each sleeper is queued once. Promised by bench::run_file
  -- and bench::sheet_file (`promises.rows`, `.left`).
  pub locking : LockingOf
  -- Nine: the dispatcher goes round by number: whoever it passes over before a step, or before a 7, rests, and a thread
  -- gets one step a round. Bounded fairness: who stays able to move gets a step within T steps. Its steps are a
  -- schedule that the bench takes, with the same sheet; calls begin in file order. Where each thread's last call is an
  -- unlock, none is refused and fewer than 4,096 steps are given, nobody is stranded. Promised by
  -- dispatcher::dispatch_file and dispatcher::sheet_file (`promises`).
  pub dispatcher : (b : List ℕ) (m n : ℕ) → dispatcher.Promises b m n
  -- At lent turns, turn by turn: where the thread is able to move it gets the step, else its turn is passed over, as
  -- is a turn of T or more; until the turns are used up, 4,096 steps were given, or a call is refused with 7. Its steps
  -- are a schedule that the bench takes, with the same sheet; calls begin in file order. Where each thread's last call
  -- is an unlock and everybody rests at the end, nobody is stranded. Promised by drawer::draw_file and
  -- drawer::sheet_file (`promises`).
  pub drawer : (ts b : List ℕ) (m n : ℕ) → DrawPromises ts b m n
  -- Ten: non-interference: without the rows of one lock the other is what its own rows alone give. A thread is in one
  -- call at a time. Promised by bench::run_file and bench::sheet_file (`promises.rows`, `.left`).
  pub separate : Separate
  pub one_call : OneCallOf
  -- Eleven: mutual exclusion and first come, first served, of the ticket lock, for every start number and across the
  -- wrap. Promised by ticket_lock::run_file and ticket_report::sheet_file (`promised`).
  pub ticket_lock : (T start : ℕ) → T ≤ 64 → start < 65536 → (rs : List Row)
      → tickets.Promises (run T (fresh start) rs).state (tickets.history T (fresh start) rs)
  -- Twelve: **one song is never charged twice**, and only by a thread that writes while nobody else holds; balances add
  -- up after every row and none is below 0; the bench's run, settled afterwards, gives the same; every claim of the
  -- bench holds with bookings among its rows. Promised by credit::run_file and credit::sheet_file (`promised`).
  pub credit_table : (z : Sizes) → InRange z → (c : List ℕ) → till_refusal c ≡ 0 → (rs : List Row)
      → bookings.Promises z (till_of c) rs (result z (till_of c) rs).entries
  -- a sale, byte for byte: an upgrade, a booking denied, two booked, one repeated, and the downgrade
  pub sale_sheet : credit.sheet sale sale_till 36 ≡ sale_sheet
  pub sale_journal : file.journal_after sale sale_till (replicate 36 0xEE) ≡ sale_journal
  -- ---- progress

  -- Deadlock freedom of each lock by itself, over its own rows: a call ends by its own thread's rows alone, in at most
  -- N² + 3N + 4 of them, once nobody else has the mutex; after any rows of the lock at most (N² + 5N + 10) T further
  -- ones, which go on or unlock it, leave everybody idle there and the lock as it was made. (A thread that is held up at
  -- the other lock makes no such row: of both locks `lock_order` says it.) Promised by bench::run_file and
  -- bench::sheet_file (`promises.rows.progress`).
  pub progress : ProgressOfEach
  -- Lock order: if threads take the two locks in one order, nobody is ever stuck, and at most twice as many further
  -- rows, which go on or unlock (2 at the first lock, 130 at the second), leave everybody idle and both locks as they
  -- were made. Promised by bench::run_file and bench::sheet_file (`promises.rows.ordered`).
  pub lock_order : OrderedOf
  -- Else they can be: two threads that take the locks in opposite order are stuck after 18 rows, for good.
  pub stuck : (z : Sizes) → StuckStates z
  pub crossed : (E : ℕ) → Crossed E
  -- ---- records

  -- The rows of a record that are held are a run of the bench with the record's own entries. So of the record's own
  -- bytes up to the rows held, and of the state that its sheet prints: the bound on failed swaps, Five to Eight,
  -- progress, lock order, non-interference, one call at a time. Promised by record_hold::hold (`claims`) and
  -- record_report::sheet_record.
  pub records : (b : List ℕ) → ClaimedOf b
  -- However a record is cut, holding its pieces one after the other is holding it; and the sheet at the first row that
  -- is not held is that of all longer records whose length is right. Promised by record_hold::hold_more.
  pub pieces : PiecesCompose
  pub first_ends : FirstEnds
  -- A record may begin where every thread is idle at both locks: they are as they were made but for failures, which no
  -- row goes by, and the record has the verdict that it has from fresh locks.
  pub failures : FailuresDoNotMatter
  pub may_begin : MayBegin
  -- ---- exploration

  -- States that no row leads out of, the fresh lock among them, are all that rows lead to, however many; and none is
  -- deeper than there are rows that lead to it. Promised by explore_search::explore (`complete`), of the states that it
  -- found, where it answers 0.
  pub exploration : (z : Sizes) (f : ℕ → State) (d : ℕ → ℕ) (n : ℕ) → Closed z f d n → Complete z f d n
  -- ---- sites

  -- A site's run at any turns is the bench's run of the rows that its turns make: the bench takes them all and comes to
  -- the same state; the failed swaps that are printed of a thread are among its failures there, and these are bounded
  -- word by word (demand 3). Promised by site_run::run_site (`replays`).
  pub sites : (x : Site) → InRange x.sizes → (ts : List ℕ) → Replays x ts
