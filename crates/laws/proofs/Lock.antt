-- Names that the proofs use: of the lock's definitions, of its laws of numbers, lists and choices, and of the claims.
pub use Rattle.lock.proofs.Library.{ℕ, ◌≤◌, ◌<◌, ◌≡◌, refl, subst, ◌∙◌, ◌≢◌, arith, get_or, set, get_or-set_other, zero}
pub use Rattle.lock.proofs.Library.{suc, ◌+◌, ◌*◌, ◌^◌, zero-le, min, List, [], ◌∷◌, ℕ_discrete, eqb, length, ◌-◌, sym}
pub use Rattle.lock.proofs.Library.{ap, ap₂, Bool, true, false, some, le_refl, ltb, eqb-true, eqb-false, ltb-true}
pub use Rattle.lock.proofs.Library.{eq-eqb, ◌⊎◌, inl, inr, not, ◌&&◌, ◌||◌, not-suc-le-zero, ◌++◌, Option, none, dec_lt}
pub use Rattle.lock.proofs.Library.{length-set, length-append, List·getD-eq-default, take, length-take, get_or-set_same}
pub use Rattle.lock.proofs.Library.{ltb-false, le_of_suc-le-suc, replicate, lt-ltb, length-replicate, ◌/◌, ◌%◌, max}
pub use Rattle.lock.proofs.Library.{add-zero, pow-suc, ne_eqb}
pub use Rattle.lock.proofs.Choice.{if-both, not-both, clash, booking-both}
pub use Rattle.lock.proofs.Path.{parent-le, on-start, on-parent, parent-lt, on-le, toward-parent, toward-on, toward-lt}
pub use Rattle.lock.proofs.Path.{On}
pub use Rattle.laws.specs.Late.{state_at, row_at, entry_at, root_at, Success, Late, Closes, LookOf, LastLook}
pub use Rattle.laws.specs.Late.{ClosedSince, InTime, Looks, looks, again, CallOf}
pub use Rattle.laws.proofs.Cases.{dec-both}
pub use Rattle.lock.proofs.Run.{state-taken, row-leads}
unfoldable pub use Rattle.laws.specs.Exclusion.{counts_as}
pub use Rattle.laws.specs.Exclusion.{Part, as_nobody, as_reader, as_writer, Resting, Reads, Writes, Locks}
pub use Rattle.laws.specs.Holding.{Holder, HoldsOn}
pub use Rattle.lock.proofs.Row.{at_set, woken-length}
unfoldable pub use Rattle.lock.specs.Call.{op, obey}
pub use Rattle.lock.specs.Call.{Op, begin, read, ask, swap, stay, store, lock, release, join, next, take_readers, wake}
pub use Rattle.lock.specs.Call.{note, refuse, looked, climbed, arrived, settled, ended, departed, write_looked}
pub use Rattle.lock.specs.Call.{write_found, unlock_got, stored, upgrade_found, downgraded, Order, go_on, write_lock, unlock}
pub use Rattle.lock.specs.Call.{upgrade, downgrade, read_lock, book, decode, beginning, unlocking, upgrading}
pub use Rattle.lock.specs.Call.{downgrading, departs}
pub use Rattle.std.specs.Prelude.{if◌then◌else◌}
pub use Rattle.lock.specs.Demand.{All, one, tally, failure, is_change, is_failure, is_on, is_by, failed_swap, others_change}
pub use Rattle.lock.specs.Demand.{Counted}
unfoldable pub use Rattle.lock.specs.Examples.{worked_lines, worked_journal}
pub use Rattle.lock.specs.Examples.{sizes, p11}
pub use Rattle.lock.specs.File.{InRange}
pub use Rattle.lock.specs.Journal.{call_begun, word_read, swap_done, swap_failed, held_up, plain_store, mutex_taken}
pub use Rattle.lock.specs.Journal.{mutex_released, queue_changed, sleepers_woken, booking_taken, upgrade_denied}
unfoldable pub use Rattle.lock.specs.Machine.{runs}
pub use Rattle.lock.specs.Machine.{taken, refused, Row, OfRow, follow, Finished, OutcomeOf, ResultOf, after}
unfoldable pub use Rattle.lock.specs.Phase.{standing}
unfoldable pub use Rattle.lock.specs.Queue.{size}
pub use Rattle.lock.specs.Queue.{only, readers, writer, Waiters, with_readers, with_writers, writer_queued, longest}
pub use Rattle.lock.specs.Queue.{behind_longest, join_reader, join_writer, is_writer, joined, next_group, left}
pub use Rattle.lock.specs.Queue.{without_readers, without_longest, nobody_waits}
unfoldable pub use Rattle.lock.specs.Run.{step, row_op, run}
pub use Rattle.lock.specs.Run.{Result}
unfoldable pub use Rattle.lock.specs.Sheet.{lines}
unfoldable pub use Rattle.lock.specs.State.{perform}
pub use Rattle.lock.specs.State.{State, fresh_thread, thread_at, holding, woken, Outcome, word_at, granted, fresh}
pub use Rattle.lock.specs.State.{with_word, with_mutex, with_queue, with_threads, asked_as, retried, locks, goes}
unfoldable pub use Rattle.lock.specs.Tree.{toward}
pub use Rattle.lock.specs.Tree.{parent}
pub use Rattle.lock.specs.Word.{opened, closed, is_closed, total, is_zero, is_sole, same, up, down, up_direct, down_direct}
pub use Rattle.lock.specs.Word.{shut}
pub use Rattle.lock.specs.declared.Entry.{Entry}
pub use Rattle.lock.specs.declared.Group.{Group}
pub use Rattle.lock.specs.declared.Phase.{Phase}
pub use Rattle.lock.specs.declared.Phase.TheVariants.{Idle, Reading, Writing, Look, Depart, Leave, WriteLook}
pub use Rattle.lock.specs.declared.Phase.TheVariants.{UnlockTake, UpgradeTrade, UpgradeLook, DowngradeTake}
pub use Rattle.lock.specs.declared.Phase.TheVariants.{UpgradeSwap, DowngradeNext, DowngradeStore, DowngradeRelease}
pub use Rattle.lock.specs.declared.Phase.TheVariants.{Asleep}
pub use Rattle.lock.specs.declared.Sizes.{Sizes}
pub use Rattle.lock.specs.declared.Standing.{Standing}
pub use Rattle.lock.specs.declared.Then.{Then}
pub use Rattle.lock.specs.declared.Then.TheVariants.{Leaving, Upgrading, Inside}
pub use Rattle.lock.specs.declared.Thread.{Thread}
pub use Rattle.lock.specs.declared.Word.{Word}
