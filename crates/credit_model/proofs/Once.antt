-- What is claimed with bookings among the rows. Demand 3 and the locking claims are the bench's own, of the same rows:
-- settling gives a booking's entry another kind, which is neither a failure nor a change either. One song is never
-- charged twice, and only by a thread that wrote alone: from the table's own law and from exclusion.
use Rattle.lock.proofs.Library.{ℕ, ◌+◌, ◌-◌, ◌<◌, zero, suc, ◌≤◌, ◌≡◌, refl, sym, ap, subst, ◌∙◌, Bool, true, false, List, []}
use Rattle.lock.proofs.{Library.{◌∷◌, Option, none, some, arith, get_or, take, length, ne_eqb, ◌≢◌}, Choice.if-both}
use Rattle.lock.proofs.{Choice.not-both, Machine.{entries-take, row-leads, entries-taken, taken-le}}
use Rattle.lock.specs.{declared.Entry.Entry, declared.Sizes.Sizes, Journal.{entry, call_begun}, Machine.{Row, OutcomeOf}}
use Rattle.lock.specs.{Machine.{taken, refused}, File.InRange, Demand.{tally, is_change, is_failure, failed_swap}}
use Rattle.lock.specs.{Demand.others_change, declared.Phase.Phase, declared.Phase.TheVariants.Writing}
use Rattle.lock.specs.{declared.Standing.Standing, Phase.standing, State.thread_at}
use Rattle.laws.specs.Exclusion.{Part, as_nobody, as_reader, as_writer, counts_as, Locks}
use Rattle.laws.proofs.Seen.{Seen, seen, idle, writing, asleep, reading, calling}
use Rattle.pair.specs.{Pair.{Side, first, second, fresh_pair, Note, written, journal, base, Pair, turn}, Calls.OneCall}
use Rattle.pair.specs.{Demand.{is_at, failure_at, any_failure_at, others_at, others_changes, CountedAt}, Locking.LocksAt}
use Rattle.pair.specs.Pair as pair
use Rattle.pair.proofs.{Calls.one-call, Locking.{locks-at, locking-pair}, Words.{Sound, kept_pair}}
use Rattle.pair.proofs.Demand as demand
use Rattle.progress.proofs.{Progress.progress-pair-each, LockOrder.ordered}
use Rattle.till.specs.{Till.{Till, till_of, till_refusal}, Booking.{Ledger, fresh_ledger, item_of, with_amount, Booked}}
use Rattle.till.specs.{Booking.{paid, book, is_booking}, Settle.{settle_row, settle}}
use Rattle.till.proofs.{Settling.{by_row, Adds, fresh-adds, settle-adds, booked-once}, Good.good}
use Rattle.credit_model.specs.{Credit.{Credit, start, row, run, is_writing, writes}, Above.with_till, Claims.result}
use Rattle.credit_model.specs.Claims.{Locked, CountedThroughout, no_row, state_at, row_at, Charges, Alone, Promises}
use Rattle.credit_model.proofs.Runs.{booking_note, above, locks-are, Noted, noted, range-with, settled_as, BooksOf}
use Rattle.credit_model.proofs.{Runs.{turn-books, row_is, finished, benched, afterwards, balanced}, Apart.apart}

-- "kinds 11 booked, 12 repeated, 13 denied"
late-kind : (i : Till) (l : Ledger) (e : ℕ) → 10 < (book i l e).kind
unfolding book
late-kind i l e =
    if-both (λ (b : Booked). 10 < b.kind) (get_or l.marks e false) (λ q. omega arith) (λ q. by (with_amount i l e))
  where
    by : (o : Option ℕ) → 10 < (paid l e (item_of i e).room o).kind
    by none = omega arith
    by (some b) = omega arith

no-failure : (k : ℕ) → 10 < k → is_failure (entry k 33) ≡ false
no-failure k h = ne_eqb k 3 (λ q. omega arith)

no_change : (k : ℕ) → 10 < k → is_change (entry k 33) ≡ false
no_change k h = rw (ne_eqb k 2 (λ q. omega arith), ne_eqb k 5 (λ q. omega arith))

same-lock : (x : Side) (k : ℕ) → is_at x (entry k 33) ≡ is_at x (written booking_note)
same-lock first k = refl
same-lock second k = refl

-- a test that does not tell the kinds from 11 on apart
abbrev Blind : (Row → Entry → Bool) → Type 0
Blind P = (r : Row) (k : ℕ) → 10 < k → P r (entry k 33) ≡ P r (written booking_note)

module _ (z : Sizes) (i : Till) where
  same-tally : (P : Row → Entry → Bool) → Blind P → (l : Ledger) (rs : List Row) (ms : List Note) → Noted z i rs ms
      → tally P rs (settle i l rs (journal ms)).entries ≡ tally P rs (journal ms)
  unfolding settle
  same-tally P b l [] ms n = refl
  same-tally P b l (r ∷ rs) [] n = refl
  same-tally P b l (r ∷ rs) (m ∷ ms) n =
      rw (
        by_row (λ k. P r k.entered ≡ P r (written m)) i l r (written m)
            (λ h. b r _ (late-kind i l (r.order - 96)) ∙ ap (λ (y : Note). P r (written y)) (sym (n.0 h)))
            (λ h. refl),
        same-tally P b (settle_row i l r (written m)).ledger rs ms n.1,
      )

  module _ (range : InRange (with_till i z)) where
    counted-all : (x : Side) (rs : List Row) → CountedAt z x rs (result z i rs).entries (result z i rs).state.locks
    counted-all x rs =
        rw (above z i rs)
        (record {
          bounded = λ t w ht hw. omega (
            arith,
            same (failed_swap t (w + base x)) (λ r k h. rw (no-failure k h)),
            same (others_change t (w + base x)) (λ r k h. rw (no_change k h)),
            bench.bounded t w ht hw,
          );
          printed = λ t ht. bench.printed t ht ∙ sym (same (failure_at x t) (λ r k h. rw (no-failure k h)));
          summed = λ t ht.
              omega (arith, same (failure_at x t) (λ r k h. rw (no-failure k h)), others t z.nodes, bench.summed t ht);
          alone = λ t h. same (any_failure_at x) (λ r k h. rw (no-failure k h))
              ∙ bench.alone t (sym (same (others_at x t) (λ r k h. rw (same-lock x k))) ∙ h);
        })
      where
        ms : List Note
        ms = (pair.run (with_till i z) fresh_pair rs).entries

        bench : CountedAt (with_till i z) x rs (journal ms) (pair.run (with_till i z) fresh_pair rs).state
        bench = demand.counted (with_till i z) range x rs

        same : (P : Row → Entry → Bool)
            → Blind P → tally P rs (settle i (fresh_ledger i) rs (journal ms)).entries ≡ tally P rs (journal ms)
        same P b = same-tally P b (fresh_ledger i) rs ms (noted z i fresh_pair rs)

        others : (t n : ℕ) → others_changes x t n rs (settle i (fresh_ledger i) rs (journal ms)).entries
            ≡ others_changes x t n rs (journal ms)
        others t zero = refl
        others t (suc n) =
            omega (arith, others t n, same (others_change t (n + base x)) (λ r k h. rw (no_change k h)))

    module _ (rs : List Row) where
      pub counted : CountedThroughout z i rs (result z i rs).entries
      unfolding run
      counted x k le =
          subst (λ (es : List Entry). CountedAt z x (take k rs) es (result z i (take k rs)).state.locks)
          (entries-take (row z i) (start i) rs k) (counted-all x (take k rs))

      pub locked : Locked z i rs
      locked =
          record {
            each = λ x k. subst (LocksAt (with_till i z) x)
                (sym (locks-are z i rs k)) (locks-at (with_till i z) range x (take k rs));
            by_rows = λ x. locking-pair (with_till i z) range x rs;
            progress = λ x. progress-pair-each (with_till i z) range x rs;
            ordered = λ x. ordered (with_till i z) range x rs;
            one_call = λ k. subst OneCall (sym (locks-are z i rs k)) (one-call (with_till i z) (take k rs));
          }

-- ---- after any rows both locks are sound and the table adds up

pub record KeptCredit (z : Sizes) (i : Till) (s : Credit) : Type 0 where
  pub locks : Sound (with_till i z) s.locks
  pub adds : Adds i s.ledger

-- of every till that is not refused
pub kept-credit : (z : Sizes) → InRange z → (c : List ℕ) → till_refusal c ≡ 0 → (rs : List Row)
    → KeptCredit z (till_of c) (run z (till_of c) (start (till_of c)) rs).state
kept-credit z range c ok rs =
    rw (above z (till_of c) rs)
    (record {
      locks = (kept_pair (with_till (till_of c) z) (range-with z range c ok) rs).state;
      adds = settle-adds (till_of c) (good c ok).roomed (fresh_ledger (till_of c)) rs _ (fresh-adds (till_of c));
    })

-- ---- who writes

is-writing : (p : Phase) (x : Standing) → Seen p x → is_writing x ≡ true → p ≡ Writing
is-writing p x idle h = not-both false h refl
is-writing p x writing h = refl
is-writing p x asleep h = not-both false h refl
is-writing p x (reading k) h = not-both false h refl
is-writing p x (calling q) h = not-both false h refl

writer : counts_as Writing ≡ as_writer
unfolding counts_as
writer = refl

neither : (x : Part) → x ≢ as_writer → x ≢ as_reader → x ≡ as_nobody
neither as_nobody w r = refl
neither as_reader w r = absurd (r refl)
neither as_writer w r = absurd (w refl)

-- of a row that books, if it is taken: the item is there, and the thread writes
record Charged (i : Till) (s : Credit) (r : Row) : Type 0 where
  known : r.order - 96 < length i.items
  wrote : writes s.locks.one r.thread ≡ true

abbrev ChargedOf : Till → Credit → Row → OutcomeOf Credit Entry → Type 0
ChargedOf i s r (taken s' e) = Charged i s r
ChargedOf i s r (refused n) = Unit {0}

charged-row : (z : Sizes) (i : Till) (s : Credit) (r : Row) → is_booking r ≡ true → ChargedOf i s r (row z i s r)
charged-row z i s r h = rw (row_is z i s r) (from (turn (with_till i z) s.locks r) (turn-books z i s.locks r h))
  where
    from : (o : OutcomeOf Pair Note) → BooksOf i s.locks r o → ChargedOf i s r (settled_as i s.ledger r o)
    from (taken p m) b = record { known = b.known; wrote = b.wrote }
    from (refused n) b = tt

module _ (z : Sizes) (range : InRange z) (b : List ℕ) (good : till_refusal b ≡ 0) (rs : List Row) where
  abbrev i : Till
  i = till_of b

  abbrev es : List Entry
  es = (result z i rs).entries

  -- the first lock, after any rows
  locks : (k : ℕ) → Locks (state_at z i rs k).locks.one
  locks k = ((locked z i (range-with z range b good) rs).each first k).locks

  leads : (k : ℕ) → k < (result z i rs).taken
      → row z i (state_at z i rs k) (row_at z i rs k) ≡ taken (state_at z i rs (suc k)) (get_or es k call_begun)
  unfolding run
  leads k l = row-leads (row z i) (start i) rs k no_row call_begun l

  charged : (k : ℕ) → k < (result z i rs).taken
      → is_booking (row_at z i rs k) ≡ true → Charged i (state_at z i rs k) (row_at z i rs k)
  charged k l h = subst (ChargedOf i (state_at z i rs k) (row_at z i rs k))
      (leads k l) (charged-row z i (state_at z i rs k) (row_at z i rs k) h)

  alone : (e k : ℕ) → Charges z i rs es e k → Alone z i rs k
  alone e k c =
      let t = (row_at z i rs k).thread in
      let p = (thread_at (state_at z i rs k).locks.one t).phase in
      let w : p ≡ Writing = is-writing p (standing p) (seen p) (charged k c.before c.books).wrote in
      let n : counts_as p ≡ as_writer = ap counts_as w ∙ writer in
      record {
        writes = w;
        others = λ u d. neither _ ((locks k).alone t u (λ q. d (sym q)) n) ((locks k).unread t u n);
      }

  -- a row of those taken, and its entry, in the lists that the table's law speaks of
  long-rows : (result z i rs).taken ≤ length rs
  unfolding run
  long-rows = taken-le (row z i) (start i) rs

  long-entries : length es ≡ (result z i rs).taken
  unfolding run
  long-entries = entries-taken (row z i) (start i) rs

  once : (e j k : ℕ) → Charges z i rs es e j → Charges z i rs es e k → j ≡ k
  once e j k c d =
      booked-once b good rs es e j k no_row call_begun
      (subst (λ (n : ℕ). n < length i.items) (omega (arith, c.order)) (charged j c.before c.books).known)
      (omega (arith, c.before, long-rows))
      (rw long-entries c.before) (omega (arith, d.before, long-rows)) (rw long-entries d.before)
      c.order d.order (rw (afterwards z i rs).entries c.kind) (rw (afterwards z i rs).entries d.kind)

-- of every size in range, every till that is not refused and every list of rows
pub promises : (z : Sizes) → InRange z
    → (b : List ℕ) → till_refusal b ≡ 0 → (rs : List Row) → Promises z (till_of b) rs (result z (till_of b) rs).entries
promises z range b good rs =
    let with = range-with z range b good in
    record {
      finished = finished z (till_of b) with rs;
      above = above z (till_of b) rs;
      benched = benched z (till_of b) rs;
      locked = locked z (till_of b) with rs;
      apart = apart z (till_of b) with rs;
      counted = counted z (till_of b) with rs;
      afterwards = afterwards z (till_of b) rs;
      balanced = balanced z b good rs;
      charged = record {
        once = once z range b good rs;
        alone = alone z range b good rs;
        known = λ k l h. (charged z range b good rs k l h).known;
      };
    }
