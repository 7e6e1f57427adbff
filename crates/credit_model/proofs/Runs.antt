-- A run with a till is the bench's run of the same rows, settled; and so the table adds up, the journal can be gone
-- over again, and without its bookings the bench comes to the same locks.
use Rattle.lock.proofs.Library.{ℕ, ◌-◌, ◌≤◌, ◌<◌, ◌≡◌, refl, ap, ◌∙◌, sym, subst, Bool, true, false, not, ◌&&◌, none}
use Rattle.lock.proofs.Library.{some, arith, dec_lt, ltb, leb, length, take, ltb-true, leb-true, ne_eqb, lt-ltb, le-ltb}
use Rattle.lock.proofs.{Library.{le-leb, lt-leb, List, [], ◌∷◌}, Accepted.{range-items, both}, Choice.by-test}
use Rattle.lock.proofs.{Choice.{if-both, not-both}, Machine.{by_rows, entries-taken, taken-le}}
use Rattle.std.specs.Prelude.{if◌then◌else◌}
use Rattle.lock.specs.{declared.Entry.Entry, declared.Phase.Phase, declared.Sizes.Sizes}
use Rattle.lock.specs.{declared.Standing.Standing, Journal.{booking_taken, words}, Phase.standing, Machine.Row}
use Rattle.lock.specs.{Machine.{OutcomeOf, taken, refused, ResultOf, after, runs, Finished}, Call.{Op, begin, read}}
use Rattle.lock.specs.Call.{ask, swap, stay, store, lock, release, join, next, take_readers, wake, note, refuse, book}
use Rattle.lock.specs.{Call.{decode, booking, obey}, State.{State, thread_at, perform}, Run.{row_op, step}, File.InRange}
use Rattle.pair.specs.Pair.{first, Pair, busy, lowered, own_row, Note, turned, turn, written, fresh_pair, journal}
use Rattle.pair.specs.Pair as pair
use Rattle.pair.proofs.{Apart.by_side, Words.finished-pair}
use Rattle.till.specs.{Till.{Till, till_of, till_refusal}, Booking.{Ledger, books, is_booking, fresh_ledger}}
use Rattle.till.specs.{Settle.{settle_row, Settled, before, settle}, Balanced.Balanced}
use Rattle.till.proofs.{Settling.{by_row, row-books, row_stays, settled-balanced}, Good.{good, items-are}}
use Rattle.credit_model.specs.{Credit.{Credit, is_writing, writes, booked, beside, row, run}, Above.with_till}
use Rattle.credit_model.specs.{Above.{settled, Above}, Claims.{calls_of, result, state_at, Benched, Afterwards}}
use Rattle.credit_model.specs.Claims.{BalancedThroughout}

-- what the bench did, settled
abbrev pub settled_as : Till → Ledger → Row → OutcomeOf Pair Note → OutcomeOf Credit Entry
settled_as i l r (taken s m) =
    let x = settle_row i l r (written m) in taken (record { locks = s; ledger = x.ledger }) x.entered
settled_as i l r (refused n) = refused n

-- how the bench enters a booking
abbrev pub booking_note : Note
booking_note = record { side = first; entry = booking_taken }

-- a booking that the bench takes
pub record Books (i : Till) (s : Pair) (r : Row) (s' : Pair) (m : Note) : Type 0 where
  pub entered : m ≡ booking_note
  pub stays : s' ≡ s
  pub known : r.order - 96 < length i.items
  pub wrote : writes s.one r.thread ≡ true

abbrev pub BooksOf : Till → Pair → Row → OutcomeOf Pair Note → Type 0
BooksOf i s r (taken s' m) = Books i s r s' m
BooksOf i s r (refused n) = Unit {0}

module _ (z : Sizes) (i : Till) where
  -- ---- a row that is no booking is nothing to a till

  plain-decode : (o : ℕ) → books o ≡ false → decode z o ≡ decode (with_till i z) o
  plain-decode o h =
      elim (dec_lt o 96) [
        | yes l ↦ rw (lt-ltb o 96 l)
        | no l ↦ elim (dec_lt o 128) [
          | yes m ↦ not-both (books o) (rw (le-leb 96 o (omega arith), lt-ltb o 128 m)) h
          | no m ↦ rw (le-ltb o 96 (omega arith), le-ltb o 128 (omega arith))
        ]
      ]

  plain-lowered : (o : ℕ) → books o ≡ false → books (lowered o) ≡ false
  plain-lowered o h =
      if-both (λ (n : ℕ). books n ≡ false) (ltb 128 o && ltb o 224)
      (λ e. let b = both (ltb 128 o) (ltb o 224) e in rw (lt-leb 96 (o - 128) (omega (arith, ltb-true o 224 b.1))))
      (λ e. h)

  plain-perform : (s : State) (t : ℕ) (o : Op) → perform z s t o ≡ perform (with_till i z) s t o
  unfolding perform
  plain-perform s t (begin p) = refl
  plain-perform s t (read w k) = refl
  plain-perform s t (ask k p) = refl
  plain-perform s t (swap w old new p back) = refl
  plain-perform s t stay = refl
  plain-perform s t (store f p) = refl
  plain-perform s t (lock p) = refl
  plain-perform s t (release p) = refl
  plain-perform s t (join e p) = refl
  plain-perform s t (next last k) = refl
  plain-perform s t (take_readers k) = refl
  plain-perform s t (wake g p) = refl
  plain-perform s t note = refl
  plain-perform s t (refuse n) = refl

  pub plain_turn : (s : Pair) (r : Row) → is_booking r ≡ false → turn z s r ≡ turn (with_till i z) s r
  unfolding turn step row_op
  plain_turn s r h = rw (plain-decode (lowered r.order) (plain-lowered r.order h), plain-perform)

  -- ---- a booking, at the bench

  module _ (s : Pair) (r : Row) (h : is_booking r ≡ true) where
    abbrev t : ℕ
    t = r.thread

    abbrev p : Phase
    p = (thread_at s.one t).phase

    low : 96 ≤ r.order
    low = leb-true 96 r.order (both (leb 96 r.order) (ltb r.order 128) h).0

    high : r.order < 128
    high = ltb-true r.order 128 (both (leb 96 r.order) (ltb r.order 128) h).1

    known-if : (b : Bool) → obey z.fan p (if b then some (book (r.order - 96)) else none)
        ≡ (if b then booking (standing p) else refuse 6)
    unfolding obey
    known-if true = refl
    known-if false = refl

    decoded : decode (with_till i z) r.order
        ≡ (if ltb (r.order - 96) (length i.items) then some (book (r.order - 96)) else none)
    decoded =
        rw (
          ne_eqb r.order 0 (λ q. omega (arith, low)),
          ne_eqb r.order 1 (λ q. omega (arith, low)),
          ne_eqb r.order 2 (λ q. omega (arith, low)),
          ne_eqb r.order 3 (λ q. omega (arith, low)),
          ne_eqb r.order 4 (λ q. omega (arith, low)),
          le-ltb r.order 64 (omega (arith, low)),
          le-ltb r.order 96 low,
          lt-ltb r.order 128 high,
        )

    abbrev books_op : Op
    books_op = if ltb t z.threads
        then (if ltb (r.order - 96) (length i.items) then booking (standing p) else refuse 6) else refuse 5

    own : own_row r ≡ r
    own = rw (le-ltb 128 r.order (omega (arith, high)))

    stepped : step (with_till i z) s.one r ≡ perform (with_till i z) s.one t books_op
    unfolding step row_op
    stepped = rw (decoded, known-if (ltb (r.order - 96) (length i.items)))

    pub turned_as : turn (with_till i z) s r
        ≡ turned s first (busy s.two t) (perform (with_till i z) s.one t books_op)
    turned_as =
        by_side (with_till i z) s r first (busy s.two t)
        (rw (ne_eqb r.order 0 (λ q. omega (arith, low)), le-ltb 128 r.order (omega (arith, high))))
        (rw (ne_eqb r.order 0 (λ q. omega (arith, low))))
        ∙ ap (λ (x : Row). turned s first (busy s.two t) (step (with_till i z) s.one x)) own
        ∙ ap (turned s first (busy s.two t)) stepped

    pub turn-books : BooksOf i s r (turn (with_till i z) s r)
    unfolding perform
    turn-books =
        rw turned_as
        (if-both P (ltb t z.threads)
        (λ a. if-both P (ltb (r.order - 96) (length i.items))
        (λ k. by (ltb-true _ _ k) (standing p) refl (busy s.two t)) (λ k. tt))
        (λ a. tt))
      where
        P : Op → Type 0
        P o = BooksOf i s r (turned s first (busy s.two t) (perform (with_till i z) s.one t o))

        by : r.order - 96 < length i.items → (x : Standing) → standing p ≡ x
            → (c : Bool) → BooksOf i s r (turned s first c (perform (with_till i z) s.one t (booking x)))
        by k Standing.Idle q c = tt
        by k (Standing.Reading n) q c = tt
        by k Standing.Writing q true = tt
        by k Standing.Writing q false = record { entered = refl; stays = refl; known = k; wrote = rw q }
        by k Standing.Calling q c = tt
        by k Standing.Asleep q c = tt

  -- ---- the row, settled

  pub row_is : (s : Credit) (r : Row) → row z i s r ≡ settled_as i s.ledger r (turn (with_till i z) s.locks r)
  unfolding row perform
  row_is s r =
      by-test (is_booking r)
      (λ h. rw (h, turned_as s.locks r h)
      (books-as h (ltb r.thread z.threads) (ltb (r.order - 96) (length i.items))
      (standing (thread_at s.locks.one r.thread).phase) (busy s.locks.two r.thread)))
      (λ h. rw (h, plain_turn s.locks r h) (plain h (turn (with_till i z) s.locks r)))
    where
      plain : is_booking r ≡ false → (o : OutcomeOf Pair Note) → beside s.ledger o ≡ settled_as i s.ledger r o
      plain h (taken l m) = rw (row_stays i s.ledger r (written m) h)
      plain h (refused n) = refl

      books-as : is_booking r ≡ true → (a b : Bool) (x : Standing) (c : Bool)
          → (if a then (if b then (if is_writing x && not c then booked i s (r.order - 96) else refused 7)
          else refused 6) else refused 5)
          ≡ settled_as i s.ledger r
          (turned s.locks first c (perform (with_till i z)
          s.locks.one r.thread (if a then (if b then booking x else refuse 6) else refuse 5)))
      books-as h false b x c = refl
      books-as h true false x c = refl
      books-as h true true Standing.Idle c = refl
      books-as h true true (Standing.Reading n) c = refl
      books-as h true true Standing.Writing true = refl
      books-as h true true Standing.Writing false = rw (row-books i s.ledger r booking_taken h)
      books-as h true true Standing.Calling c = refl
      books-as h true true Standing.Asleep c = refl

-- ---- a run: the bench's of the same rows, settled

module _ (z : Sizes) (i : Till) where
  -- ---- above the bench

  above_from : (p : Pair) (rs : List Row) (l : Ledger)
      → run z i (record { locks = p; ledger = l }) rs ≡ settled i l rs (pair.run (with_till i z) p rs)
  unfolding run runs pair.run settle
  above_from =
      by_rows (turn (with_till i z))
      (λ p rs x. (l : Ledger) → run z i (record { locks = p; ledger = l }) rs ≡ settled i l rs x) (λ p l. refl)
      (λ p r rs n q l. rw (row_is z i (record { locks = p; ledger = l }) r, q))
      (λ p r rs p' m q k l. let x = settle_row i l r (written m) in
      rw (row_is z i (record { locks = p; ledger = l }) r, q) (ap (after x.entered) (k x.ledger)))

  pub above : (rs : List Row) → Above z i rs
  above rs = above_from fresh_pair rs (fresh_ledger i)

  -- the answer tells what the bench's does: 10 is the till file's alone
  pub finished : InRange (with_till i z) → (rs : List Row) → Finished rs (result z i rs)
  finished range rs =
      let f = finished-pair (with_till i z) range rs in
      subst (Finished rs) (sym (above rs)) (record { whole = f.whole; of_row = f.of_row })

  pub locks-are : (rs : List Row) (k : ℕ)
      → (state_at z i rs k).locks ≡ (pair.run (with_till i z) fresh_pair (take k rs)).state
  locks-are rs k = ap (λ (x : ResultOf Credit Entry). x.state.locks) (above (take k rs))

  -- ---- how the bench entered the bookings among the rows

  abbrev pub Noted : List Row → List Note → Type 0
  Noted [] ms = Unit {0}
  Noted (r ∷ rs) [] = Unit {0}
  Noted (r ∷ rs) (m ∷ ms) = (is_booking r ≡ true → m ≡ booking_note) × Noted rs ms

  pub noted : (s : Pair) (rs : List Row) → Noted rs (pair.run (with_till i z) s rs).entries
  unfolding pair.run runs
  noted =
      by_rows (turn (with_till i z)) (λ s rs x. Noted rs x.entries) (λ s. tt) (λ s r rs n q. tt)
      (λ s r rs s' m q k. (λ h. (rw q at (turn-books z i s r h)).entered, k))

  -- settling leaves the words
  word-stays : (l : Ledger) (r : Row) (m : Note)
      → (is_booking r ≡ true → m ≡ booking_note) → (settle_row i l r (written m)).entered.word ≡ (written m).word
  word-stays l r m n =
      by_row (λ x. x.entered.word ≡ (written m).word) i l r (written m)
      (λ h. sym (ap (λ (x : Note). (written x).word) (n h))) (λ h. refl)

  words-stay : (l : Ledger) (rs : List Row) (ms : List Note)
      → Noted rs ms → length ms ≤ length rs → words (settle i l rs (journal ms)).entries ≡ words (journal ms)
  unfolding settle
  words-stay l [] [] n h = refl
  words-stay l [] (m ∷ ms) n h = absurd (omega arith)
  words-stay l (r ∷ rs) [] n h = refl
  words-stay l (r ∷ rs) (m ∷ ms) n h =
      rw (word-stays l r m n.0) (ap (λ (ws : List ℕ). (written m).word ∷ ws)
      (words-stay (settle_row i l r (written m)).ledger rs ms n.1 (omega arith)))

  pub words_are : (rs : List Row)
      → words (result z i rs).entries ≡ words (journal (pair.run (with_till i z) fresh_pair rs).entries)
  unfolding pair.run
  words_are rs =
      let x = pair.run (with_till i z) fresh_pair rs in
      ap (λ (y : ResultOf Credit Entry). words y.entries) (above rs)
      ∙ words-stay (fresh_ledger i) rs x.entries (noted fresh_pair rs)
      (omega (arith, entries-taken (turn (with_till i z)) fresh_pair rs, taken-le (turn (with_till i z)) fresh_pair rs))

  -- ---- without the bookings

  abbrev Without : Pair → List Row → ResultOf Pair Note → Type 0
  Without s rs x = ((pair.run z s (calls_of (take x.taken rs))).answer ≡ 0)
      × ((pair.run z s (calls_of (take x.taken rs))).state ≡ x.state)

  without : (s : Pair) (rs : List Row) → Without s rs (pair.run (with_till i z) s rs)
  unfolding pair.run runs
  without =
      by_rows (turn (with_till i z)) Without (λ s. (refl, refl)) (λ s r rs n q. (refl, refl))
      (λ s r rs s' m q k. by-test (is_booking r)
      (λ h. let b = rw q at (turn-books z i s r h) in
      rw h (subst (λ (x : Pair). Without x rs (pair.run (with_till i z) s' rs)) b.stays k))
      (λ h. rw (h, plain_turn z i s r h, q) k))

  pub benched : (rs : List Row) → Benched z i rs
  benched rs =
      record { answer = rw (above rs) (without fresh_pair rs).0; locks = rw (above rs) (without fresh_pair rs).1 }

  -- ---- afterwards

  again-row : (l : Ledger) (r : Row) (e : Entry) → settle_row i l r (settle_row i l r e).entered ≡ settle_row i l r e
  again-row l r e =
      by_row (λ x. settle_row i l r x.entered ≡ x) i l r e (row-books i l r _) (row_stays i l r e)

  again : (l : Ledger) (rs : List Row) (es : List Entry) → settle i l rs (settle i l rs es).entries ≡ settle i l rs es
  unfolding settle
  again l [] es = refl
  again l (r ∷ rs) [] = refl
  again l (r ∷ rs) (e ∷ es) =
      rw (again-row l r e) (ap (before (settle_row i l r e).entered) (again (settle_row i l r e).ledger rs es))

  pub afterwards : (rs : List Row) → Afterwards z i rs (result z i rs).entries
  afterwards rs =
      let k = again (fresh_ledger i) rs (journal (pair.run (with_till i z) fresh_pair rs).entries) in
      record {
        ledger = rw (above rs) (ap (λ (x : Settled). x.ledger) k);
        entries = rw (above rs) (ap (λ (x : Settled). x.entries) k);
      }

pub balanced : (z : Sizes) (b : List ℕ) → till_refusal b ≡ 0 → (rs : List Row) → BalancedThroughout z (till_of b) rs
balanced z b h rs k = subst (λ (x : ResultOf Credit Entry). Balanced (till_of b) x.state.ledger)
    (sym (above z (till_of b) (take k rs))) (settled-balanced b h (take k rs) _)

-- the bench's sizes are in range
pub range-with : (z : Sizes) → InRange z → (b : List ℕ) → till_refusal b ≡ 0 → InRange (with_till (till_of b) z)
range-with z r b h = range-items r (omega (arith, (good b h).items, items-are b))
