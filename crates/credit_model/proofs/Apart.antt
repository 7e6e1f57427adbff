-- The two locks are apart with bookings among the rows: from the bench's claim of the same rows, since no row of the
-- second lock is a booking.
use Rattle.lock.proofs.Library.{ℕ, ◌<◌, ◌≡◌, refl, sym, ap, subst, ◌∙◌, true, false, List, [], ◌∷◌, length}
use Rattle.lock.proofs.Choice.{by-test, clash}
use Rattle.lock.specs.{declared.Entry.Entry, declared.Sizes.Sizes, Machine.{Row, ResultOf}, File.InRange, Demand.All}
use Rattle.pair.specs.Pair.{Side, first, second, Pair, lock_of, with_lock, other, fresh_pair, Note, written, journal}
use Rattle.pair.specs.{Apart.{is, keep, rows_at, notes_at}, Demand.is_at}
use Rattle.pair.specs.Pair as pair
use Rattle.pair.proofs.{Apart.separate, Words.{Below, kept_pair}, Demand.at_own}
use Rattle.till.specs.{Till.Till, Booking.{Ledger, fresh_ledger, is_booking}, Settle.{Kept, settle_row, Settled, before}}
use Rattle.till.specs.Settle.{settle}
use Rattle.till.proofs.Settling.{by_row, row_stays}
use Rattle.credit_model.specs.{Credit.{start, run}, Above.with_till, Claims.{rows_on, entries_on, result, Apart}}
use Rattle.credit_model.proofs.Runs.{booking_note, above, Noted, noted}

module _ (z : Sizes) (i : Till) where
  -- ---- one row

  -- a settled entry is on a word of the row's lock
  module _ (l : Ledger) (r : Row)
      (m : Note) (n : is_booking r ≡ true → m ≡ booking_note) (small : m.entry.word < 64) where
    abbrev e : Entry
    e = (settle_row i l r (written m)).entered

    settled_on : (x : Side) → is_at x e ≡ is x m.side
    settled_on x =
        by_row (λ k. is_at x k.entered ≡ is x m.side) i l r (written m)
        (λ h. on-33 x _ ∙ ap (λ (y : Note). is x y.side) (sym (n h))) (λ h. at_own x m.side m.entry small)
      where
        on-33 : (x : Side) (k : ℕ) → is_at x (record { kind = k; word = 33 }) ≡ is x first
        on-33 first k = refl
        on-33 second k = refl

    -- a row of the second lock is no booking
    plain : m.side ≡ second → is_booking r ≡ false
    plain q =
        by-test (is_booking r) (λ h. let y : first ≡ second = sym (ap (λ (y : Note). y.side) (n h)) ∙ q in clash cc)
        (λ h. h)

  -- ---- the rows of a lock, and their entries

  rows-kept : (x : Side) (l : Ledger) (rs : List Row) (ms : List Note)
      → Noted z i rs ms → All (Below (with_till i z)) ms → rows_on x rs (settle i l rs (journal ms)).entries ≡ rows_at x rs ms
  unfolding settle
  rows-kept x l [] ms n b = refl
  rows-kept x l (r ∷ rs) [] n b = refl
  rows-kept x l (r ∷ rs) (m ∷ ms) n b =
      rw (settled_on l r m n.0 b.0.below x, rows-kept x (settle_row i l r (written m)).ledger rs ms n.1 b.1)

  -- the table that the rows of the lock x leave: the first lock's that of all rows, the second's the one before them
  abbrev table_of : Side → Ledger → Ledger → Ledger
  table_of first c l = l
  table_of second c l = c

  -- and what they leave in all
  abbrev left : Side → Ledger → Settled → Settled
  left x c y = record { ledger = table_of x c y.ledger; entries = entries_on x y.entries }

  -- a row of the lock, and one of the other
  module _ (c l : Ledger) (r : Row) (m : Note) (n : is_booking r ≡ true → m ≡ booking_note)
      (small : m.entry.word < 64) where
    abbrev k : Kept
    k = settle_row i l r (written m)

    own_row : (x : Side) → m.side ≡ x
        → settle_row i (table_of x c l) r (written m) ≡ record { ledger = table_of x c k.ledger; entered = k.entered }
    own_row first q = refl
    own_row second q =
        let h = plain l r m n small q in rw (row_stays i c r (written m) h, row_stays i l r (written m) h)

    other_row : (x : Side) → m.side ≡ other x → table_of x c k.ledger ≡ table_of x c l
    other_row first q = ap (λ (k : Kept). k.ledger) (row_stays i l r (written m) (plain l r m n small q))
    other_row second q = refl

  settled_at : (x : Side) (c l : Ledger) (rs : List Row) (ms : List Note) → Noted z i rs ms → All (Below (with_till i z)) ms
      → settle i (table_of x c l) (rows_at x rs ms) (journal (notes_at x ms))
      ≡ left x c (settle i l rs (journal ms))
  unfolding settle
  settled_at x c l [] ms n b = refl
  settled_at x c l (r ∷ rs) [] n b = refl
  settled_at x c l (r ∷ rs) (m ∷ ms) n b =
      from x m.side refl (settled_on l r m n.0 b.0.below x) (settled_at x c y.ledger rs ms n.1 b.1)
    where
      y : Kept
      y = settle_row i l r (written m)

      rest : Settled
      rest = settle i y.ledger rs (journal ms)

      Rest : Side → Ledger → Type 0
      Rest x d = settle i d (rows_at x rs ms) (journal (notes_at x ms)) ≡ left x c rest

      from : (x side : Side) → m.side ≡ side → is_at x y.entered ≡ is x side → Rest x (table_of x c y.ledger)
          → settle i (table_of x c l) (keep (is x side) r (rows_at x rs ms)) (journal (keep (is x side) m (notes_at x ms)))
          ≡ left x c (before y.entered rest)
      from first first q a h = rw (a, own_row c l r m n.0 b.0.below first q) (ap (before y.entered) h)
      from first second q a h = rw a (subst (Rest first) (other_row c l r m n.0 b.0.below first q) h)
      from second first q a h = rw a h
      from second second q a h = rw (a, own_row c l r m n.0 b.0.below second q) (ap (before y.entered) h)

  -- ---- the claim

  module _ (range : InRange (with_till i z)) (rs : List Row) where
    abbrev bench : ResultOf Pair Note
    bench = pair.run (with_till i z) fresh_pair rs

    abbrev table : Settled
    table = settle i (fresh_ledger i) rs (journal bench.entries)

    on : (x : Side) → rows_on x rs table.entries ≡ rows_at x rs bench.entries
    on x = rows-kept x (fresh_ledger i) rs
        bench.entries (noted z i fresh_pair rs) (kept_pair (with_till i z) range rs).entries

    -- the rows of one lock, as the bench runs them alone
    alone : (x : Side) → run z i (start i) (rows_on x rs table.entries)
        ≡ record {
          answer = 0;
          taken = length (rows_on x rs table.entries);
          state =
              record {
                locks = with_lock x (lock_of x bench.state) fresh_pair;
                ledger = table_of x (fresh_ledger i) table.ledger;
              };
          entries = entries_on x table.entries;
        }
    alone x = rw (on x) (above z i (rows_at x rs bench.entries) ∙ rw ((separate (with_till i z) x rs).rest, settled x))
      where
        Left : Side → Ledger → Type 0
        Left x c =
            settle i c (rows_at x rs bench.entries) (journal (notes_at x bench.entries))
            ≡ left x (fresh_ledger i) table

        from : (x : Side) → Left x (table_of x (fresh_ledger i) (fresh_ledger i))
        from x =
            settled_at x (fresh_ledger i) (fresh_ledger i) rs bench.entries (noted z i fresh_pair rs)
            (kept_pair (with_till i z) range rs).entries

        settled : (x : Side) → Left x (fresh_ledger i)
        settled first = from first
        settled second = from second

    pub apart : Apart z i rs (result z i rs).entries
    apart = record { one = rw (above z i rs) (alone first); two = rw (above z i rs) (alone second) }
