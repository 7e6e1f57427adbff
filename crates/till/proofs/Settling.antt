-- Settling rows: the balances add up after any, and no entry is charged twice.
use Rattle.lock.proofs.Library.{ℕ, zero, suc, ◌+◌, ◌<◌, zero-le, ◌-◌, ◌≡◌, refl, sym, ap, subst, ◌∙◌, Bool, true, false}
use Rattle.lock.proofs.Library.{List, [], ◌∷◌, Option, none, some, suc_inj, arith, ℕ_discrete, eqb, le→leb, length}
use Rattle.lock.proofs.Library.{get_or, set, replicate, length-set, length-replicate, get_or-replicate, get_or-set_same}
use Rattle.lock.proofs.{Library.{get_or-set_other, eq-eqb, ne_eqb, le-leb, lt-ltb}, Choice.{clash, if-both}}
use lib.{IntN.{ℤ, pos, negsuc, ◌+ℤ◌, +ℤ_idl, +ℤ_assoc, +ℤ_comm}, Signed.{◌≤ℤ◌, le_z_yes}}
use Rattle.std.specs.Prelude.{if◌then◌else◌}
use Rattle.lock.specs.{declared.Entry.Entry, Journal.entry, Machine.Row}
use Rattle.till.specs.{Till.{Item, Till, till_of, till_refusal}, Booking.{Ledger, fresh_ledger, natural, nothing}}
use Rattle.till.specs.{Booking.{item_of, with_amount, Booked, paid, book, is_booking}, Balanced.{part, sum_of}}
use Rattle.till.specs.{Balanced.Balanced, Settle.{Kept, settle_row, settle}}
use Rattle.till.proofs.Good.{Roomed, good, items-are}

-- ---- sums

swap : (a b c : ℤ) → a +ℤ (b +ℤ c) ≡ b +ℤ (a +ℤ c)
swap a b c = sym (+ℤ_assoc a b c) ∙ ap (λ (x : ℤ). x +ℤ c) (+ℤ_comm a b) ∙ +ℤ_assoc b a c

part-nothing : (b : Bool) → (if b then pos 0 else pos 0) ≡ pos 0
part-nothing true = refl
part-nothing false = refl

-- one item more is marked
sum-mark : (q : ℕ) (xs : List Item) (ms : List Bool) (e : ℕ) → length ms ≡ length xs → get_or ms e false ≡ false
    → sum_of q xs (set ms e true) ≡ part q (get_or xs e nothing) true +ℤ sum_of q xs ms
sum-mark q [] [] e l h = sym (ap (λ (x : ℤ). x +ℤ pos 0) (part-nothing (eqb 0 q)))
sum-mark q [] (m ∷ ms) e l h = absurd (omega arith)
sum-mark q (x ∷ xs) [] e l h = absurd (omega arith)
sum-mark q (x ∷ xs) (m ∷ ms) zero l h = rw h (ap (λ (y : ℤ). part q x true +ℤ y) (sym (+ℤ_idl (sum_of q xs ms))))
sum-mark q (x ∷ xs) (m ∷ ms) (suc e) l h =
    ap (λ (y : ℤ). part q x m +ℤ y) (sum-mark q xs ms e (suc_inj l) h)
    ∙ swap (part q x m) (part q (get_or xs e nothing) true) (sum_of q xs ms)

none-marked : (q : ℕ) (xs : List Item) (n : ℕ) → sum_of q xs (replicate n false) ≡ pos 0
none-marked q [] n = refl
none-marked q (x ∷ xs) zero = refl
none-marked q (x ∷ xs) (suc n) = +ℤ_idl _ ∙ none-marked q xs n

above : (n : ℕ) → pos 0 ≤ℤ pos n
above n = le_z_yes (le→leb 0 n zero-le)

-- ---- one booking

-- the table has a balance for each room and a mark for each item, and its balances add up
pub record Adds (i : Till) (l : Ledger) : Type 0 where
  pub rooms : length l.balances ≡ i.rooms
  pub marked : length l.marks ≡ length i.items
  pub adds : (q : ℕ) → q < i.rooms → pos (get_or l.balances q 0) ≡ sum_of q i.items l.marks

pub adds-balanced : {i : Till} {l : Ledger} → Adds i l → Balanced i l
adds-balanced h = record { adds = h.adds; never-below = λ q k. subst (λ (y : ℤ). pos 0 ≤ℤ y) (h.adds q k) (above _) }

module _ (i : Till) (inside : Roomed i) where
  paid-adds : (l : Ledger) (e : ℕ) → Adds i l → get_or l.marks e false ≡ false
      → (o : Option ℕ) → with_amount i l e ≡ o → Adds i (paid l e (item_of i e).room o).ledger
  paid-adds l e h m none w = h
  paid-adds l e h m (some b) w =
      record {
        rooms = length-set l.balances _ _ ∙ h.rooms;
        marked = length-set l.marks _ _ ∙ h.marked;
        adds = λ q k. elim (ℕ_discrete q r) [
          | yes p ↦ rw p here
          | no n ↦ ap pos (get_or-set_other l.balances r q b 0 n)
              ∙ h.adds q k ∙ sym (more q false (ne_eqb r q (λ p. n (sym p))) ∙ +ℤ_idl _)
        ];
      }
    where
      r : ℕ
      r = (item_of i e).room

      is_some : (v : ℤ) → natural v ≡ some b → v ≡ pos b
      is_some (pos n) w = let k : n ≡ b = cc in ap pos k
      is_some (negsuc n) w = clash cc

      -- the sum of a room, by whether it is the item's
      more : (q : ℕ) (c : Bool) → eqb r q ≡ c → sum_of q i.items (set l.marks e true)
          ≡ (if c then (item_of i e).amount else pos 0) +ℤ sum_of q i.items l.marks
      more q c w =
          sum-mark q i.items l.marks e h.marked m
          ∙ ap (λ (d : Bool). (if d then (item_of i e).amount else pos 0) +ℤ sum_of q i.items l.marks) w

      here : pos (get_or (set l.balances r b) r 0) ≡ sum_of r i.items (set l.marks e true)
      here =
          ap pos (get_or-set_same l.balances r b 0 (subst (λ (n : ℕ). r < n) (sym h.rooms) (inside e)))
          ∙ sym (is_some _ w)
          ∙ +ℤ_comm (pos (get_or l.balances r 0)) (item_of i e).amount
          ∙ ap (λ (y : ℤ). (item_of i e).amount +ℤ y) (h.adds r (inside e))
          ∙ sym (more r true (eq-eqb r r refl))

  pub book-adds : (l : Ledger) (e : ℕ) → Adds i l → Adds i (book i l e).ledger
  unfolding book
  book-adds l e h =
      if-both (λ (b : Booked). Adds i b.ledger) (get_or l.marks e false) (λ m. h) (λ m. paid-adds l e h m _ refl)

pub fresh-adds : (i : Till) → Adds i (fresh_ledger i)
fresh-adds i =
    record {
      rooms = length-replicate i.rooms 0;
      marked = length-replicate (length i.items) false;
      adds = λ q k. ap pos (get_or-replicate i.rooms q 0 0 k) ∙ sym (none-marked q i.items (length i.items));
    }

-- ---- one row

-- a booking, and any other row, which changes nothing and whose entry stays
pub row-books : (i : Till) (l : Ledger) (r : Row) (e : Entry) → is_booking r ≡ true
    → settle_row i l r e
    ≡ record { ledger = (book i l (r.order - 96)).ledger; entered = entry (book i l (r.order - 96)).kind 33 }
unfolding settle_row
row-books i l r e h = rw h

pub row_stays : (i : Till) (l : Ledger) (r : Row) (e : Entry)
    → is_booking r ≡ false → settle_row i l r e ≡ record { ledger = l; entered = e }
unfolding settle_row
row_stays i l r e h = rw h

-- a fact of either
pub by_row : (P : Kept → Type 0) (i : Till) (l : Ledger) (r : Row) (e : Entry)
    → (is_booking r ≡ true → P (record {
      ledger = (book i l (r.order - 96)).ledger;
      entered = entry (book i l (r.order - 96)).kind 33;
    }))
    → (is_booking r ≡ false → P (record { ledger = l; entered = e })) → P (settle_row i l r e)
unfolding settle_row
by_row P i l r e f g = if-both P (is_booking r) f g

pub row-adds : (i : Till)
    → Roomed i → (l : Ledger) (r : Row) (e : Entry) → Adds i l → Adds i (settle_row i l r e).ledger
row-adds i inside l r e h =
    by_row (λ x. Adds i x.ledger) i l r e (λ y. book-adds i inside l (r.order - 96) h) (λ y. h)

-- ---- rows

module _ (i : Till) where
  pub settle-adds : Roomed i
      → (l : Ledger) (rs : List Row) (es : List Entry) → Adds i l → Adds i (settle i l rs es).ledger
  unfolding settle
  settle-adds inside l [] es h = h
  settle-adds inside l (r ∷ rs) [] h = h
  settle-adds inside l (r ∷ rs) (e ∷ es) h =
      settle-adds inside (settle_row i l r e).ledger rs es (row-adds i inside l r e h)

-- ---- of a till that is not refused, after any rows

pub settled-balanced : (b : List ℕ) → till_refusal b ≡ 0
    → (rs : List Row) (es : List Entry) → Balanced (till_of b) (settle (till_of b) (fresh_ledger (till_of b)) rs es).ledger
settled-balanced b h rs es =
    adds-balanced (settle-adds (till_of b) (good b h).roomed (fresh_ledger (till_of b)) rs es (fresh-adds (till_of b)))

-- ---- of the rows that book an item, at most one is booked

abbrev Marked : ℕ → Ledger → Type 0
Marked e l = get_or l.marks e false ≡ true

module _ (i : Till) where
  -- what is marked stays so, and is not booked again
  set-marked : (ms : List Bool) (e n : ℕ) → get_or ms e false ≡ true → get_or (set ms n true) e false ≡ true
  set-marked [] e n h = h
  set-marked (m ∷ ms) zero zero h = refl
  set-marked (m ∷ ms) zero (suc n) h = h
  set-marked (m ∷ ms) (suc e) zero h = h
  set-marked (m ∷ ms) (suc e) (suc n) h = set-marked ms e n h

  -- a booking, or none: the table stays, or has another balance and one mark more
  row_keeps : (P : Ledger → Type 0) (l : Ledger) (r : Row) (x : Entry) → P l
      → ((n q b : ℕ) → P (paid l n q (some b)).ledger) → P (settle_row i l r x).ledger
  unfolding book
  row_keeps P l r x h f =
      let n = r.order - 96 in
      by_row (λ k. P k.ledger) i l r x
      (λ y. if-both (λ (b : Booked). P b.ledger) (get_or l.marks n false) (λ z. h) (λ z. pays (with_amount i l n)))
      (λ y. h)
    where
      pays : (o : Option ℕ) → P (paid l (r.order - 96) (item_of i (r.order - 96)).room o).ledger
      pays none = h
      pays (some b) = f (r.order - 96) (item_of i (r.order - 96)).room b

  row-marked : (l : Ledger) (r : Row) (x : Entry) (e : ℕ) → Marked e l → Marked e (settle_row i l r x).ledger
  row-marked l r x e h = row_keeps (Marked e) l r x h (λ n q b. set-marked l.marks e n h)

  repeated : (l : Ledger) (e : ℕ) → Marked e l → (book i l e).kind ≡ 12
  unfolding book
  repeated l e h = rw h

  -- what is booked is marked
  paid-marks : (l : Ledger) (e q : ℕ) (o : Option ℕ)
      → e < length l.marks → (paid l e q o).kind ≡ 11 → Marked e (paid l e q o).ledger
  paid-marks l e q none k h = absurd (omega arith)
  paid-marks l e q (some b) k h = get_or-set_same l.marks e true false k

  book-marks : (l : Ledger) (e : ℕ) → e < length l.marks → (book i l e).kind ≡ 11 → Marked e (book i l e).ledger
  unfolding book
  book-marks l e k =
      if-both (λ (b : Booked). b.kind ≡ 11 → Marked e b.ledger)
      (get_or l.marks e false) (λ y h. y) (λ y h. paid-marks l e (item_of i e).room (with_amount i l e) k h)

  -- the marks stay as many
  row-long : (l : Ledger) (r : Row) (x : Entry) → length (settle_row i l r x).ledger.marks ≡ length l.marks
  row-long l r x =
      row_keeps (λ (k : Ledger). length k.marks ≡ length l.marks) l r x refl
      (λ n q b. length-set l.marks n true)

  -- ---- a row that books e

  module _ (e : ℕ) (few : e < 32) where
    abbrev Books : Row → Type 0
    Books r = r.order ≡ 96 + e

    is-booking : (r : Row) → Books r → is_booking r ≡ true
    is-booking r h = rw (le-leb 96 r.order (omega arith), lt-ltb r.order 128 (omega arith))

    number : (r : Row) → Books r → r.order - 96 ≡ e
    number r h = omega arith

    row-kind : (l : Ledger) (r : Row) (x : Entry) → Books r → (settle_row i l r x).entered.kind ≡ (book i l e).kind
    row-kind l r x h = ap (λ (k : Kept). k.entered.kind) (row-books i l r x (is-booking r h))
        ∙ ap (λ (n : ℕ). (book i l n).kind) (number r h)

    row-marks : (l : Ledger) (r : Row) (x : Entry)
        → Books r → e < length l.marks → (settle_row i l r x).entered.kind ≡ 11 → Marked e (settle_row i l r x).ledger
    row-marks l r x h k w =
        subst (Marked e) (sym (ap (λ (k : Kept). k.ledger) (row-books i l r x (is-booking r h))
        ∙ ap (λ (n : ℕ). (book i l n).ledger) (number r h)))
        (book-marks l e k (sym (row-kind l r x h) ∙ w))

    -- row k books e, and is settled as booked (r and x stand for what is behind the lists' ends)
    record Charged (r : Row) (x : Entry) (l : Ledger) (rs : List Row) (es : List Entry) (k : ℕ) : Type 0 where
      row : k < length rs
      entered : k < length es
      books : Books (get_or rs k r)
      kind : (get_or (settle i l rs es).entries k x).kind ≡ 11

    module _ (d : Row) (d' : Entry) where
      next : (l : Ledger) (r : Row) (rs : List Row) (x : Entry) (es : List Entry) (k : ℕ)
          → Charged d d' l (r ∷ rs) (x ∷ es) (suc k) → Charged d d' (settle_row i l r x).ledger rs es k
      unfolding settle
      next l r rs x es k c =
          record {
            row = omega (arith, c.row);
            entered = omega (arith, c.entered);
            books = c.books;
            kind = c.kind;
          }

      -- of a marked item no row is booked
      never : (l : Ledger) (rs : List Row) (es : List Entry) (k : ℕ) → Charged d d' l rs es k → Marked e l → ⊥
      unfolding settle
      never l [] es k c m = omega (arith, c.row)
      never l (r ∷ rs) [] k c m = omega (arith, c.entered)
      never l (r ∷ rs) (x ∷ es) zero c m = omega (arith, row-kind l r x c.books, repeated l e m, c.kind)
      never l (r ∷ rs) (x ∷ es) (suc k) c m =
          never (settle_row i l r x).ledger rs es k (next l r rs x es k c) (row-marked l r x e m)

      twice : (l : Ledger) (rs : List Row) (es : List Entry) (j k : ℕ)
          → e < length l.marks → Charged d d' l rs es j → Charged d d' l rs es k → j ≡ k
      unfolding settle
      twice l [] es j k m a b = absurd (omega (arith, a.row))
      twice l (r ∷ rs) [] j k m a b = absurd (omega (arith, a.entered))
      twice l (r ∷ rs) (x ∷ es) zero zero m a b = refl
      twice l (r ∷ rs) (x ∷ es) zero (suc k) m a b =
          absurd (never _ rs es k (next l r rs x es k b) (row-marks l r x a.books m a.kind))
      twice l (r ∷ rs) (x ∷ es) (suc j) zero m a b =
          absurd (never _ rs es j (next l r rs x es j a) (row-marks l r x b.books m b.kind))
      twice l (r ∷ rs) (x ∷ es) (suc j) (suc k) m a b =
          ap suc (twice (settle_row i l r x).ledger rs es j k (omega (arith, row-long l r x)) (next l r rs x es j a)
          (next l r rs x es k b))

-- "An entry already booked changes nothing": of a till that is not refused, the rows j and k book the item e and both
-- are settled as booked; then they are one row. (r and x stand for what is behind the lists' ends.)
pub booked-once : (b : List ℕ) → till_refusal b ≡ 0
    → (rs : List Row) (es : List Entry) (e j k : ℕ) (r : Row) (x : Entry) → e < length (till_of b).items
    → j < length rs → j < length es
    → k < length rs → k < length es → (get_or rs j r).order ≡ 96 + e → (get_or rs k r).order ≡ 96 + e
    → (get_or (settle (till_of b) (fresh_ledger (till_of b)) rs es).entries j x).kind ≡ 11
    → (get_or (settle (till_of b) (fresh_ledger (till_of b)) rs es).entries k x).kind ≡ 11 → j ≡ k
booked-once b h rs es e j k r x m p q p' q' c d w w' =
    twice (till_of b) e (omega (arith, m, (good b h).items, items-are b)) r x (fresh_ledger (till_of b)) rs es j k
    (omega (arith, length-replicate (length (till_of b).items) false))
    (record { row = p; entered = q; books = c; kind = w }) (record { row = p'; entered = q'; books = d; kind = w' })
