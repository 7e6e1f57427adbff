-- One booking in place, each way through it a case of the definition; and settling over bytes: the loop's invariant,
-- and from the bytes to the entries.
use Rattle.lock.proofs.Library.{ℕ, ◌+◌, ◌<◌, suc, ◌-◌, ◌≤◌, ◌≡◌, refl, sym, ap, subst, ◌∙◌, true, false, List, []}
use Rattle.lock.proofs.Library.{◌∷◌, ◌++◌, append_assoc, Option, none, some, arith, get_or, set, length-set, length, take}
use Rattle.lock.proofs.Library.{drop, length-take, take-append-drop, drop_of_length-le, eq-eqb, ne_eqb, leb-true, ltb}
use Rattle.lock.proofs.{Library.{leb, drop-cons, take-suc-set, drop-set-lt, get_or-take}, Choice.{by-test, clash}}
use Rattle.lock.proofs.Accepted.{both}
use lib.IntN.{pos, ◌+ℤ◌}
use native.Mathlib.Numerals.{add-one}
use Rattle.lock.specs.{declared.Entry.Entry, Journal.{entry, kinds}, File.paired}
use Rattle.till.specs.{Till.{Item, Till, signed, amount_at, item_at, till_of, till_refusal}, Booking.{Ledger, natural}}
use Rattle.till.specs.{Booking.{item_of, with_amount, paid, book, fresh_ledger, books}, Settle.{settle_row, settle}}
use Rattle.till.{specs.View.{ledger_of, none_booked, Clean}, proofs.Good.{good, items-are, item-is, balance-below}}
use Rattle.till.proofs.Table.{clean-table, clean-none, clean-booked}
use Rattle.till.proofs.View.{mark-at, balance-at, both-put, none-booked}
use Rattle.till.proofs.Settling.{Adds, adds-balanced, fresh-adds, row-books, row_stays, row-adds}
use Rattle.std.specs.Prelude as rust
use Rattle.settling.specs.Settles.{paid_as, Bookable, Books, ordered, RowBookable, SettlesRow, Settleable, Settles}

-- ---- what becomes of a balance

is-denied : (o : Option ℕ) → paid_as o ≡ rust.None → o ≡ none
is-denied none h = refl
is-denied (some v) h = clash cc

is-balance : (o : Option ℕ) (v : ℕ) → paid_as o ≡ rust.Some v → o ≡ some v
is-balance none v h = clash cc
is-balance (some w) v h = let x : w ≡ v = cc in ap some x

-- ---- in place

module _ {b l : List ℕ} {e : ℕ} (h : Bookable b l e) where
  abbrev till : Till
  till = till_of b

  item-there : e < get_or b 1 0
  item-there = omega (arith, h.there, items-are b)

  pub few : e < 32
  few = omega (arith, item-there, (good b h.good).items)

  item : item_of till e ≡ item_at b (get_or b 1 0) e
  item = item-is b e item-there

  pub room-inside : get_or b (2 + e) 0 < till.rooms
  room-inside = subst (λ (x : Item). x.room < till.rooms) item ((good b h.good).roomed e)

  pub room-few : get_or b (2 + e) 0 < 32
  room-few = omega (arith, room-inside, (good b h.good).rooms)

  pub balance-fits : get_or l (get_or b (2 + e) 0) 0 < 2097152
  balance-fits =
      subst (λ (n : ℕ). n < 2097152) (balance-at till l (get_or b (2 + e) 0) room-inside)
      (balance-below b (ledger_of till l) h.good h.balanced (get_or b (2 + e) 0) room-inside)

  -- the item is marked
  pub books_again : get_or l (32 + e) 0 ≡ 1 → Books b e l l 12
  unfolding book
  books_again k =
      let m = mark-at till l e h.there ∙ eq-eqb (get_or l (32 + e) 0) 1 k in
      record { ledger = rw m; is = rw m; clean = h.clean }

  -- it is not: room and amount were read, and p is what becomes of the balance
  module _ (new : get_or l (32 + e) 0 ≡ 1 → ⊥)
      {q v : ℕ} {p : rust.Option ℕ} (room : q ≡ get_or b (2 + e) 0) (amount : v ≡ amount_at b (get_or b 1 0) e)
      (pays : p ≡ paid_as (natural (pos (get_or l q 0) +ℤ signed v))) where
    unmarked : get_or (ledger_of till l).marks e false ≡ false
    unmarked = mark-at till l e h.there ∙ ne_eqb (get_or l (32 + e) 0) 1 new

    after_is : with_amount till (ledger_of till l) e ≡ natural (pos (get_or l q 0) +ℤ signed v)
    after_is =
        ap (λ (x : Item). natural (pos (get_or (ledger_of till l).balances x.room 0) +ℤ x.amount)) item
        ∙ ap (λ (n : ℕ). natural (pos n +ℤ signed (amount_at b (get_or b 1 0) e)))
        (balance-at till l (get_or b (2 + e) 0) room-inside)
        ∙ rw (room, amount)

    fate : (o : Option ℕ) → natural (pos (get_or l q 0) +ℤ signed v) ≡ o
        → book till (ledger_of till l) e ≡ paid (ledger_of till l) e (get_or b (2 + e) 0) o
    unfolding book
    fate o k =
        rw unmarked (ap (λ (x : Item). paid (ledger_of till l) e x.room (with_amount till (ledger_of till l) e)) item
        ∙ ap (paid (ledger_of till l) e (get_or b (2 + e) 0)) (after_is ∙ k))

    pub books-denied : p ≡ rust.None → Books b e l l 13
    books-denied k =
        let w = fate none (is-denied _ (sym pays ∙ k)) in
        record { ledger = rw w; is = rw w; clean = h.clean }

    pub books-new : (n : ℕ) → p ≡ rust.Some n → Books b e l (set (set l q n) (32 + e) 1) 11
    books-new n k =
        let w = fate (some n) (is-balance _ n (sym pays ∙ k)) in
        record {
          ledger =
              rw (w, room) (both-put till l (good b h.good).rooms (get_or b (2 + e) 0) n e room-inside h.there);
          is = rw w;
          clean = rw room (clean-booked till l (get_or b (2 + e) 0) n e room-inside
              (good b h.good).rooms h.there (omega (arith, items-are b, (good b h.good).items)) h.clean);
        }

-- ---- one row

pub books-low : (o : ℕ) → books o ≡ true → 96 ≤ o
books-low o h = leb-true 96 o (both (leb 96 o) (ltb o 128) h).0

module _ {b l : List ℕ} {o k : ℕ} where
  pub row-booked : {l' : List ℕ} {n e : ℕ} → books o ≡ true → e ≡ o - 96 → Books b e l l' n → SettlesRow b o k l l' n
  row-booked p s h =
      let x = row-books (till_of b) (ledger_of (till_of b) l) (ordered o) (entry k 33) p in
      let g : Books b (o - 96) l _ _ = rw s at h in
      record { ledger = rw x g.ledger; is = rw x g.is; clean = g.clean }

  pub row_kept : books o ≡ false → Clean (till_of b) l → SettlesRow b o k l l k
  row_kept p n =
      let x = row_stays (till_of b) (ledger_of (till_of b) l) (ordered o) (entry k 33) p in
      record { ledger = rw x; is = rw x; clean = n }

-- ---- the rows, over bytes

pub record Bytes : Type 0 where
  pub ledger : Ledger
  pub kinds : List ℕ

abbrev behind : List ℕ → Bytes → Bytes
behind ks x = record { ledger = x.ledger; kinds = ks ++ x.kinds }

abbrev settle_bytes : Till → Ledger → List ℕ → List ℕ → Bytes
settle_bytes i l [] ks = record { ledger = l; kinds = ks }
settle_bytes i l (o ∷ os) [] = record { ledger = l; kinds = [] }
settle_bytes i l (o ∷ os) (k ∷ ks) =
    let x = settle_row i l (ordered o) (entry k 33) in behind (x.entered.kind ∷ []) (settle_bytes i x.ledger os ks)

next_row : (i : Till) (l : Ledger) (o k : ℕ) (os ks pre : List ℕ)
    → let x = settle_row i l (ordered o) (entry k 33) in behind pre (settle_bytes i l (o ∷ os) (k ∷ ks))
    ≡ behind (pre ++ x.entered.kind ∷ []) (settle_bytes i x.ledger os ks)
next_row i l o k os ks pre = rw append_assoc

-- settling goes by the orders alone, and not by the words of the entries
same_row : (i : Till) (l : Ledger) (t o : ℕ) (e : Entry)
    → let x = settle_row i l (ordered o) (entry e.kind 33) in
    let y = settle_row i l (record { thread = t; order = o }) e in
    (x.ledger ≡ y.ledger) × (x.entered.kind ≡ y.entered.kind)
unfolding settle_row
same_row i l t o e = by-test (books o) (λ h. (rw h, rw h)) (λ h. (rw h, rw h))

abbrev Same : Till → Ledger → List ℕ → List ℕ → List Entry → List ℕ → Type 0
Same i l ts os es rest =
    let x = settle_bytes i l (take (length es) os) (kinds es ++ rest) in
    let y = settle i l (paired ts os) es in
    (x.ledger ≡ y.ledger) × (x.kinds ≡ kinds y.entries ++ rest)

bytes-settle : (i : Till) (l : Ledger) (ts os : List ℕ) (es : List Entry) (rest : List ℕ)
    → length es ≤ length os → length es ≤ length ts → Same i l ts os es rest
unfolding settle
bytes-settle i l [] os [] rest p q = (refl, refl)
bytes-settle i l [] os (e ∷ es) rest p q = absurd (omega arith)
bytes-settle i l (t ∷ ts) [] [] rest p q = (refl, refl)
bytes-settle i l (t ∷ ts) [] (e ∷ es) rest p q = absurd (omega arith)
bytes-settle i l (t ∷ ts) (o ∷ os) [] rest p q = (refl, refl)
bytes-settle i l (t ∷ ts) (o ∷ os) (e ∷ es) rest p q =
    let s = same_row i l t o e in
    let y = settle_row i l (record { thread = t; order = o }) e in
    let k = bytes-settle i y.ledger ts os es rest (omega arith) (omega arith) in
    (rw s.0 k.0, rw (s.0, s.1) (ap (λ (ks : List ℕ). y.entered.kind ∷ ks) k.1))

-- After q of n rows: those before are settled, and settling the others gives the whole.
pub record Sofar (b os : List ℕ) (n : ℕ) (j₀ j l : List ℕ) (q : ℕ) : Type 0 where
  pub within : q ≤ n
  pub clean : Clean (till_of b) l
  pub same : length j ≡ length j₀
  pub adds : Adds (till_of b) (ledger_of (till_of b) l)
  pub rest : settle_bytes (till_of b) (fresh_ledger (till_of b)) (take n os) j₀
      ≡ behind (take q j) (settle_bytes (till_of b) (ledger_of (till_of b) l) (drop q (take n os)) (drop q j))

pub begun : (b os : List ℕ) (n : ℕ) (j l : List ℕ) → till_refusal b ≡ 0 → l ≡ none_booked → Sofar b os n j j l 0
begun b os n j l h e =
    let f : ledger_of (till_of b) l ≡ fresh_ledger (till_of b) = rw e (none-booked b h) in
    record { within = omega arith; clean = rw e (clean-none (till_of b)); same = refl; adds = rw f (fresh-adds (till_of b)); rest = rw f }

module _ {b os : List ℕ} {n : ℕ} {j₀ j l : List ℕ} {q : ℕ} (a : Settleable b os n j₀) (h : Sofar b os n j₀ j l q) where
  abbrev i : Till
  i = till_of b

  abbrev o : ℕ
  o = get_or os q 0

  pub may-settle : q < n → RowBookable b l o
  may-settle lt y =
      record { good = a.good; clean = h.clean; there = a.known q lt y; balanced = adds-balanced h.adds }

  pub more : {l' : List ℕ} {k' : ℕ}
      → q < n → SettlesRow b o (get_or j q 0) l l' k' → Sofar b os n j₀ (set j q k') l' (q + 1)
  more {l'} {k'} lt s =
      let x = settle_row i (ledger_of i l) (ordered o) (entry (get_or j q 0) 33) in
      let fits : q < length j = omega (arith, h.same, a.room) in
      let some : q < length (take n os) = simp length-take (omega (arith, a.orders)) in
      let d : drop q (take n os) ≡ o ∷ drop (suc q) (take n os) = drop-cons (take n os) q 0 some ∙ rw (get_or-take) in
      let f : drop q j ≡ get_or j q 0 ∷ drop (suc q) j = drop-cons j q 0 fits in
      record {
        within = omega arith;
        clean = s.clean;
        same = simp length-set h.same;
        adds = rw s.ledger
            (row-adds i (good b a.good).roomed (ledger_of i l) (ordered o) (entry (get_or j q 0) 33) h.adds);
        rest =
            h.rest
            ∙ rw (d, f, add-one, take-suc-set j q k' fits, drop-set-lt (suc q) j q k' (omega arith), s.ledger, s.is)
            (next_row i (ledger_of i l) o (get_or j q 0) (drop (suc q) (take n os)) (drop (suc q) j) (take q j));
      }

  done : n ≤ q → settle_bytes i (fresh_ledger i) (take n os) j₀ ≡ record { ledger = ledger_of i l; kinds = j }
  done le =
      let none : drop q (take n os) ≡ [] =
      drop_of_length-le (take n os) {i = q} (simp length-take (omega arith)) in h.rest ∙ rw none (rw take-append-drop)

  pub finish : n ≤ q → Settles b os n j₀ j l
  finish le =
      record {
        table = λ ts es r e f g. let k = bytes-settle i (fresh_ledger i) ts os es r (omega (arith, a.orders))
            (omega arith) in sym (ap (λ (x : Bytes). x.ledger) (done le)) ∙ rw (g, ← e) k.0;
        journal = λ ts es r e f g. let k = bytes-settle i (fresh_ledger i) ts os es r (omega (arith, a.orders))
            (omega arith) in sym (ap (λ (x : Bytes). x.kinds) (done le)) ∙ rw (g, ← e) k.1;
        all = clean-table i l h.clean
            (good b a.good).rooms (omega (arith, items-are b, (good b a.good).items));
        long = h.clean.long;
      }
