-- The table in place, cell by cell, and its room lines.
use Rattle.lock.proofs.Library.{ℕ, zero, suc, ◌+◌, ◌≤◌, ◌<◌, ◌≡◌, refl, ap, ap₂, ◌∙◌, Bool, true, false, List, [], ◌∷◌}
use Rattle.lock.proofs.Library.{map, ◌++◌, arith, length, get_or, set, replicate, take, drop, length-append, length-take}
use Rattle.lock.proofs.Library.{List·getD-map, get_or-take, get_or-drop, take-set-le, take-set-lt, drop-set-add}
use Rattle.lock.proofs.Library.{drop-set-lt}
use Rattle.lock.specs.Text.{text, decimal}
use Rattle.text.proofs.{Shape.last-field, Decimal.{decimal-length, decimal-short}, Lines.lines-between}
use Rattle.till.specs.{Till.{Till, till_of, till_refusal}, Booking.{fresh_ledger, Ledger}, View.{is_marked, ledger_of}}
use Rattle.till.specs.{View.none_booked, Rooms.{room_line, room_lines}}
use Rattle.till.proofs.Good.{good, items-are}

map-set : (f : ℕ → Bool) (xs : List ℕ) (k a : ℕ) → map f (set xs k a) ≡ set (map f xs) k (f a)
map-set f [] k a = refl
map-set f (x ∷ xs) zero a = refl
map-set f (x ∷ xs) (suc k) a = ap (λ (ys : List Bool). f x ∷ ys) (map-set f xs k a)

module _ (i : Till) (l : List ℕ) where
  pub mark-at : (e : ℕ) → e < length i.items → get_or (ledger_of i l).marks e false ≡ is_marked (get_or l (32 + e) 0)
  mark-at e h =
      List·getD-map is_marked (take (length i.items) (drop 32 l)) e 0
      ∙ ap is_marked (get_or-take _ (drop 32 l) e 0 h ∙ get_or-drop 32 l e 0)

  pub balance-at : (q : ℕ) → q < i.rooms → get_or (ledger_of i l).balances q 0 ≡ get_or l q 0
  balance-at q h = get_or-take i.rooms l q 0 h

  -- a balance and a mark stored
  module _ (few : i.rooms ≤ 32) (q v e : ℕ) (inside : q < i.rooms) (there : e < length i.items) where
    balances-put : take i.rooms (set (set l q v) (32 + e) 1) ≡ set (take i.rooms l) q v
    balances-put = take-set-le i.rooms (set l q v) (32 + e) 1 (omega arith) ∙ take-set-lt i.rooms l q v inside

    marks-put : map is_marked (take (length i.items) (drop 32 (set (set l q v) (32 + e) 1)))
        ≡ set (map is_marked (take (length i.items) (drop 32 l))) e true
    marks-put =
        ap (λ (x : List ℕ). map is_marked (take (length i.items) x))
        (drop-set-add 32 (set l q v) e 1 ∙ ap (λ (x : List ℕ). set x e 1) (drop-set-lt 32 l q v (omega arith)))
        ∙ ap (map is_marked) (take-set-lt (length i.items) (drop 32 l) e 1 there)
        ∙ map-set is_marked (take (length i.items) (drop 32 l)) e 1

    pub both-put : ledger_of i (set (set l q v) (32 + e) 1)
        ≡ record { balances = set (ledger_of i l).balances q v; marks = set (ledger_of i l).marks e true }
    both-put = ap₂ (λ (x : List ℕ) (y : List Bool). record { balances = x; marks = y }) balances-put marks-put

-- ---- nothing is booked

pub take_same : (a k n : ℕ) → k ≤ n → take k (replicate n a) ≡ replicate k a
take_same a zero n h = refl
take_same a (suc k) zero h = absurd (omega arith)
take_same a (suc k) (suc n) h = ap (λ (x : List ℕ). a ∷ x) (take_same a k n (omega arith))

unmarked : (k : ℕ) → map is_marked (replicate {A = ℕ} k 0) ≡ replicate k false
unmarked zero = refl
unmarked (suc k) = ap (λ (x : List Bool). false ∷ x) (unmarked k)

pub none-booked : (b : List ℕ) → till_refusal b ≡ 0 → ledger_of (till_of b) none_booked ≡ fresh_ledger (till_of b)
none-booked b h =
    let g = good b h in
    let n = length (till_of b).items in
    ap₂ (λ (x : List ℕ) (y : List Bool). record { balances = x; marks = y })
    (take_same 0 (till_of b).rooms 64 (omega (arith, g.rooms)))
    (ap (map is_marked) (take_same 0 n 32 (omega (arith, g.items, items-are b))) ∙ unmarked n)

-- ---- the room lines: a line by its two fields, and their length

pub room-is : (q v : ℕ) → room_line q v ≡ (text "room " ++ decimal q) ++ (text " " ++ decimal v ++ text "\n")
unfolding room_line
room-is q v = last-field (text "room " ++ decimal q) (text " ") (decimal v) (text "\n")

room-length : (q v : ℕ) → 0 ≤ q → q < 100 → length (room_line q v) ≤ 19
unfolding text
room-length q v from to = rw (room-is q v) (simp length-append (omega (arith, decimal-short q to, decimal-length v)))

-- 32 lines of at most 19 bytes
pub rooms-length : (l : Ledger) → length l.balances ≤ 32 → length (room_lines l) ≤ 608
rooms-length l few =
    omega (arith, few, lines-between room_line 0 100 19 room-length 0 l.balances (omega arith) (omega (arith, few)))

pub rooms-fit : (b l : List ℕ) → till_refusal b ≡ 0 → length (room_lines (ledger_of (till_of b) l)) ≤ 608
rooms-fit b l h = rooms-length (ledger_of (till_of b) l) (omega (arith, length-take (till_of b).rooms l, (good b h).rooms))
