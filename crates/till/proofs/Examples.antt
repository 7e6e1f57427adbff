-- A till of three rooms and four items, settled by computing: item 0 is denied until item 3 has topped room 0 up, and
-- repeated after.
use Rattle.lock.proofs.Library.{replicate, ℕ, ◌≡◌, refl, List, [], ◌∷◌, map}
use Rattle.lock.specs.{declared.Entry.Entry, Journal.{entry, kinds}, Machine.Row}
use Rattle.till.specs.{Till.{till_of, till_refusal}, Booking.fresh_ledger, Settle.{Settled, settle}}

-- rooms 0, 2, 1, 0; amounts −23, −46, 38, 49
abbrev file : List ℕ
file = 3 ∷ 4 ∷ 0 ∷ 2 ∷ 1 ∷ 0 ∷ 233 ∷ 255 ∷ 210 ∷ 255 ∷ 38 ∷ 0 ∷ 49 ∷ 0 ∷ []

taken : till_refusal file ≡ 0
taken = refl

-- rows with these orders, and entries with these kinds
abbrev rows_with : List ℕ → List Row
rows_with os = map (λ (o : ℕ). record { thread = 0; order = o }) os

abbrev entries_with : List ℕ → List Entry
entries_with ks = map (λ (k : ℕ). entry k 33) ks

abbrev made : Settled
unfolding settle
made = settle (till_of file) (fresh_ledger (till_of file)) (rows_with (1 ∷ 96 ∷ 99 ∷ 96 ∷ 97 ∷ 98 ∷ 96 ∷ 95 ∷ 128 ∷ []))
    (entries_with (0 ∷ 11 ∷ 11 ∷ 11 ∷ 11 ∷ 11 ∷ 11 ∷ 1 ∷ 2 ∷ []))

kinds-are : kinds made.entries ≡ 0 ∷ 13 ∷ 11 ∷ 11 ∷ 13 ∷ 11 ∷ 12 ∷ 1 ∷ 2 ∷ []
unfolding settle
kinds-are = refl

balances-are : made.ledger.balances ≡ 26 ∷ 38 ∷ 0 ∷ []
unfolding settle
balances-are = refl

-- refused: an empty file, no room, 33 rooms, 33 items, a room number R, a byte short, a byte more
abbrev wrong : List (List ℕ)
wrong =
    [] ∷ (0 ∷ 0 ∷ []) ∷ (33 ∷ 0 ∷ []) ∷ (1 ∷ 33 ∷ []) ∷ (1 ∷ 1 ∷ 1 ∷ 0 ∷ 0 ∷ []) ∷ (1 ∷ 1 ∷ 0 ∷ 0 ∷ [])
    ∷ (1 ∷ 0 ∷ 0 ∷ []) ∷ []

all-refused : map till_refusal wrong ≡ replicate 7 10
all-refused = refl
