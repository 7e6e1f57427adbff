-- Runs with a till: each kind of a booking, and each refusal of one.
use Rattle.std.specs.Prelude.{ℕ, List, [], ◌∷◌, ◌++◌}
use Rattle.lock.specs.declared.Entry.{Entry}
use Rattle.lock.specs.Journal.{kinds, words}
use Rattle.lock.specs.Machine.{Row, ResultOf}
use Rattle.lock.specs.File.{filed}
use Rattle.lock.specs.Text.{text}
use Rattle.lock.specs.Examples.{ExampleOf, AllGive, sizes, by}
use Rattle.till.specs.Till.{Till, till_of}
use Rattle.credit_model.specs.Credit.{Credit, start, run}

-- two rooms and three items: 5 into room 0, 3 out of it, 4 out of room 1
abbrev till : Till
till = till_of (2 ∷ 3 ∷ 0 ∷ 0 ∷ 1 ∷ 5 ∷ 0 ∷ 253 ∷ 255 ∷ 252 ∷ 255 ∷ [])

-- the answer, the journal and the balances
pub record Ending : Type 0 where
  pub answer : ℕ
  pub kinds : List ℕ
  pub words : List ℕ
  pub balances : List ℕ

abbrev ending : ResultOf Credit Entry → Ending
ending r = record {
  answer = r.answer;
  kinds = kinds r.entries;
  words = words r.entries;
  balances = r.state.ledger.balances;
}

abbrev pub Example : Type 0
Example = ExampleOf (List Row) Ending

abbrev example : List Row → ℕ → List ℕ → List ℕ → List ℕ → Example
example rs n ks ws bs = record { gets = rs; gives = record { answer = n; kinds = ks; words = ws; balances = bs } }

-- thread 0 writes the first lock
abbrev writes : List Row
writes = by 0 (1 ∷ 0 ∷ 0 ∷ [])

-- Denied, topped up, booked, repeated, and denied in another room. Then what is refused: a thread that does not write,
-- one that writes and is in a call of the second lock, one that writes the second lock alone; item 3 of 3, a booking
-- with 128 added, and thread 2 of 2.
unfoldable pub examples : List Example
examples =
    example (writes ++ by 0 (97 ∷ 96 ∷ 97 ∷ 97 ∷ 98 ∷ [])) 0
    (0 ∷ 1 ∷ 2 ∷ 13 ∷ 11 ∷ 11 ∷ 12 ∷ 13 ∷ []) (33 ∷ 0 ∷ 0 ∷ 33 ∷ 33 ∷ 33 ∷ 33 ∷ 33 ∷ []) (2 ∷ 0 ∷ [])
    ∷ example (writes ++ by 0 (96 ∷ []) ++ by 1 (96 ∷ [])) 7 (0 ∷ 1 ∷ 2 ∷ 11 ∷ []) (33 ∷ 0 ∷ 0 ∷ 33 ∷ []) (5 ∷ 0 ∷ [])
    ∷ example (writes ++ by 0 (129 ∷ 96 ∷ [])) 7 (0 ∷ 1 ∷ 2 ∷ 0 ∷ []) (33 ∷ 0 ∷ 0 ∷ 97 ∷ []) (0 ∷ 0 ∷ [])
    ∷ example (by 0 (129 ∷ 0 ∷ 0 ∷ 96 ∷ [])) 7 (0 ∷ 1 ∷ 2 ∷ []) (97 ∷ 64 ∷ 64 ∷ []) (0 ∷ 0 ∷ [])
    ∷ example (writes ++ by 0 (99 ∷ [])) 6 (0 ∷ 1 ∷ 2 ∷ []) (33 ∷ 0 ∷ 0 ∷ []) (0 ∷ 0 ∷ [])
    ∷ example (writes ++ by 0 (224 ∷ [])) 6 (0 ∷ 1 ∷ 2 ∷ []) (33 ∷ 0 ∷ 0 ∷ []) (0 ∷ 0 ∷ [])
    ∷ example (by 1 (99 ∷ [])) 6 [] [] (0 ∷ 0 ∷ [])
    ∷ example (by 2 (99 ∷ [])) 5 [] [] (0 ∷ 0 ∷ [])
    ∷ []

unfoldable pub AllEnd : List Example → Type 0
unfolding run
AllEnd = AllGive (λ (rs : List Row). ending (run (sizes 1 1 2) till (start till) rs))

-- ---- a sale, byte for byte

-- Thread 0 reads, upgrades, is denied a song, tops up, pays for it, and pays again, which is repeated; it downgrades,
-- and writes the second lock.
unfoldable pub sale : List ℕ
sale =
    filed (sizes 1 1 1)
    (by 0 (64 ∷ 0 ∷ 0 ∷ 3 ∷ 0 ∷ 0 ∷ 97 ∷ 96 ∷ 97 ∷ 97 ∷ 4 ∷ 0 ∷ 0 ∷ 0 ∷ 0 ∷ 129 ∷ 0 ∷ 0 ∷ []))

-- two rooms and two items: 20 into room 1, 3 out of it
unfoldable pub sale_till : List ℕ
sale_till = 2 ∷ 2 ∷ 1 ∷ 1 ∷ 20 ∷ 0 ∷ 253 ∷ 255 ∷ []

unfoldable pub sale_sheet : List ℕ
unfolding text
sale_sheet =
    text "answer 0 at 18\nroot 1 0 open\nqueue free 0 0\nthread 0 reading 0 0\n"
    ++ text "root 0 0 closed\nqueue free 0 0\nthread 0 writing - 0\nroom 0 0\nroom 1 17\n"

-- the kinds, and the words
unfoldable pub sale_journal : List ℕ
sale_journal =
    0x00 ∷ 0x01 ∷ 0x02 ∷ 0x00 ∷ 0x01 ∷ 0x02 ∷ 0x0d ∷ 0x0b ∷ 0x0b ∷ 0x0c
    ∷ 0x00 ∷ 0x06 ∷ 0x08 ∷ 0x05 ∷ 0x07 ∷ 0x00 ∷ 0x01 ∷ 0x02
    ∷ 0x21 ∷ 0x00 ∷ 0x00 ∷ 0x21 ∷ 0x00 ∷ 0x00 ∷ 0x21 ∷ 0x21 ∷ 0x21 ∷ 0x21
    ∷ 0x21 ∷ 0x20 ∷ 0x20 ∷ 0x00 ∷ 0x20 ∷ 0x61 ∷ 0x40 ∷ 0x40 ∷ []
