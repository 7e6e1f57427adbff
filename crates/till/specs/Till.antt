-- The till file (document 02, Twelve): "sizes first (rooms R, 1 to 32, entries E, 0 to 32), then E room numbers and E
-- amounts".
use Rattle.std.specs.Prelude.{ℕ, zero, suc, ◌+◌, ◌*◌, ◌-◌, Bool, true, ◌&&◌, List, [], ◌∷◌, ℤ, pos, negsuc, eqb, ltb, leb, length, get_or}
use Rattle.std.specs.Prelude.{if◌then◌else◌}
use Rattle.lock.specs.File.{within}

-- an item of the file: "positive for a top-up, negative for songs"
pub record Item : Type 0 where
  pub room : ℕ
  pub amount : ℤ

pub record Till : Type 0 where
  pub rooms : ℕ
  pub items : List Item

-- "signed 16-bit": two bytes as one number
abbrev pub signed : ℕ → ℤ
signed v = if ltb v 32768 then pos v else negsuc (65535 - v)

-- "E room numbers and E amounts, … low byte first": the two bytes of the amount e of E
abbrev pub amount_at : List ℕ → ℕ → ℕ → ℕ
amount_at b E e = get_or b (2 + E + 2 * e) 0 + 256 * get_or b (3 + E + 2 * e) 0

abbrev pub item_at : List ℕ → ℕ → ℕ → Item
item_at b E e = record { room = get_or b (2 + e) 0; amount = signed (amount_at b E e) }

-- k items from item e on
abbrev pub items_from : List ℕ → ℕ → ℕ → ℕ → List Item
items_from b E zero e = []
items_from b E (suc k) e = item_at b E e ∷ items_from b E k (suc e)

abbrev pub till_of : List ℕ → Till
till_of b = record { rooms = get_or b 0 0; items = items_from b (get_or b 1 0) (get_or b 1 0) 0 }

-- is each item of a room below R?
abbrev pub roomed : ℕ → List Item → Bool
roomed R [] = true
roomed R (x ∷ xs) = ltb x.room R && roomed R xs

-- "rooms R, 1 to 32, entries E, 0 to 32"; E bytes and E times two behind the sizes; room numbers below R
abbrev pub is_till : List ℕ → Bool
is_till b = within 1 32 (get_or b 0 0)
    && leb (get_or b 1 0) 32 && eqb (length b) (2 + 3 * get_or b 1 0) && roomed (get_or b 0 0) (till_of b).items

-- "It refuses, as 10, a till file whose sizes, length or room numbers (R or more) are wrong"; 0 where it does not
abbrev pub till_refusal : List ℕ → ℕ
till_refusal b = if is_till b then 0 else 10
