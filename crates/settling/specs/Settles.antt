-- A booking and a run settled, in place: what they ask for, and what they leave of the table and of the journal.
use Rattle.std.specs.Prelude.{ℕ, ◌-◌, ◌≤◌, ◌<◌, ◌≡◌, true, List, ◌++◌, length, get_or}
use Rattle.std.proofs.Math.Option.{Option, none, some}
use Rattle.lock.specs.declared.Entry.{Entry}
use Rattle.lock.specs.Journal.{entry, kinds}
use Rattle.lock.specs.Machine.{Row}
use Rattle.lock.specs.File.{paired}
use Rattle.till.specs.Till.{till_of, till_refusal}
use Rattle.till.specs.Booking.{fresh_ledger, book, books}
use Rattle.till.specs.Settle.{settle_row, settle}
use Rattle.till.specs.Balanced.{Balanced}
use Rattle.till.specs.View.{ledger_of, table_of, Clean}
use Rattle.std.specs.Prelude as rust

-- the balance after an amount, as the code gives it
abbrev pub paid_as : Option ℕ → rust.Option ℕ
paid_as none = rust.None
paid_as (some b) = rust.Some b

-- what a booking asks for: a till that is not refused, one of its items, and a table that adds up
pub record Bookable (b l : List ℕ) (e : ℕ) : Type 0 where
  pub good : till_refusal b ≡ 0
  pub clean : Clean (till_of b) l
  pub there : e < length (till_of b).items
  pub balanced : Balanced (till_of b) (ledger_of (till_of b) l)

-- the table went from l₀ to l, and the booking of item e gave this kind
pub record Books (b : List ℕ) (e : ℕ) (l₀ l : List ℕ) (kind : ℕ) : Type 0 where
  pub ledger : ledger_of (till_of b) l ≡ (book (till_of b) (ledger_of (till_of b) l₀) e).ledger
  pub is : kind ≡ (book (till_of b) (ledger_of (till_of b) l₀) e).kind
  pub clean : Clean (till_of b) l

-- ---- settling

-- a row of this order, whoever made it
abbrev pub ordered : ℕ → Row
ordered o = record { thread = 0; order = o }

-- what one row asks for: where its order books, the booking's own
abbrev pub RowBookable : List ℕ → List ℕ → ℕ → Type 0
RowBookable b l o = books o ≡ true → Bookable b l (o - 96)

-- the row of order o, which was entered with kind k, was settled: the table went from l₀ to l, and this is its kind now
pub record SettlesRow (b : List ℕ) (o k : ℕ) (l₀ l : List ℕ) (kind : ℕ) : Type 0 where
  pub ledger : ledger_of (till_of b) l ≡ (settle_row (till_of b) (ledger_of (till_of b) l₀) (ordered o) (entry k 33)).ledger
  pub is : kind ≡ (settle_row (till_of b) (ledger_of (till_of b) l₀) (ordered o) (entry k 33)).entered.kind
  pub clean : Clean (till_of b) l

-- what settling n rows of the orders os asks for: a till that is not refused, a byte of the journal j for each of them,
-- and that those that book are of its items
pub record Settleable (b os : List ℕ) (n : ℕ) (j : List ℕ) : Type 0 where
  pub good : till_refusal b ≡ 0
  pub orders : n ≤ length os
  pub room : n ≤ length j
  pub known : (q : ℕ) → q < n → books (get_or os q 0) ≡ true → get_or os q 0 - 96 < length (till_of b).items

-- The journal went from j₀ to j, and l is the table: of any entries es whose kinds stand at the front of the journal,
-- by any threads ts, the kinds are those of `settle` now, and the table is that of `settle`, every number of it. Every
-- byte behind them is as it was.
pub record Settles (b os : List ℕ) (n : ℕ) (j₀ j l : List ℕ) : Type 0 where
  pub table : (ts : List ℕ) (es : List Entry) (rest : List ℕ) → length es ≡ n → n ≤ length ts → j₀ ≡ kinds es ++ rest
      → ledger_of (till_of b) l ≡ (settle (till_of b) (fresh_ledger (till_of b)) (paired ts os) es).ledger
  pub journal : (ts : List ℕ) (es : List Entry) (rest : List ℕ) → length es ≡ n → n ≤ length ts → j₀ ≡ kinds es ++ rest
      → j ≡ kinds (settle (till_of b) (fresh_ledger (till_of b)) (paired ts os) es).entries ++ rest
  pub all : l ≡ table_of (ledger_of (till_of b) l)
  pub long : length l ≡ 64
