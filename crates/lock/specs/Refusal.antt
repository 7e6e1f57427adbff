-- The refusals of document 01's table by their numbers.
use Rattle.std.specs.Prelude.{ℕ, Result, Ok, Err}
use Rattle.lock.specs.declared.Refusal.{Refusal}
use Rattle.lock.specs.declared.Refusal.TheVariants.{TooShort, SizeOutOfRange, WrongLength, JournalTooSmall}
use Rattle.lock.specs.declared.Refusal.TheVariants.{NoSuchThread, NoSuchOrder, Unsuitable, SheetTooSmall, NotATill}
use Rattle.lock.specs.declared.Refusal.TheVariants.{EntryDiffers, ValueDiffers}

abbrev pub number_of : Refusal → ℕ
number_of TooShort = 1
number_of SizeOutOfRange = 2
number_of WrongLength = 3
number_of JournalTooSmall = 4
number_of NoSuchThread = 5
number_of NoSuchOrder = 6
number_of Unsuitable = 7
number_of SheetTooSmall = 9
number_of NotATill = 10
number_of EntryDiffers = 11
number_of ValueDiffers = 12

-- "0 means all rows were taken", else it is the number of the refusal
abbrev pub answer_number : {A : Type 0} → Result A Refusal → ℕ
answer_number (Ok a) = 0
answer_number (Err r) = number_of r
