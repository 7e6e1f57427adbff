-- A signed amount, by what the code tests.
use Rattle.lock.proofs.Library.{ℕ, suc, ◌+◌, ◌-◌, ◌≤◌, ◌<◌, ◌≡◌, ap, ◌∙◌, cond, Option, none, some, arith, ltb, lt-ltb}
use Rattle.lock.proofs.Library.{le-ltb}
use lib.IntN.{pos, negsuc, ◌+ℤ◌}
use Rattle.till.specs.{Till.signed, Booking.natural}

pub topped-up : (b v : ℕ) → v < 32768 → natural (pos b +ℤ signed v) ≡ some (b + v)
topped-up b v h = rw (lt-ltb v 32768 h)

songs-are : (v : ℕ) → v < 65536 → suc (65535 - v) ≡ 65536 - v
songs-are v h = omega arith

abbrev less : ℕ → ℕ → Option ℕ
less b n = natural (cond (ltb b n) (negsuc (n - suc b)) (pos (b - n)))

spends : (b v : ℕ) → 32768 ≤ v → v < 65536 → natural (pos b +ℤ signed v) ≡ less b (65536 - v)
spends b v h l = rw (le-ltb v 32768 h) (ap (less b) (songs-are v l))

pub spent : (b v : ℕ) → 32768 ≤ v → v < 65536 → 65536 - v ≤ b → natural (pos b +ℤ signed v) ≡ some (b - (65536 - v))
spent b v h l k = spends b v h l ∙ rw (le-ltb b (65536 - v) k)

pub denied : (b v : ℕ) → 32768 ≤ v → v < 65536 → b < 65536 - v → natural (pos b +ℤ signed v) ≡ none
denied b v h l k = spends b v h l ∙ rw (lt-ltb b (65536 - v) k)
