-- Numbers that wrap at 65,536: linear arithmetic carries each.
use Rattle.lock.proofs.Library.{ℕ, suc, ◌+◌, ◌%◌, ◌<◌, ◌≡◌, arith}
use Rattle.ticket_model.specs.Machine.{next, past}

pub next_small : (n : ℕ) → next n < 65536
next_small n = omega arith

-- tickets handed out from g on are told apart
pub wrap-apart : (g i j : ℕ) → i < 65536 → j < 65536 → (g + i) % 65536 ≡ (g + j) % 65536 → i ≡ j
wrap-apart g i j hi hj e = omega arith

pub wrap-first : (g i : ℕ) → g < 65536 → i < 65536 → (g + i) % 65536 ≡ g → i ≡ 0
wrap-first g i hg hi e = omega arith

pub wrap-zero : (g : ℕ) → g < 65536 → (g + 0) % 65536 ≡ g
wrap-zero g h = omega arith

-- one place nearer
pub wrap-nearer : (g i : ℕ) → (g + suc i) % 65536 ≡ (next g + i) % 65536
wrap-nearer g i = omega arith

pub wrap-further : (g n : ℕ) → next ((g + n) % 65536) ≡ (g + suc n) % 65536
wrap-further g n = omega arith

pub wrap-past : (g n : ℕ) → g < 65536 → n < 65536 → past ((g + n) % 65536) g ≡ n
wrap-past g n hg hn = omega arith

-- the number that g added to wraps back to n is how far n is past g
pub wrap-sub : (r n g : ℕ) → r < 65536 → n < 65536 → g < 65536 → (r + g) % 65536 ≡ n → r ≡ past n g
wrap-sub r n g hr hn hg e = omega arith
