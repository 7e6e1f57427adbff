-- Runs of sites, each with its sheet byte for byte, as an independent model gives it.
use Rattle.std.specs.Prelude.{ℕ, zero, suc, ◌%◌, ◌/◌, ◌≡◌, List, [], ◌∷◌, ◌++◌, map, length, replicate}
use Prim.Native.String.{String}
use Rattle.lock.specs.Text.{text}
use Rattle.lock.specs.Run.{Row}
use Rattle.lock.specs.Examples.{by}
use Rattle.site_model.specs.File.{refusal}
use Rattle.site_model.specs.Sheet.{sheet}

pub record Example : Type 0 where
  pub file : List ℕ
  pub turns : List ℕ
  pub sheet : List ℕ

-- the site file of N, F, T, hold and think, a warm-up below 256 turns, and these calls
abbrev pub site_file : List ℕ → ℕ → List Row → List ℕ
site_file head warm rs =
    head ++ (length rs % 256 ∷ length rs / 256 ∷ warm ∷ 0 ∷ 0 ∷ 0 ∷ map (λ (r : Row). r.thread) rs)
    ++ map (λ (r : Row). r.order) rs

-- these turns, again and again
abbrev times : ℕ → List ℕ → List ℕ
times zero ts = []
times (suc n) ts = ts ++ times n ts

abbrev example : List ℕ → ℕ → List Row → List ℕ → String → Example
unfolding text
example head warm rs ts t = record { file = site_file head warm rs; turns = ts; sheet = text t }

-- a writer and a reader who sleeps until the writer hands over
abbrev writer_and_reader : List Row
writer_and_reader = by 0 (1 ∷ 2 ∷ []) ++ by 1 (64 ∷ 2 ∷ [])

unfoldable pub examples : List Example
unfolding text
examples =
    -- a thread alone holds for two turns and thinks for one; the last turn is nobody's
    example (1 ∷ 1 ∷ 1 ∷ 2 ∷ 1 ∷ []) 0 (by 0 (64 ∷ 2 ∷ [])) (replicate 10 0 ++ 1 ∷ [])
    "answer 0 at 7\nturns 11 1 2 1\ncalls 2 1\nrows 7 0 4 0\nwrite-locks 0 0 0 0\nread-locks 1 2 2 1\nthread 0 2 0\n"
    -- one that is woken finishes in the waker's row
    ∷ example (1 ∷ 1 ∷ 2 ∷ 0 ∷ 0 ∷ []) 0 writer_and_reader (times 15 (0 ∷ 1 ∷ []))
    "answer 0 at 26\nturns 30 4 0 0\ncalls 4 2\nrows 26 1 9 3\nwrite-locks 1 9 4 1\nread-locks 1 17 17 1\nthread 0 2 0\nthread 1 2 1\n"
    ∷ example (1 ∷ 1 ∷ 2 ∷ 3 ∷ 2 ∷ []) 0 writer_and_reader (times 15 (0 ∷ 1 ∷ []))
    "answer 0 at 18\nturns 30 4 6 2\ncalls 3 2\nrows 18 1 6 0\nwrite-locks 1 5 4 1\nread-locks 1 14 14 0\nthread 0 2 0\nthread 1 1 1\n"
    -- a call that begins in the warm-up and ends behind it counts, with its whole wait
    ∷ example (1 ∷ 1 ∷ 2 ∷ 0 ∷ 0 ∷ []) 11 writer_and_reader (times 15 (0 ∷ 1 ∷ []))
    "answer 0 at 26\nturns 19 4 0 0\ncalls 3 2\nrows 15 0 4 1\nwrite-locks 0 5 0 1\nread-locks 1 8 17 1\nthread 0 1 0\nthread 1 2 0\n"
    -- a warm-up of all turns measures nothing
    ∷ example (1 ∷ 1 ∷ 2 ∷ 0 ∷ 0 ∷ []) 30 writer_and_reader (times 15 (0 ∷ 1 ∷ []))
    "answer 0 at 26\nturns 0 0 0 0\ncalls 0 2\nrows 0 0 0 0\nwrite-locks 0 0 0 1\nread-locks 0 0 0 1\nthread 0 0 0\nthread 1 0 0\n"
    -- a call that does not suit when its turn comes, and one in the warm-up
    ∷ example (1 ∷ 1 ∷ 2 ∷ 0 ∷ 0 ∷ []) 0 (by 0 (64 ∷ 64 ∷ []) ++ by 1 (1 ∷ [])) (times 15 (0 ∷ 1 ∷ []))
    "answer 7 at 6\nturns 6 0 0 0\ncalls 1 1\nrows 6 1 4 0\nwrite-locks 0 4 0 1\nread-locks 1 4 4 0\nthread 0 1 0\nthread 1 0 1\n"
    ∷ example (1 ∷ 1 ∷ 2 ∷ 0 ∷ 0 ∷ []) 20 (by 0 (64 ∷ 64 ∷ []) ++ by 1 (1 ∷ [])) (times 15 (0 ∷ 1 ∷ []))
    "answer 7 at 6\nturns 0 0 0 0\ncalls 0 1\nrows 0 0 0 0\nwrite-locks 0 0 0 1\nread-locks 0 0 0 0\nthread 0 0 0\nthread 1 0 0\n"
    -- write-lock, downgrade, upgrade, unlock, a read-lock by node 1, unlock, and from the first again
    ∷ example (2 ∷ 1 ∷ 1 ∷ 1 ∷ 0 ∷ []) 0 (by 0 (1 ∷ 4 ∷ 3 ∷ 2 ∷ 65 ∷ 2 ∷ [])) (replicate 40 0)
    "answer 0 at 35\nturns 40 0 5 0\ncalls 8 0\nrows 35 0 14 0\nwrite-locks 2 4 2 0\nread-locks 1 5 5 0\nthread 0 8 0\n"
    -- a writer holds, the reader sleeps, the third thread has no calls
    ∷ example (1 ∷ 1 ∷ 3 ∷ 200 ∷ 0 ∷ []) 0 writer_and_reader (times 12 (0 ∷ 1 ∷ 2 ∷ []))
    "answer 0 at 10\nturns 36 17 9 0\ncalls 1 1\nrows 10 1 5 0\nwrite-locks 1 4 4 0\nread-locks 0 8 0 1\nthread 0 1 0\nthread 1 0 1\nthread 2 0 0\n"
    -- by the root, by node 1 and writing
    ∷ example (2 ∷ 1 ∷ 3 ∷ 0 ∷ 1 ∷ []) 0 (by 0 (64 ∷ 2 ∷ []) ++ by 1 (65 ∷ 2 ∷ []) ++ by 2 (1 ∷ 2 ∷ []))
    (times 12 (0 ∷ 1 ∷ 2 ∷ 0 ∷ 1 ∷ []))
    "answer 0 at 48\nturns 60 10 0 2\ncalls 5 3\nrows 48 1 16 9\nwrite-locks 1 40 40 0\nread-locks 2 49 13 2\nthread 0 2 1\nthread 1 2 0\nthread 2 1 0\n"
    -- nothing wanted, and no turns
    ∷ example (1 ∷ 1 ∷ 2 ∷ 0 ∷ 0 ∷ []) 0 [] (0 ∷ 1 ∷ 2 ∷ [])
    "answer 0 at 0\nturns 3 3 0 0\ncalls 0 0\nrows 0 0 0 0\nwrite-locks 0 0 0 0\nread-locks 0 0 0 0\nthread 0 0 0\nthread 1 0 0\n"
    ∷ example (1 ∷ 1 ∷ 1 ∷ 0 ∷ 0 ∷ []) 0 (by 0 (64 ∷ 2 ∷ [])) []
    "answer 0 at 0\nturns 0 0 0 0\ncalls 0 0\nrows 0 0 0 0\nwrite-locks 0 0 0 0\nread-locks 0 0 0 0\nthread 0 0 0\n"
    -- the first row that is refused counts
    ∷ example (1 ∷ 1 ∷ 1 ∷ 0 ∷ 0 ∷ []) 0 (by 0 (65 ∷ []) ++ by 1 (64 ∷ [])) (0 ∷ []) "answer 6 at 0\n"
    ∷ example (1 ∷ 1 ∷ 1 ∷ 0 ∷ 0 ∷ []) 0 (by 1 (0 ∷ [])) (0 ∷ []) "answer 5 at 0\n"
    ∷ []

-- the shared claim
unfoldable pub AllGive : List Example → Type 0
unfolding sheet
AllGive xs = map (λ (x : Example). sheet x.file x.turns) xs ≡ map (λ (x : Example). x.sheet) xs

-- ---- refusals 1 to 3, in this order

-- a file, the number of turns, and the refusal
pub record Input : Type 0 where
  pub file : List ℕ
  pub turns : ℕ
  pub refusal : ℕ

abbrev input : ℕ → List ℕ → ℕ → Input
input n b turns = record { file = b; turns = turns; refusal = n }

unfoldable pub inputs : List Input
inputs =
    input 1 (0 ∷ 1 ∷ 1 ∷ 0 ∷ 0 ∷ 0 ∷ 0 ∷ 0 ∷ 0 ∷ 0 ∷ []) 0
    ∷ input 2 (33 ∷ 1 ∷ 1 ∷ 0 ∷ 0 ∷ 1 ∷ 0 ∷ 0 ∷ 0 ∷ 0 ∷ 0 ∷ []) 0
    ∷ input 2 (1 ∷ 17 ∷ 1 ∷ 0 ∷ 0 ∷ 1 ∷ 0 ∷ 0 ∷ 0 ∷ 0 ∷ 0 ∷ []) 0
    ∷ input 2 (1 ∷ 1 ∷ 65 ∷ 0 ∷ 0 ∷ 1 ∷ 0 ∷ 0 ∷ 0 ∷ 0 ∷ 0 ∷ []) 0
    ∷ input 2 (1 ∷ 1 ∷ 1 ∷ 0 ∷ 0 ∷ 1 ∷ 16 ∷ 0 ∷ 0 ∷ 0 ∷ 0 ∷ []) 0
    ∷ input 3 (1 ∷ 1 ∷ 1 ∷ 0 ∷ 0 ∷ 1 ∷ 0 ∷ 0 ∷ 0 ∷ 0 ∷ 0 ∷ 1 ∷ []) 0
    ∷ input 3 (1 ∷ 1 ∷ 1 ∷ 0 ∷ 0 ∷ 1 ∷ 0 ∷ 0 ∷ 0 ∷ 0 ∷ 0 ∷ 1 ∷ 64 ∷ []) 4294967295
    ∷ input 5 (1 ∷ 1 ∷ 1 ∷ 0 ∷ 0 ∷ 1 ∷ 0 ∷ 0 ∷ 0 ∷ 0 ∷ 0 ∷ 1 ∷ 64 ∷ []) 4294967294
    ∷ input 0 (1 ∷ 1 ∷ 1 ∷ 255 ∷ 255 ∷ 1 ∷ 0 ∷ 255 ∷ 255 ∷ 255 ∷ 255 ∷ 0 ∷ 64 ∷ []) 4294967294
    ∷ []

unfoldable pub AllRefused : List Input → Type 0
AllRefused xs = map (λ (x : Input). refusal x.file x.turns) xs ≡ map (λ (x : Input). x.refusal) xs
