-- The value of a word is read off the lock in place.
use Rattle.lock.proofs.Library.{◌≡◌, refl, ◌≢◌, List, ℕ, zero, suc, ◌<◌, arith, get_or}
use Rattle.lock.specs.State.{word_at}
use Rattle.cells.{specs.View.{word_of, state_of}, proofs.Parts.word-is}
use Rattle.record_model.specs.Record.{number_of}

module _ (l : List ℕ) (w : ℕ) (h : w < 32) where
  pub root-number : w ≡ 0 → get_or l w 0 ≡ number_of w (word_at (state_of l) w)
  root-number e = rw (word-is l w h, e) (omega arith)

  pub node-number : w ≢ 0 → (word_of (get_or l w 0)).tree ≡ number_of w (word_at (state_of l) w)
  node-number ne = rw (word-is l w h) (by w ne)
    where
      by : (w : ℕ) → w ≢ 0 → (word_of (get_or l w 0)).tree ≡ number_of w (word_of (get_or l w 0))
      by zero n = absurd (n refl)
      by (suc w) n = refl
