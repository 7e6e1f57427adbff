-- What a loop over rows asks.
use Rattle.std.specs.Prelude.{◌≡◌, ℕ, ◌+◌, ◌≤◌, List, length}
use Rattle.lock.specs.declared.Sizes.{Sizes}
use Rattle.lock.specs.File.{InRange}

-- What the checks of a file have shown where its rows are run: its sizes are in range, there are as many orders as
-- thread numbers, at most 4,096, and the journal has a byte for each of both.
pub record Runnable (z : Sizes) (ts os j : List ℕ) : Type 0 where
  pub range : InRange z
  pub few : length ts ≤ 4096
  pub matched : length os ≡ length ts
  pub room : length ts + length ts ≤ length j
