-- What a stream came to.
use Rattle.std.specs.Prelude.{ℕ, ◌≡◌, List}
use Rattle.lock.specs.declared.Sizes.{Sizes}
use Rattle.lock.specs.File.{sizes_of}
use Rattle.record_model.specs.Record.{Told}
use Rattle.record_hold.specs.Holds.{HoldsRecord}

-- What is told, and the locks ls, are those of the record `bytes`: all bytes that were read, which no contract of a
-- read can name. The locks before its last piece were `before`.
pub record Streamed (z : Sizes) (ls : List (List ℕ)) (r : Told) : Type 0 where
  pub bytes : List ℕ
  pub before : List (List ℕ)
  pub sizes : z ≡ sizes_of bytes
  pub holds : HoldsRecord bytes before ls r
