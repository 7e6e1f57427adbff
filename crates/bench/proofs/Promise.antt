-- Demand 3 over the caller's bytes: the entries of the run are read back from its journal (`lock` proofs/Entries).
use Rattle.lock.proofs.{Library.{◌≡◌, ◌∙◌, List, ℕ, ◌+◌, ◌≤◌, arith, length, take, length-map}, Machine.entries-taken}
use Rattle.lock.proofs.{Machine.taken-le, Entries.bytes-entries}
use Rattle.lock.specs.{declared.Sizes.Sizes, Journal.{journal_bytes, entries_in}, Machine.Row, File.InRange}
use Rattle.pair.specs.{Pair.{Side, fresh_pair, turn, run, written, journal}, Demand.CountedAt}
use Rattle.pair.proofs.Demand.{demand3-pair}

-- the first i rows of a run whose journal is j
pub counted-bytes : (z : Sizes) (x : Side) (rs : List Row) (S i : ℕ) (j₀ : List ℕ)
    → InRange z → length rs ≤ S → S + S ≤ length j₀ → i ≤ (run z fresh_pair rs).taken
    → CountedAt z x (take i rs)
    (entries_in S i (journal_bytes S (journal (run z fresh_pair rs).entries) j₀)) (run z fresh_pair (take i rs)).state
unfolding run
counted-bytes z x rs S i j₀ range le room l =
    let n : length (journal (run z fresh_pair rs).entries) ≡ (run z fresh_pair rs).taken =
    length-map (run z fresh_pair rs).entries written ∙ entries-taken (turn z) fresh_pair rs in
    rw (bytes-entries S i
    (journal (run z fresh_pair rs).entries) j₀ (omega arith) (omega (arith, taken-le (turn z) fresh_pair rs)) room)
    (demand3-pair z range x rs i l)
