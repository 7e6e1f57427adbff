-- The text of all runs of a file fits 98,304 bytes: a sheet has at most 6,476 bytes, or 7,084 with a till; a run leaves
-- its journal as long as it was, and at most 4,096 rows; a line has three bytes for each byte that it lists. A run is
-- at most 19,432 bytes, its name and three for each byte of the journal.
use Rattle.lock.proofs.Library.{ℕ, zero, suc, ◌+◌, ◌*◌, ◌-◌, ◌≤◌, zero-le, ◌≡◌, refl, ◌∙◌, Bool, true, false, List, []}
use Rattle.lock.proofs.Library.{◌∷◌, arith, ltb, ltb-false, length, take, drop, length-append, length-take, length-drop}
use Rattle.lock.proofs.{Library.{length-map, length-replicate}, Given.by-refusal, Choice.if-both}
use Rattle.lock.proofs.{Accepted.accepted-with, Machine.{entries-taken, taken-le}}
use Prim.{tt}
use Rattle.lock.specs.{declared.Entry.Entry, Journal.journal_bytes, Sheet.buffer_after, File.{sizes_of, row_count}}
use Rattle.lock.specs.{File.{threads_of, orders_of, paired, rows_of, refusal}, Text.text}
use Rattle.pair.specs.{Pair.{turn, fresh_pair, run, written, journal}, File.{in_journal, bench, journal_after, tail_as}}
use Rattle.pair.specs.File.{not_run}
use Rattle.pair.proofs.Words.{kept_pair}
use Rattle.till.specs.Till.{till_of}
use Rattle.credit_model.specs.{Credit.{start, row}, File.credit_refusal}
use Rattle.credit_model.specs.Credit as credit
use Rattle.credit_model.specs.File as credited
use Rattle.journal.proofs.Bytes.{bytes-none}
use Rattle.text.proofs.Decimal.{decimal-length}
use Rattle.hex_text.{specs.Hex.bytes_line, proofs.Lines.line-length}
use Rattle.report.{specs.Report.Sized, proofs.Bound.sheet-length}
use Rattle.bench.proofs.Sheeted.{sheet-of}
use Rattle.credit.{specs.Sheeted.{sheet_if, journal_if}, proofs.Refusal.accepted-both}
use Rattle.stored.specs.Runs.{blank, title_line, behind, sheet_lines, journal_lines, not_run_if, left_line, run_text}
use Rattle.stored.specs.Runs.{shorter_run, longer_run, runs_of}
use Rattle.stored.proofs.Shape.{title-is, sheet-is, journal-is, run_is}
use Rattle.stored.proofs.Long as long

-- ---- the run of a file: its sheet, its journal, and the rows not run

-- a state has 32 words and 64 threads
state-sized : (b : List ℕ) (n : ℕ) → Sized (bench b n).state
unfolding bench
state-sized b n =
    by-refusal (λ g. Sized g.state) (in_journal (run (sizes_of b) fresh_pair (rows_of b))) (refusal b n)
    (λ e. let k = (kept_pair (sizes_of b) (accepted-with b n e).0.range (rows_of b)).state in (
      (omega (arith, k.one.words), omega (arith, k.one.threads)),
      (omega (arith, k.two.words), omega (arith, k.two.threads)),
    ))
    (λ m e. tt)

pub sheet-bound : (there : Bool) (b c : List ℕ) (n : ℕ) → length (sheet_if there b c n) ≤ 7084
sheet-bound true b c n = long.sheet-bound b c n
sheet-bound false b c n =
    rw (sheet-of b n) (omega
    (arith, sheet-length (sizes_of b) (bench b n).answer (bench b n).taken (bench b n).state (state-sized b n)))

rows_few : (b : List ℕ) → length (rows_of b) ≤ row_count b
rows_few b = omega (arith, paired-le (threads_of b) (orders_of b), length-take (row_count b) (drop 5 b))
  where
    paired-le : (ts os : List ℕ) → length (paired ts os) ≤ length ts
    paired-le [] os = zero-le
    paired-le (t ∷ ts) [] = zero-le
    paired-le (t ∷ ts) (o ∷ os) = omega (arith, paired-le ts os)

-- the bytes of at most S entries, in a journal that has two for each of S
bytes-long : (S : ℕ) (es : List Entry) (j : List ℕ)
    → length es ≤ S → S + S ≤ length j → length (journal_bytes S es j) ≡ length j
bytes-long S es j few room = simp (length-append, length-drop, length-take, length-map) (omega arith)

-- a file that is not refused has room for its entries, of which there are at most as many as rows
room-kept : (b : List ℕ) (es : List Entry) (n : ℕ) (j : List ℕ)
    → refusal b (length j) ≡ 0 → length es ≡ n → n ≤ length (rows_of b)
    → length (journal_bytes (row_count b) es j) ≡ length j
room-kept b es n j e k l =
    bytes-long (row_count b) es j (omega (arith, rows_few b)) (omega (arith, (accepted-with b (length j) e).1))

bench-long : (b j : List ℕ) → length (journal_after b j) ≡ length j
unfolding journal_after run
bench-long b j =
    let x = run (sizes_of b) fresh_pair (rows_of b) in
    by-refusal (λ g. length (journal_bytes (row_count b) g.entries j) ≡ length j) (in_journal x) (refusal b (length j))
    (λ e. room-kept b (journal x.entries) x.taken j e
    (length-map x.entries written ∙ entries-taken (turn (sizes_of b)) fresh_pair (rows_of b))
    (taken-le (turn (sizes_of b)) fresh_pair (rows_of b)))
    (λ m e. rw bytes-none)

credit-long : (b c j : List ℕ) → length (credited.journal_after b c j) ≡ length j
unfolding credited.journal_after credit.run
credit-long b c j =
    let x = credit.run (sizes_of b) (till_of c) (start (till_of c)) (rows_of b) in
    by-refusal (λ g. length (journal_bytes (row_count b) g.entries j) ≡ length j) x (credit_refusal b c (length j))
    (λ e. room-kept b x.entries x.taken j (accepted-both b c (length j) e).1
    (entries-taken (row (sizes_of b) (till_of c)) (start (till_of c)) (rows_of b))
    (taken-le (row (sizes_of b) (till_of c)) (start (till_of c)) (rows_of b)))
    (λ m e. rw bytes-none)

pub journal-long : (there : Bool) (b c j : List ℕ) → length (journal_if there b c j) ≡ length j
journal-long true b c j = credit-long b c j
journal-long false b c j = bench-long b j

-- at most the rows of a file that is not refused are left, and none of another
tail-few : (b : List ℕ) (n j k : ℕ) → (n ≡ 0 → refusal b j ≡ 0) → length (tail_as n k (threads_of b)) ≤ 4096
tail-few b zero j k e =
    simp length-drop (omega (arith, length-take (row_count b) (drop 5 b), (accepted-with b j (e refl)).0.few))
tail-few b (suc n) j k e = zero-le

left-few : (there : Bool) (b c : List ℕ) (n : ℕ) → length (not_run_if there b c n) ≤ 4096
unfolding not_run credited.not_run
left-few true b c n =
    tail-few b (credit_refusal b c n) n (credited.credit b c n).taken (λ e. (accepted-both b c n e).1)
left-few false b c n = tail-few b (refusal b n) n (bench b n).taken (λ e. e)

-- ---- the pieces of its text

title-length : (name : List ℕ) (n : ℕ) → length (title_line name n) ≤ length name + 24
unfolding text
title-length name n = rw (title-is name n) (simp length-append (omega (arith, decimal-length n)))

behind-length : (s : List ℕ) → length (bytes_line (text "behind") (behind s)) ≤ 19
unfolding text
behind-length s =
    omega (arith, line-length (text "behind") (behind s), length-take 4 (drop (length s) (buffer_after s (blank 8200))))

sheet-lines-length : (there : Bool) (b c : List ℕ) (n : ℕ) → length (sheet_lines there b c n) ≤ 7103
sheet-lines-length there b c n =
    rw (sheet-is there b c n)
    (simp length-append (omega (arith, sheet-bound there b c n, behind-length (sheet_if there b c n))))

journal-length : (S : ℕ) (j : List ℕ) → length (journal_lines S j) ≤ 12 + 3 * length j
unfolding text
journal-length S j =
    rw (journal-is S j)
    (simp length-append
    (omega (
      arith,
      line-length (text "kinds") (take S j),
      line-length (text "words") (drop S j),
      length-take S j,
      length-drop S j,
    )))

left-length : (there : Bool) (b c : List ℕ) (n : ℕ) → length (left_line there b c n) ≤ 12293
unfolding text
left-length there b c n = omega (arith, line-length (text "left") (not_run_if there b c n), left-few there b c n)

run_length : (name : List ℕ) (there : Bool) (b c : List ℕ) (S : ℕ) (j₀ : List ℕ)
    → length (run_text name there b c S j₀) ≤ length name + 19432 + 3 * length j₀
run_length name there b c S j₀ =
    rw (run_is name there b c S j₀)
    (simp length-append
    (omega (
      arith,
      title-length name (length j₀),
      sheet-lines-length there b c (length j₀),
      journal-length S (journal_if there b c j₀),
      journal-long there b c j₀,
      left-length there b c (length j₀),
    )))

-- ---- all runs

module _ (name : List ℕ) (there : Bool) (b c : List ℕ) (S : ℕ) (short : length name ≤ 1024) (few : S ≤ 4096) where
  blank-length : (n : ℕ) → length (run_text name there b c S (blank n)) ≤ 20456 + 3 * n
  blank-length n = omega (arith, run_length name there b c S (blank n), length-replicate {A = ℕ} n 238)

  shorter-length : length (shorter_run name there b c S) ≤ 20456 + 3 * (2 * S)
  unfolding shorter_run
  shorter-length =
      if-both (λ (t : List ℕ). length t ≤ 20456 + 3 * (2 * S)) (ltb 0 S)
      {x = run_text name there b c S (blank (2 * S - 1))} {y = []}
      (λ e. omega (arith, blank-length (2 * S - 1)))
      (λ e. omega arith)

  two-fit : length (run_text name there b c S (blank (2 * S))) + length (shorter_run name there b c S) ≤ 40912 + 12 * S
  two-fit = omega (arith, blank-length (2 * S), shorter-length)

  -- the third run is of a file with at most 1,024 rows
  pub runs_fit : length (runs_of name there b c S) ≤ 98304
  unfolding longer_run
  runs_fit =
      simp length-append
      (if-both
      (λ (t : List ℕ).
      length (run_text name there b c S (blank (2 * S))) + length (shorter_run name there b c S) + length t ≤ 98304)
      (ltb 1024 S)
      {x = []} {y = run_text name there b c S (blank (2 * S + 2))}
      (λ e. omega (arith, two-fit))
      (λ e. omega (arith, two-fit, blank-length (2 * S + 2), ltb-false 1024 S e)))
