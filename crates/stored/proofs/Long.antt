-- Every sheet with a till has at most 7,084 bytes: the bench's part is at most 6,476 (`report` proofs/Bound), and 32
-- room lines are at most 608.
use Rattle.lock.proofs.{Library.{ℕ, ◌≤◌, List, Option, arith, length, length-append}, Given.by-refusal}
use Rattle.lock.proofs.Accepted.{accepted-with}
use Prim.{tt}
use Rattle.lock.specs.File.{sizes_of, rows_of}
use Rattle.till.specs.Till.{till_of}
use Rattle.till.proofs.{Good.good, View.rooms-length}
use Rattle.credit_model.specs.{Credit.{Credit, start, run}, File.{credit_refusal, credit}, Sheet.{locks_if, room_lines_if}}
use Rattle.credit_model.specs.Sheet.{sheet}
use Rattle.credit_model.proofs.Once.{kept-credit}
use Rattle.report.{specs.Report.Sized, proofs.Bound.sheet-length}
use Rattle.credit.proofs.{Refusal.accepted-both, Sheet.{sheet-is, sheet-of}}

-- two locks of 32 words and 64 threads, and room lines of at most 608 bytes
record Small (s : Option Credit) : Type 0 where
  sized : Sized (locks_if s)
  rooms : length (room_lines_if s) ≤ 608

small : (b c : List ℕ) (j : ℕ) → Small (credit b c j).state
unfolding credit
small b c j =
    let x = run (sizes_of b) (till_of c) (start (till_of c)) (rows_of b) in
    by-refusal (λ g. Small g.state) x (credit_refusal b c j)
    (λ e. let a = accepted-both b c j e in
    let k = kept-credit (sizes_of b) (accepted-with b j a.1).0.range c a.0 (rows_of b) in
    let l = k.locks in
    record {
      sized = (
        (omega (arith, l.one.words), omega (arith, l.one.threads)),
        (omega (arith, l.two.words), omega (arith, l.two.threads)),
      );
      rooms = rooms-length x.state.ledger (omega (arith, k.adds.rooms, (good c a.0).rooms));
    })
    (λ n e. record { sized = tt; rooms = omega arith })

pub sheet-bound : (b c : List ℕ) (j : ℕ) → length (sheet b c j) ≤ 7084
sheet-bound b c j =
    let r = credit b c j in
    let s = small b c j in
    rw (sheet-of b c j, sheet-is (sizes_of b) r.answer r.taken r.state)
    (simp length-append
    (omega (arith, sheet-length (sizes_of b) r.answer r.taken (locks_if r.state) s.sized, s.rooms)))
