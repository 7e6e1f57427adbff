-- The bytes of a record: its rows, a record that is not refused, and what a piece of bytes behind it adds.
use Rattle.lock.proofs.Library.{◌≡◌, refl, sym, ap, ap₂, ◌∙◌, List, ◌∷◌, ◌++◌, ℕ, zero, suc, ◌+◌, ◌-◌, ◌*◌, ◌/◌}
use Rattle.lock.proofs.Library.{◌%◌, ◌<◌, ◌≤◌, arith, take, drop, length, length-append, length-drop, get_or, get_or-drop}
use Rattle.lock.proofs.Library.{length-take-le, take-append-drop}
use Rattle.lock.proofs.Library.{List·getD-append, drop_at, add-zero, zero-add, suc-add, not, ◌&&◌, eqb, leb, ltb}
use Rattle.lock.proofs.Library.{eqb-true, leb-true, ltb-false, not-false, le-ltb}
use Rattle.lock.proofs.Accepted.{past, both, neither, sizes-in-range}
use lib.Seq.{drop-append-le}
use Rattle.std.specs.Prelude.{if◌then◌else◌}
use Rattle.lock.specs.{Bound.most_steps}
use Rattle.lock.specs.File.{sizes_of, sizes_fit, or_else, InRange}
use Rattle.pair.specs.Pair.{fresh_pair}
use Rattle.record_model.specs.Record.{rows_from, recorded_at, count_of, recorded_in, head_refusal}
use Rattle.record_model.specs.Record.{length_refusal, record_refusal, hold, holding_of, after, verdict}
use Rattle.record_model.specs.Record.{verdict_by}
use Rattle.record_model.specs.{Sheet.{verdict_sheet, record_sheet}, Pieces.FirstEnds}
use Rattle.record_model.proofs.Pieces.{piece-held, piece-ended}

-- ---- rows of bytes

pub take-rows : (b : List ℕ) (i k n : ℕ) → k ≤ n → take k (rows_from b i n) ≡ rows_from b i k
unfolding rows_from
take-rows b i zero n h = refl
take-rows b i (suc k) zero h = absurd (omega arith)
take-rows b i (suc k) (suc n) h = ap (◌∷◌ (recorded_at b i)) (take-rows b (suc i) k n (omega arith))

pub length-rows : (b : List ℕ) (i n : ℕ) → length (rows_from b i n) ≡ n
unfolding rows_from
length-rows b i zero = refl
length-rows b i (suc n) = ap suc (length-rows b (suc i) n)

-- the rows of two pieces, one behind the other
pub rows-pieces : (b : List ℕ) (i m n : ℕ) → rows_from b i (m + n) ≡ rows_from b i m ++ rows_from b (i + m) n
unfolding rows_from
rows-pieces b i zero n = rw (zero-add n, add-zero i)
rows-pieces b i (suc m) n =
    let e : suc i + m ≡ i + suc m = omega arith in
    rw (suc-add m n, ← e) (ap (◌∷◌ (recorded_at b i)) (rows-pieces b (suc i) m n))

-- the rows of a piece that starts at row i are those of the whole from row i on
at_drop : (b : List ℕ) (i p q : ℕ) → 8 * i + p ≡ q → get_or (drop (8 * i) b) p 0 ≡ get_or b q 0
at_drop b i p q e = rw get_or-drop (ap (λ y. get_or b y 0) e)

recorded-drop : (b : List ℕ) (i j : ℕ) → recorded_at (drop (8 * i) b) j ≡ recorded_at b (i + j)
recorded-drop b i j =
    rw (
      at_drop b i (8 * j) (8 * (i + j)) (omega arith),
      at_drop b i (8 * j + 1) (8 * (i + j) + 1) (omega arith),
      at_drop b i (8 * j + 2) (8 * (i + j) + 2) (omega arith),
      at_drop b i (8 * j + 3) (8 * (i + j) + 3) (omega arith),
      at_drop b i (8 * j + 4) (8 * (i + j) + 4) (omega arith),
      at_drop b i (8 * j + 4 + 1) (8 * (i + j) + 4 + 1) (omega arith),
      at_drop b i (8 * j + 4 + 2) (8 * (i + j) + 4 + 2) (omega arith),
      at_drop b i (8 * j + 4 + 3) (8 * (i + j) + 4 + 3) (omega arith),
    )

pub rows_drop : (b : List ℕ) (i j n : ℕ) → rows_from (drop (8 * i) b) j n ≡ rows_from b (i + j) n
unfolding rows_from
rows_drop b i j zero = refl
rows_drop b i j (suc n) =
    ap₂ ◌∷◌ (recorded-drop b i j) (rows_drop b i (suc j) n ∙ ap (λ x. rows_from b x n) (omega arith))

-- what stands behind the rows does not matter
recorded-front : (b p : List ℕ) (i : ℕ) → 8 * i + 8 ≤ length b → recorded_at (b ++ p) i ≡ recorded_at b i
recorded-front b p i h =
    rw (
      List·getD-append b p 0 (8 * i) (omega arith),
      List·getD-append b p 0 (8 * i + 1) (omega arith),
      List·getD-append b p 0 (8 * i + 2) (omega arith),
      List·getD-append b p 0 (8 * i + 3) (omega arith),
      List·getD-append b p 0 (8 * i + 4) (omega arith),
      List·getD-append b p 0 (8 * i + 4 + 1) (omega arith),
      List·getD-append b p 0 (8 * i + 4 + 2) (omega arith),
      List·getD-append b p 0 (8 * i + 4 + 3) (omega arith),
    )

-- a row is its eight bytes
pub recorded-chunk : (b : List ℕ) (i : ℕ) → 8 * i + 8 ≤ length b
    → recorded_at (take 8 (drop (8 * i) b)) 0 ≡ recorded_at b i
recorded-chunk b i h =
    let c : List ℕ = drop (8 * i) b in
    let long : length (take 8 c) ≡ 8 = length-take-le 8 c (omega (arith, length-drop (8 * i) b)) in
    sym (recorded-front (take 8 c) (drop 8 c) 0 (omega arith))
    ∙ ap (λ x. recorded_at x 0) (take-append-drop 8 c) ∙ recorded-drop b i 0 ∙ ap (recorded_at b) (add-zero i)

rows-front : (b p : List ℕ) (i n : ℕ) → 8 * (i + n) ≤ length b → rows_from (b ++ p) i n ≡ rows_from b i n
unfolding rows_from
rows-front b p i zero h = refl
rows-front b p i (suc n) h = ap₂ ◌∷◌ (recorded-front b p i (omega arith)) (rows-front b p (suc i) n (omega arith))

-- the rows of the front of a piece
pub rows-taken : (b : List ℕ) (n : ℕ) → 8 * n ≤ length b → rows_from (take (8 * n) b) 0 n ≡ rows_from b 0 n
rows-taken b n h =
    let long : length (take (8 * n) b) ≡ 8 * n = length-take-le (8 * n) b h in
    sym (rows-front (take (8 * n) b) (drop (8 * n) b) 0 n (omega arith))
    ∙ ap (λ x. rows_from x 0 n) (take-append-drop (8 * n) b)

-- ---- a record that is not refused

pub record Accepted (b : List ℕ) : Type 0 where
  pub long : 3 ≤ length b
  pub range : InRange (sizes_of b)
  pub even : (length b - 3) % 8 ≡ 0
  pub few : count_of b ≤ most_steps

pub head-accepted : (b : List ℕ) → head_refusal b ≡ 0 → (3 ≤ length b) × (InRange (sizes_of b))
head-accepted b e =
    let p = past (ltb (length b) 3) 0 e in
    let q = past (not (sizes_fit (sizes_of b))) 1 p.1 in
    (ltb-false (length b) 3 p.0, sizes-in-range b (not-false _ q.0))

pub length-accepted : (n : ℕ) → length_refusal n ≡ 0 → (n % 8 ≡ 0) × (n / 8 ≤ most_steps)
length-accepted n e =
    let r = past (not (eqb (n % 8) 0 && leb (n / 8) most_steps)) 2 e in
    let t = both (eqb (n % 8) 0) (leb (n / 8) most_steps) (not-false _ r.0) in
    (eqb-true (n % 8) 0 t.0, leb-true (n / 8) most_steps t.1)

pub accepted : (b : List ℕ) → record_refusal b ≡ 0 → Accepted b
accepted b e =
    let (h, l) = neither (head_refusal b) (length_refusal (length b - 3)) e in
    let p = head-accepted b h in
    let q = length-accepted (length b - 3) l in
    record { long = p.0; range = p.1; even = q.0; few = q.1 }

pub verdict-of : (b : List ℕ) → record_refusal b ≡ 0 → verdict b ≡ verdict_by 0 (holding_of b)
unfolding verdict
verdict-of b fine = rw fine

-- ---- one more piece

module _ (b p : List ℕ) (long : 3 ≤ length b) where
  pub sizes-more : sizes_of (b ++ p) ≡ sizes_of b
  sizes-more =
      rw (
        List·getD-append b p 0 0 (omega arith),
        List·getD-append b p 0 1 (omega arith),
        List·getD-append b p 0 2 (omega arith),
      )

  pub head_more : head_refusal (b ++ p) ≡ head_refusal b
  head_more =
      rw (le-ltb (length (b ++ p)) 3 (omega (arith, length-append b p)), le-ltb (length b) 3 long)
      (ap (λ z. if not (sizes_fit z) then 2 else 0) sizes-more)

  pub refusal-more : head_refusal b ≡ 0 → record_refusal (b ++ p) ≡ length_refusal (length b - 3 + length p)
  refusal-more h =
      let n : length (b ++ p) - 3 ≡ length b - 3 + length p = omega (arith, length-append b p) in
      ap (λ x. or_else x (length_refusal (length (b ++ p) - 3))) (head_more ∙ h) ∙ ap length_refusal n

  module _ (even : (length b - 3) % 8 ≡ 0) where
    pub count-more : count_of (b ++ p) ≡ count_of b + length p / 8
    count-more = omega (arith, length-append b p)

    front : 8 * (0 + count_of b) ≡ length (drop 3 b)
    front = omega (arith, length-drop 3 b)

    pub recorded_more : recorded_in (b ++ p) ≡ recorded_in b ++ rows_from p 0 (length p / 8)
    recorded_more =
        let c = drop 3 b in
        let m = count_of b in
        let n = length p / 8 in
        let behind : drop (8 * m) (c ++ p) ≡ p = drop_at c p (8 * m) (omega (arith, front)) in
        ap₂ (λ x k. rows_from x 0 k) (drop-append-le 3 b p long) count-more
        ∙ rows-pieces (c ++ p) 0 m n
        ∙ ap₂ ◌++◌ (rows-front c p 0 m (omega (arith, front)))
        (ap (λ k. rows_from (c ++ p) k n) (omega arith)
        ∙ sym (rows_drop (c ++ p) m 0 n) ∙ ap (λ x. rows_from x 0 n) behind)

    pub holding-more : holding_of (b ++ p) ≡ hold (sizes_of b) fresh_pair (recorded_in b ++ rows_from p 0 (length p / 8))
    holding-more = ap₂ (λ z rs. hold z fresh_pair rs) sizes-more recorded_more

    -- all rows before it were held
    pub holding-behind : (holding_of b).told.held ≡ count_of b
        → holding_of (b ++ p) ≡ after (count_of b) (hold (sizes_of b) (holding_of b).state (rows_from p 0 (length p / 8)))
    holding-behind q =
        let n = length-rows (drop 3 b) 0 (count_of b) in
        holding-more
        ∙ piece-held (sizes_of b) (rows_from p 0 (length p / 8)) fresh_pair (recorded_in b) (q ∙ sym n)
        ∙ ap (λ k. after k (hold (sizes_of b) (holding_of b).state (rows_from p 0 (length p / 8)))) n

-- a row before it ended the record
pub first_ends : FirstEnds
unfolding record_sheet
first_ends b p fine more less =
    let a = accepted b fine in
    let held : (holding_of b).told.held < length (recorded_in b) =
    omega (arith, less, length-rows (drop 3 b) 0 (count_of b)) in
    let same : holding_of (b ++ p) ≡ holding_of b =
    holding-more b p a.long a.even
    ∙ piece-ended (sizes_of b) (rows_from p 0 (length p / 8)) fresh_pair (recorded_in b) held in
    ap₂ verdict_sheet (sizes-more b p a.long)
    (verdict-of (b ++ p) more ∙ ap (verdict_by 0) same ∙ sym (verdict-of b fine))
