-- The order byte decoded, and a row of a thread that is there, or is not.
use Rattle.lock.proofs.Library.{ℕ, ◌-◌, ◌≤◌, ◌<◌, ◌≡◌, ◌∙◌, ◌≢◌, List, none, some, arith, dec_lt, ltb, ne_eqb, lt-ltb}
use Rattle.std.specs.Prelude.{if◌then◌else◌}
use Rattle.lock.{proofs.Library.le-ltb, specs.{declared.Sizes.Sizes}}
use Rattle.lock.specs.{Call.{decode, obey, read_lock, book}, Run.{row_op, step}, State.{refused, perform}}
use Rattle.cells.{specs.View.{phase_at, state_of}, proofs.Parts.thread-is}
use Rattle.step.specs.Reached.{Later}

-- an order below 64 that is none of those named
pub decode-low : (z : Sizes) (o : ℕ) → o ≢ 0 → o ≢ 1 → o ≢ 2 → o ≢ 3 → o ≢ 4 → o < 64 → decode z o ≡ none
decode-low z o a b c d f h = rw (ne_eqb o 0 a, ne_eqb o 1 b, ne_eqb o 2 c, ne_eqb o 3 d, ne_eqb o 4 f, lt-ltb o 64 h)

module _ (z : Sizes) (o : ℕ) (g : 64 ≤ o) where
  -- from 64 on the order names a node, from 96 on an item
  decode-from :
      decode z o
      ≡ (if ltb o 96 then (if ltb (o - 64) z.nodes then some (read_lock (o - 64)) else none)
      else if ltb o 128 then (if ltb (o - 96) z.items then some (book (o - 96)) else none) else none)
  decode-from = rw (
    ne_eqb o 0 (λ e. omega arith),
    ne_eqb o 1 (λ e. omega arith),
    ne_eqb o 2 (λ e. omega arith),
    ne_eqb o 3 (λ e. omega arith),
    ne_eqb o 4 (λ e. omega arith),
    le-ltb o 64 g,
  )

  pub decode-high : 128 ≤ o → decode z o ≡ none
  decode-high h = decode-from ∙ rw (le-ltb o 96 (omega arith), le-ltb o 128 h)

  pub decode-node : o < 96 → o - 64 < z.nodes → decode z o ≡ some (read_lock (o - 64))
  decode-node h k = decode-from ∙ rw (lt-ltb o 96 h, lt-ltb (o - 64) z.nodes k)

  pub decode-far : o < 96 → z.nodes ≤ o - 64 → decode z o ≡ none
  decode-far h k = decode-from ∙ rw (lt-ltb o 96 h, le-ltb (o - 64) z.nodes k)

  pub decode-item : 96 ≤ o → o < 128 → o - 96 < z.items → decode z o ≡ some (book (o - 96))
  decode-item f h k = decode-from ∙ rw (le-ltb o 96 f, lt-ltb o 128 h, lt-ltb (o - 96) z.items k)

  pub decode-behind : 96 ≤ o → o < 128 → z.items ≤ o - 96 → decode z o ≡ none
  decode-behind f h k = decode-from ∙ rw (le-ltb o 96 f, lt-ltb o 128 h, le-ltb (o - 96) z.items k)

-- an order above 4 that names neither node nor item
pub decode-later : (z : Sizes) (o : ℕ) → Later o → o ≢ 3 → o ≢ 4 → (96 ≤ o → 127 < o) → decode z o ≡ none
decode-later z o h a b e = elim (dec_lt o 64) [
  | yes k ↦ let p = h.past in decode-low z o (λ q. omega arith) (λ q. omega arith) (λ q. omega arith) a b k
  | no k ↦
      let n = h.nodeless (omega arith) in
      let i = e (omega arith) in
      decode-high z o (omega arith) (omega arith)
]

module _ (z : Sizes) (l : List ℕ) (t o : ℕ) where
  pub step-there : z.threads ≤ 64 → t < z.threads
      → step z (state_of l) (record { thread = t; order = o })
      ≡ perform z (state_of l) t (obey z.fan (phase_at l t) (decode z o))
  unfolding step row_op
  step-there n h = rw (lt-ltb t z.threads h, thread-is l t (omega arith))

  pub step-far : z.threads ≤ t → step z (state_of l) (record { thread = t; order = o }) ≡ refused 5
  unfolding step row_op perform
  step-far h = rw (le-ltb t z.threads h)
