-- Refusals 5 and 6 of a row that is to begin a call, by the tests of its order.
use Rattle.lock.proofs.Library.{ℕ, ◌-◌, ◌≤◌, ◌<◌, ◌≡◌, sym, ap, ◌∙◌, ◌≢◌, Bool, true, false, Option, none, some, arith}
use Rattle.std.specs.Prelude.{if◌then◌else◌}
use Rattle.lock.{proofs.Library.{ℕ_discrete, eqb, eq-eqb, ne_eqb, lt-ltb, le-ltb}}
use Rattle.lock.specs.Call.{Order, write_lock, unlock, upgrade, downgrade, read_lock, book, decode}
use Rattle.lock.specs.{declared.Sizes.Sizes, Run.{Row, unknown, row_refusal}}
use Rattle.step.proofs.Orders.{decode-low, decode-high, decode-node, decode-far, decode-item, decode-behind}

abbrev pub row : ℕ → ℕ → Row
row t o = record { thread = t; order = o }

-- the refusal of a row, by its tests
abbrev by_tests : Bool → Bool → Option Order → ℕ
by_tests there zeroth d = if there then (if zeroth then 6 else if unknown d then 6 else 0) else 5

-- the thread is there, and the order is not to go on
pub record Begins (z : Sizes) (t o : ℕ) : Type 0 where
  pub there : t < z.threads
  pub call : o ≢ 0

module _ (z : Sizes) (t o : ℕ) where
  pub no-thread : z.threads ≤ t → 5 ≡ row_refusal z (row t o)
  no-thread h = rw (le-ltb t z.threads h)

  pub goes_on : t < z.threads → o ≡ 0 → 6 ≡ row_refusal z (row t o)
  goes_on h e = rw (lt-ltb t z.threads h, eq-eqb o 0 e)

module _ {z : Sizes} {t o : ℕ} (b : Begins z t o) where
  -- by whether there is such an order
  begun : (d : Option Order) → decode z o ≡ d → (if unknown d then 6 else 0) ≡ row_refusal z (row t o)
  begun d e =
      sym (ap (λ (x : Bool). by_tests x (eqb o 0) (decode z o)) (lt-ltb t z.threads b.there)
      ∙ ap (λ (x : Bool). by_tests true x (decode z o)) (ne_eqb o 0 b.call) ∙ ap (by_tests true false) e)

  pub low-call : o < 5 → 0 ≡ row_refusal z (row t o)
  low-call h = from (ℕ_discrete o 1) (ℕ_discrete o 2) (ℕ_discrete o 3)
    where
      from : Dec (o ≡ 1) → Dec (o ≡ 2) → Dec (o ≡ 3) → 0 ≡ row_refusal z (row t o)
      from (yes e) b c = begun (some write_lock) (rw e)
      from (no a) (yes e) c = begun (some unlock) (rw e)
      from (no a) (no b) (yes e) = begun (some upgrade) (rw e)
      from (no x) (no y) (no w) = let e : o ≡ 4 = omega (arith, b.call) in begun (some downgrade) (rw e)

  pub too-low : 5 ≤ o → o < 64 → 6 ≡ row_refusal z (row t o)
  too-low g h = begun none
      (decode-low z o b.call (λ e. omega arith) (λ e. omega arith) (λ e. omega arith) (λ e. omega arith) h)

  pub too-high : 128 ≤ o → 6 ≡ row_refusal z (row t o)
  too-high h = begun none (decode-high z o (omega arith) h)

  module _ (g : 96 ≤ o) (h : o < 128) where
    pub books : o - 96 < z.items → 0 ≡ row_refusal z (row t o)
    books k = begun (some (book (o - 96))) (decode-item z o (omega arith) g h k)

    pub no_item : z.items ≤ o - 96 → 6 ≡ row_refusal z (row t o)
    no_item k = begun none (decode-behind z o (omega arith) g h k)

module _ (z : Sizes) (t o : ℕ) (there : t < z.threads) (call : o ≢ 0) (g : 64 ≤ o) (h : o < 96) where
  begins : Begins z t o
  begins = record { there = there; call = call }

  pub read-lock : o - 64 < z.nodes → 0 ≡ row_refusal z (row t o)
  read-lock k = begun begins (some (read_lock (o - 64))) (decode-node z o g h k)

  pub no_node : z.nodes ≤ o - 64 → 6 ≡ row_refusal z (row t o)
  no_node k = begun begins none (decode-far z o g h k)
