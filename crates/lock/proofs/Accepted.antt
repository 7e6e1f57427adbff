-- A file that no check of 1 to 4 refuses: its length is exact, its sizes are in range, and its journal is long enough.
-- The checks of 1 to 3 are those of the ticket file too.
use Rattle.lock.specs.{State.Sizes, File.{with_items, InRange, sizes_of, row_count, threads_of, orders_of, paired}}
use Rattle.lock.specs.File.{rows_of, within, sizes_fit, sizes_in_range, shape_refusal, or_else, file_refusal, refusal}
use Rattle.std.specs.Prelude.{if◌then◌else◌}
use Rattle.lock.proofs.Library.{◌≡◌, refl, sym, ap, ◌∙◌, ◌≢◌, Bool, true, false, not, ◌&&◌, ℕ, zero, suc, ◌+◌}
use Rattle.lock.proofs.Library.{◌-◌, ◌*◌, ◌≤◌, ◌<◌, zero-le, le_refl, arith, List, [], ◌∷◌, length, take, drop}
use Rattle.lock.proofs.Library.{length-drop, length-take-le, take_all, lt-ltb, le-ltb, eq-eqb, ne_eqb, leb-true}
use Rattle.lock.proofs.{Library.{eqb-true, ltb-false, not-false, leb, ltb, eqb}, Choice.{by-test, clash}}
use Rattle.lock.proofs.Choice.{if-both}

-- ---- tests that have passed

pub past : (c : Bool) (n : ℕ) {x : ℕ} → (if c then suc n else x) ≡ 0 → (c ≡ false) × (x ≡ 0)
past true n e = absurd (omega arith)
past false n e = (refl, e)

pub both : (a b : Bool) → (a && b) ≡ true → (a ≡ true) × (b ≡ true)
both true b e = (refl, e)
both false b e = clash cc

pub within-true : (least most n : ℕ) → within least most n ≡ true → (least ≤ n) × (n ≤ most)
within-true least most n e =
    let h = both (leb least n) (leb n most) e in (leb-true least n h.0, leb-true n most h.1)

-- ---- the first of two refusals

-- n is the first of the two, and is none
pub first_some : {n a : ℕ} (b : ℕ) → n ≡ a → n ≢ 0 → n ≡ or_else a b
first_some {n = zero} b e h = absurd (h refl)
first_some {n = suc n} b e h = rw (← e)

pub first-none : {n a b m : ℕ} → n ≡ a → n ≡ 0 → m ≡ b → m ≡ or_else a b
first-none e h q = rw (← e, h) q

pub neither : (a b : ℕ) → or_else a b ≡ 0 → (a ≡ 0) × (b ≡ 0)
neither zero b q = (refl, q)
neither (suc a) b q = absurd (omega arith)

-- a fact of both is one of the first
pub first-both : (P : ℕ → Type 0) (a b : ℕ) → P a → P b → P (or_else a b)
first-both P zero b p q = q
first-both P (suc a) b p q = p

-- ---- refusals 1 to 3: of a file of n bytes, with S rows and sizes in range or not

module _ (n : ℕ) (fits : Bool) (S : ℕ) where
  pub too_short : n < 5 → shape_refusal n fits S ≡ 1
  too_short h = rw (lt-ltb n 5 h)

  module _ (long : 5 ≤ n) where
    pub bad-size : fits ≡ false → shape_refusal n fits S ≡ 2
    bad-size h = rw (le-ltb n 5 long, h)

    module _ (sized : fits ≡ true) where
      pub bad-length : (n ≡ 5 + 2 * S → ⊥) → shape_refusal n fits S ≡ 3
      bad-length h = rw (le-ltb n 5 long, sized, ne_eqb n (5 + 2 * S) h)

      pub right-shape : n ≡ 5 + 2 * S → shape_refusal n fits S ≡ 0
      right-shape h = rw (le-ltb n 5 long, sized, eq-eqb n (5 + 2 * S) h)

  pub shape-lt : shape_refusal n fits S < 4
  shape-lt =
      if-both (λ (x : ℕ). x < 4) (ltb n 5) (λ e. omega arith)
      (λ e. if-both (λ (x : ℕ). x < 4) (not fits) (λ e. omega arith)
      (λ e. if-both (λ (x : ℕ). x < 4) (not (eqb n (5 + 2 * S))) (λ e. omega arith) (λ e. omega arith)))

  pub shape_is : shape_refusal n fits S ≡ 0 → (fits ≡ true) × (n ≡ 5 + 2 * S)
  shape_is e =
      let h₁ = past (ltb n 5) 0 e in
      let h₂ = past (not fits) 1 h₁.1 in
      let h₃ = past (not (eqb n (5 + 2 * S))) 2 h₂.1 in (
        not-false fits h₂.0,
        eqb-true n (5 + 2 * S) (not-false _ h₃.0),
      )

  -- more bytes than any good file has: the first 8,198 are refused as all of them are, so that a program need read no
  -- more
  pub shape-long : 8198 ≤ n → (fits ≡ true → S ≤ 4096) → shape_refusal 8198 fits S ≡ shape_refusal n fits S
  shape-long h few =
      by-test fits
      (λ e. let k = few e in rw (
        e,
        le-ltb n 5 (omega arith),
        ne_eqb n (5 + 2 * S) (λ q. omega arith),
        ne_eqb 8198 (5 + 2 * S) (λ q. omega arith),
      ))
      (λ e. rw (e, le-ltb n 5 (omega arith)))

-- ---- the two arrays of a file with S rows

module _ (b : List ℕ) (S : ℕ) (exact : length b ≡ 5 + 2 * S) where
  pub first-long : length (take S (drop 5 b)) ≡ S
  first-long = length-take-le S (drop 5 b) (simp length-drop (omega arith))

  pub second-long : length (drop (5 + S) b) ≡ S
  second-long = simp length-drop (omega arith)

-- as the code lends them, which read the number of rows as n
module _ (b : List ℕ) {n S : ℕ} (rows : n ≡ S) where
  pub first_part : take (5 + n - 5) (drop 5 b) ≡ take S (drop 5 b)
  first_part = let q : 5 + n - 5 ≡ S = omega arith in rw q

  pub second-part : take (length b - (5 + n)) (drop (5 + n) b) ≡ drop (5 + S) b
  second-part = rw rows (take_all (length b - (5 + S)) (drop (5 + S) b) (simp length-drop (le_refl _)))

-- ---- a schedule file

pub record Accepted (b : List ℕ) : Type 0 where
  pub exact : length b ≡ 5 + 2 * row_count b
  pub range : InRange (sizes_of b)
  pub few : row_count b ≤ 4096

-- sizes that pass are in range; a file's own have no till
pub sizes-in-range : (b : List ℕ) → sizes_fit (sizes_of b) ≡ true → InRange (sizes_of b)
sizes-in-range b h =
    let p = both _ (within 1 64 (sizes_of b).threads) h in
    let q = both (within 1 32 (sizes_of b).nodes) (within 1 16 (sizes_of b).fan) p.0 in
    let nodes = within-true 1 32 (sizes_of b).nodes q.0 in
    let fan = within-true 1 16 (sizes_of b).fan q.1 in
    let threads = within-true 1 64 (sizes_of b).threads p.1 in
    record {
      nodes_least = nodes.0;
      nodes = nodes.1;
      fan_least = fan.0;
      fan = fan.1;
      threads_least = threads.0;
      threads = threads.1;
      items = zero-le;
    }

pub accepted-is : (b : List ℕ) → file_refusal b ≡ 0 → Accepted b
accepted-is b e =
    let (fits, exact) = shape_is (length b) (sizes_in_range b) (row_count b) e in
    let a = both (sizes_fit (sizes_of b)) (leb (row_count b) 4096) fits in
    record {
      exact = exact;
      range = sizes-in-range b a.0;
      few = leb-true (row_count b) 4096 a.1;
    }

-- with a till's items
pub range-items : {z : Sizes} {E : ℕ} → InRange z → E ≤ 32 → InRange (with_items E z)
range-items r few =
    record {
      nodes_least = r.nodes_least;
      nodes = r.nodes;
      fan_least = r.fan_least;
      fan = r.fan;
      threads_least = r.threads_least;
      threads = r.threads;
      items = few;
    }

-- with a journal of j bytes
pub accepted-with : (b : List ℕ) (j : ℕ) → refusal b j ≡ 0 → Accepted b × (2 * row_count b ≤ j)
accepted-with b j e =
    let h = neither (file_refusal b) _ e in
    (accepted-is b h.0, ltb-false j (2 * row_count b) (past (ltb j (2 * row_count b)) 3 h.1).0)

pub accepted : (b : List ℕ) (j : ℕ)
    → 5 ≤ length b → sizes_in_range b ≡ true → length b ≡ 5 + 2 * row_count b → 2 * row_count b ≤ j
    → refusal b j ≡ 0
accepted b j long sized exact h =
    rw (right-shape (length b) (sizes_in_range b) (row_count b) long sized exact, le-ltb j (2 * row_count b) h)

-- a refusal before the first row is one of 1 to 4
pub refusal-lt : (b : List ℕ) (j : ℕ) → refusal b j < 5
refusal-lt b j =
    first-both (λ (x : ℕ). x < 5) (file_refusal b) _ (omega (arith, shape-lt (length b) (sizes_in_range b) (row_count b)))
    (if-both (λ (x : ℕ). x < 5) (ltb j (2 * row_count b)) (λ e. omega arith) (λ e. omega arith))

-- ---- its rows

module _ {b : List ℕ} (a : Accepted b) where
  pub threads-long : length (threads_of b) ≡ row_count b
  threads-long = first-long b (row_count b) a.exact

  pub orders-long : length (orders_of b) ≡ row_count b
  orders-long = second-long b (row_count b) a.exact

  pub rows_long : length (rows_of b) ≡ row_count b
  rows_long = paired_long (threads_of b) (orders_of b) (threads-long ∙ sym orders-long) ∙ threads-long
    where
      paired_long : (ts os : List ℕ) → length ts ≡ length os → length (paired ts os) ≡ length ts
      paired_long [] os e = refl
      paired_long (t ∷ ts) [] e = omega arith
      paired_long (t ∷ ts) (o ∷ os) e = ap suc (paired_long ts os (omega arith))
