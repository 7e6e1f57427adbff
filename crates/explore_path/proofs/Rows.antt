-- The rows of a record, from the last to the first, and the file that they make.
use lib.ListN.{get_or-append}
use lib.Seq.{get_or-append_seam}
use Rattle.lock.proofs.Library.{ℕ, zero, suc, ◌+◌, ◌*◌, ◌/◌, ◌%◌, ◌≤◌, ◌<◌, ◌≡◌, refl, sym, ap, ◌∙◌, List, [], ◌∷◌}
use Rattle.lock.proofs.Library.{◌++◌, arith, ℕ_discrete, length, get_or, set, length-set, length-append}
use Rattle.lock.proofs.Library.{get_or-set_same, get_or-set_other, subst}
use Rattle.lock.specs.Machine.{Row}
use Rattle.explore_store.specs.Store.{record_at, parent_at, row_at}
use Rattle.explore_search.specs.Search.{path_in}
use Rattle.explore_path.specs.Schedule.{no_row, RowsFrom}

pub length-path : (st : List ℕ) (k i : ℕ) → length (path_in st k i) ≡ k
unfolding path_in
length-path st zero i = refl
length-path st (suc k) i =
    length-append (path_in st k (parent_at st i)) (row_at st i ∷ []) ∙ (let e = length-path st k (parent_at st i) in omega arith)

-- the last of k + 1 rows is the record's own, the others are its parent's
path-last : (st : List ℕ) (k i : ℕ) → get_or (path_in st (suc k) i) k no_row ≡ row_at st i
unfolding path_in
path-last st k i =
    let xs = path_in st k (parent_at st i) in
    subst (λ (n : ℕ). get_or (xs ++ row_at st i ∷ []) n no_row ≡ row_at st i) (length-path st k (parent_at st i))
    (get_or-append_seam xs (row_at st i) [] no_row)

path-others : (st : List ℕ) (k i j : ℕ) → j < k
    → get_or (path_in st (suc k) i) j no_row ≡ get_or (path_in st k (parent_at st i)) j no_row
unfolding path_in
path-others st k i j h =
    get_or-append (path_in st k (parent_at st i)) (row_at st i ∷ []) no_row j
    (let e = length-path st k (parent_at st i) in omega arith)

-- the rows from place k on are written, and the first k are those of record `at`
pub record Walk (st : List ℕ) (i s : ℕ) (out₀ : List ℕ) (at k : ℕ) (out : List ℕ) : Type 0 where
  pub rows : RowsFrom st i s k out₀ out
  pub less : k ≤ s
  pub near : at < 2305843009213693952
  pub same : (j : ℕ) → j < k → get_or (path_in st s i) j no_row ≡ get_or (path_in st k at) j no_row

pub walk_none : (st : List ℕ) (i s : ℕ) (out : List ℕ) → i < 2305843009213693952 → Walk st i s out i s out
walk_none st i s out h = record {
  rows = record {
    long = refl;
    threads = λ j a b. absurd (omega arith);
    orders = λ j a b. absurd (omega arith);
    before = λ q b. refl;
    behind = λ q b. refl;
  };
  less = omega arith;
  near = h;
  same = λ j b. refl;
}

module _ {st : List ℕ} {i s : ℕ} {out₀ : List ℕ} {at k m : ℕ} {out : List ℕ} (w : Walk st i s out₀ at k out)
    (e : k ≡ suc m) (room : 5 + 2 * s ≤ length out₀) (h : ℕ) (is : h ≡ (record_at st at).head)
    (fits : h < 18446744073709551616) where
  below : m < s
  below = let l = w.less in omega arith

  long : 5 + 2 * s ≤ length out
  long = omega (arith, w.rows.long)

  abbrev a : List ℕ
  a = set out (5 + m) (h / 256 % 256)

  abbrev b : List ℕ
  b = set a (5 + s + m) (h % 256)

  same-k : (j : ℕ) → j < suc m → get_or (path_in st s i) j no_row ≡ get_or (path_in st (suc m) at) j no_row
  same-k = subst (λ (n : ℕ). (j : ℕ) → j < n → get_or (path_in st s i) j no_row ≡ get_or (path_in st n at) j no_row) e w.same

  row-m : get_or (path_in st s i) m no_row ≡ row_at st at
  row-m = same-k m (omega arith) ∙ path-last st m at

  thread-m : get_or b (5 + m) 0 ≡ (get_or (path_in st s i) m no_row).thread
  thread-m =
      let c = below in
      get_or-set_other a (5 + s + m) (5 + m) (h % 256) 0 (λ q. omega arith)
      ∙ get_or-set_same out (5 + m) (h / 256 % 256) 0 (omega (arith, long))
      ∙ ap (λ (x : ℕ). x / 256 % 256) is ∙ sym (ap (λ (r : Row). r.thread) row-m)

  order-m : get_or b (5 + s + m) 0 ≡ (get_or (path_in st s i) m no_row).order
  order-m =
      let c = below in
      get_or-set_same a (5 + s + m) (h % 256) 0 (omega (arith, long, length-set out (5 + m) (h / 256 % 256)))
      ∙ ap (λ (x : ℕ). x % 256) is ∙ sym (ap (λ (r : Row). r.order) row-m)

  kept : (q : ℕ) → (q ≡ 5 + m → ⊥) → (q ≡ 5 + s + m → ⊥) → get_or b q 0 ≡ get_or out q 0
  kept q x y = get_or-set_other a (5 + s + m) q (h % 256) 0 y ∙ get_or-set_other out (5 + m) q (h / 256 % 256) 0 x

  pub walk_more : Walk st i s out₀ (h / 4294967296) m b
  walk_more =
      let c = below in
      record {
        rows = record {
          long = length-set a (5 + s + m) (h % 256) ∙ length-set out (5 + m) (h / 256 % 256) ∙ w.rows.long;
          threads = λ j x y. elim (ℕ_discrete j m) [
            | yes z ↦ rw z thread-m
            | no z ↦ kept (5 + j) (λ q. omega arith) (λ q. omega arith) ∙ w.rows.threads j (omega arith) y
          ];
          orders = λ j x y. elim (ℕ_discrete j m) [
            | yes z ↦ rw z order-m
            | no z ↦ kept (5 + s + j) (λ q. omega arith) (λ q. omega arith) ∙ w.rows.orders j (omega arith) y
          ];
          before = λ q x. kept q (λ p. omega arith) (λ p. omega arith) ∙ w.rows.before q x;
          behind = λ q x. kept q (λ p. omega arith) (λ p. omega arith) ∙ w.rows.behind q x;
        };
        less = omega arith;
        near = omega arith;
        same = λ j x. same-k j (omega arith) ∙ path-others st m at j x
            ∙ ap (λ (p : ℕ). get_or (path_in st m p) j no_row) (ap (λ (x : ℕ). x / 4294967296) (sym is));
      }

pub walk_end : {st : List ℕ} {i s : ℕ} {out₀ : List ℕ} {at k : ℕ} {out : List ℕ}
    → Walk st i s out₀ at k out → k ≤ 0 → RowsFrom st i s 0 out₀ out
walk_end {st} {i} {s} {out₀} {at} {k} {out} w h =
    let e : k ≡ 0 = omega arith in
    subst (λ (n : ℕ). RowsFrom st i s n out₀ out) e w.rows
