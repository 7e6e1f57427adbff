-- Every number of the table in place, from the ledger that it stands for.
use Rattle.lock.proofs.Library.{ℕ, zero, suc, ◌+◌, ◌-◌, ◌≤◌, ◌<◌, ◌≡◌, refl, sym, ap, ◌∙◌, false, List, [], ◌∷◌}
use Rattle.lock.proofs.Library.{◌++◌, map, arith, ⊎_elim, ℕ_discrete, length, get_or, set, replicate, take, drop}
use Rattle.lock.proofs.Library.{length-append, length-map, length-take, length-replicate, length-set}
use Rattle.lock.proofs.Library.{get_or-take, get_or-drop, get_or-replicate, get_or-set_same, get_or-set_other, ext_get_or}
use Rattle.lock.proofs.Library.{List·getD-eq-default, List·getD-append, List·getD-map}
use Rattle.text.proofs.Order.{lt-or-ge}
use lib.Seq.{get_or-append-add}
use Rattle.till.specs.{Till.Till, View.{is_marked, ledger_of, mark_as, half, table_of, Clean, none_booked}}

-- ---- a half by its places

zeros : (n k : ℕ) → get_or {A = ℕ} (replicate n 0) k 0 ≡ 0
zeros n k =
    let o : ℕ = 0 in
    ⊎_elim (λ (l : k < n). get_or-replicate n k o o l)
    (λ (m : n ≤ k). List·getD-eq-default (replicate n o) o {n = k} (rw (length-replicate n o) m)) (lt-or-ge k n)

getD-half : (xs : List ℕ) (n k : ℕ) → get_or (xs ++ replicate n 0) k 0 ≡ get_or xs k 0
getD-half [] n k = zeros n k
getD-half (x ∷ xs) n zero = refl
getD-half (x ∷ xs) n (suc k) = getD-half xs n k

length-half : (xs : List ℕ) → length xs ≤ 32 → length (half xs) ≡ 32
length-half xs h = simp (length-append, length-replicate) (omega arith)

-- a number from place k of a list's first n on is the list's, or 0
getD-first : (n : ℕ) (xs : List ℕ) (k : ℕ) → (n ≤ k → get_or xs k 0 ≡ 0) → get_or (take n xs) k 0 ≡ get_or xs k 0
getD-first n xs k h =
    ⊎_elim (λ (l : k < n). get_or-take n xs k 0 l)
    (λ (m : n ≤ k). List·getD-eq-default (take n xs) 0 {n = k} (simp length-take (omega arith)) ∙ sym (h m)) (lt-or-ge k n)

-- a mark that is 0 or 1 comes back
mark-back : (n : ℕ) → n ≤ 1 → mark_as (is_marked n) ≡ n
mark-back zero h = refl
mark-back (suc zero) h = refl
mark-back (suc (suc n)) h = absurd (omega arith)

-- ---- all numbers

module _ (i : Till) (l : List ℕ) (h : Clean i l) (few : i.rooms ≤ 32) (some : length i.items ≤ 32) where
  abbrev B : List ℕ
  B = take i.rooms l

  abbrev M : List ℕ
  M = map mark_as (map is_marked (take (length i.items) (drop 32 l)))

  length-first : length (half B) ≡ 32
  length-first = length-half B (simp length-take (omega arith))

  length-second : length (half M) ≡ 32
  length-second = length-half M (simp (length-map, length-take) (omega arith))

  first-at : (k : ℕ) → k < 32 → get_or l k 0 ≡ get_or (half B ++ half M) k 0
  first-at k c =
      sym (List·getD-append (half B) (half M) 0 k (omega (arith, length-first))
      ∙ getD-half B (32 - length B) k ∙ getD-first i.rooms l k (λ m. h.rooms k m c))

  second_at : (e : ℕ) → get_or l (32 + e) 0 ≡ get_or (half B ++ half M) (32 + e) 0
  second_at e =
      sym (ap (λ (n : ℕ). get_or (half B ++ half M) (n + e) 0) (sym length-first)
      ∙ get_or-append-add (half B) (half M) e 0 ∙ getD-half M (32 - length M) e
      ∙ List·getD-map mark_as (map is_marked (take (length i.items) (drop 32 l))) e false
      ∙ ap mark_as (List·getD-map is_marked (take (length i.items) (drop 32 l)) e 0
      ∙ ap is_marked (getD-first (length i.items) (drop 32 l) e (λ m. get_or-drop 32 l e 0 ∙ h.items e m)
      ∙ get_or-drop 32 l e 0))
      ∙ mark-back (get_or l (32 + e) 0) (h.marks e))

  pub clean-table : l ≡ table_of (ledger_of i l)
  clean-table =
      ext_get_or 0 l (half B ++ half M) (h.long ∙ sym (length-append (half B) (half M) ∙ rw (length-first, length-second)))
      (λ k lt. ⊎_elim (first-at k)
      (λ (m : 32 ≤ k). let q : k ≡ 32 + (k - 32) = omega arith in rw q (second_at (k - 32))) (lt-or-ge k 32))

-- ---- kept

pub clean-none : (i : Till) → Clean i none_booked
clean-none i =
    record {
      long = refl;
      rooms = λ q m l. zeros 64 q;
      items = λ e m. zeros 64 (32 + e);
      marks = λ e. rw (zeros 64 (32 + e)) (omega arith);
    }

-- an item is booked in its room
pub clean-booked : (i : Till) (l : List ℕ) (q v e : ℕ) → q < i.rooms → i.rooms ≤ 32 → e < length i.items
    → length i.items ≤ 32 → Clean i l → Clean i (set (set l q v) (32 + e) 1)
clean-booked i l q v e a b c f h =
    record {
      long = simp length-set h.long;
      rooms = λ k m x. away k (λ y. omega arith) (λ y. omega arith) ∙ h.rooms k m x;
      items = λ k m. away (32 + k) (λ y. omega arith) (λ y. omega arith) ∙ h.items k m;
      marks = λ k. (elim (ℕ_discrete k e) [
        | yes y ↦ rw (y, get_or-set_same (set l q v) (32 + e) 1 0 (simp length-set (omega (arith, h.long)))) (omega arith)
        | no n ↦ rw (away (32 + k) (λ y. n (omega arith)) (λ y. omega arith)) (h.marks k)
      ]);
    }
  where
    away : (k : ℕ) → (k ≡ 32 + e → ⊥) → (k ≡ q → ⊥) → get_or (set (set l q v) (32 + e) 1) k 0 ≡ get_or l k 0
    away k x y =
        get_or-set_other (set l q v) (32 + e) k 1 0 x ∙ get_or-set_other l q k v 0 y
