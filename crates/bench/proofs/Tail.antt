-- The rows not run, as a part of the file that starts and ends inside it.
use Rattle.lock.proofs.Library.{◌≡◌, sym, ap, ◌∙◌, List, [], ◌∷◌, ℕ, zero, suc, ◌+◌, ◌-◌, ◌≤◌, min, arith, dec_lt}
use Rattle.lock.proofs.Library.{length, take, drop, length-drop, drop_of_length-le, drop-drop, take_all, take-nil}
use Rattle.lock.proofs.Library.{sub-zero, zero-sub, suc-sub-suc}

drop-take : (k n : ℕ) (l : List ℕ) → drop k (take n l) ≡ take (n - k) (drop k l)
drop-take zero n l = rw sub-zero
drop-take (suc k) zero l = rw (zero-sub (suc k))
drop-take (suc k) (suc n) [] = sym (take-nil (suc n - suc k))
drop-take (suc k) (suc n) (x ∷ l) = rw (suc-sub-suc n k) (drop-take k n l)

take_none : (n : ℕ) (l : List ℕ) → n ≡ 0 → take n l ≡ []
take_none n l e = rw e

take_min : (n : ℕ) (l : List ℕ) → take (min n (length l)) l ≡ take n l
take_min n l =
    elim (dec_lt n (length l)) [
      | yes h ↦ let e : min n (length l) ≡ n = omega arith in rw e
      | no h ↦ take_all (min n (length l)) l (omega arith) ∙ sym (take_all n l (omega arith))
    ]

-- how long that part is
part-long : (R k e n : ℕ) → e ≡ min (5 + R) n → 5 + k ≤ e → e - (5 + k) ≡ min (R - k) (n - (5 + k))
part-long R k e n h l = omega arith

-- the part of b from s to e is what follows k of the R elements from the sixth on
pub part-is : (b : List ℕ) (R k e s : ℕ)
    → e ≡ min (5 + R) (length b) → s ≡ min (5 + min k e) e → take (e - s) (drop s b) ≡ drop k (take R (drop 5 b))
part-is b R k e s he hs =
    elim (dec_lt e (5 + k)) [
      | yes h ↦
          let nothing : take (R - k) (drop (5 + k) b) ≡ [] = elim (dec_lt R k) [
            | yes q ↦ take_none (R - k) _ (omega arith)
            | no q ↦ rw (drop_of_length-le b {i = 5 + k} (omega arith)) (take-nil (R - k))
          ] in
          take_none (e - s) (drop s b) (omega arith) ∙ sym (rest ∙ nothing)
      | no h ↦
          let p : s ≡ 5 + k = omega arith in
          let n : e - (5 + k) ≡ min (R - k) (length (drop (5 + k) b)) =
          simp length-drop (part-long R k e (length b) he (omega arith)) in
          rw (p, n) (take_min (R - k) (drop (5 + k) b) ∙ sym rest)
    ]
  where
    rest : drop k (take R (drop 5 b)) ≡ take (R - k) (drop (5 + k) b)
    rest = drop-take k R (drop 5 b) ∙ ap (take (R - k)) (drop-drop k 5 b)

-- no part at all
pub part_none : (b : List ℕ) (e : ℕ) → take (e - e) (drop e b) ≡ []
part_none b e = take_none (e - e) _ (omega arith)
