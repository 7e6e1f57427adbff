-- Late arrivals: each success by computing, that it is late by the theorem.
use Rattle.laws.proofs.Lock.{ℕ, zero, suc, ◌<◌, ◌≡◌, refl, ap, inl, inr, Bool, true, false, not, ◌&&◌, ◌||◌}
use Rattle.laws.proofs.Lock.{List, le_refl, not-suc-le-zero, arith, ℕ_discrete, eqb, ltb, eq-eqb, ltb-true}
use Rattle.laws.proofs.Lock.{not-both, state_at, row_at, entry_at, root_at, Success, Late, is_closed, Entry}
use Rattle.laws.proofs.Lock.{call_begun, Sizes, fresh, word_at, runs, Row, run, InRange, sizes, p11}
use Rattle.laws.specs.Example.{LateInP11, stored_shut, LateAfterStore}
use Rattle.laws.proofs.Late.{in-time}

abbrev z : Sizes
z = sizes 2 1 3

in-range : InRange z
in-range = record {
  nodes_least = omega arith;
  nodes = omega arith;
  fan_least = omega arith;
  fan = omega arith;
  threads_least = omega arith;
  threads = omega arith;
  items = omega arith;
}

-- a test that all numbers below m pass
abbrev all_below : ℕ → (ℕ → Bool) → Bool
all_below zero f = true
all_below (suc m) f = f m && all_below m f

below : (m : ℕ) (f : ℕ → Bool) → all_below m f ≡ true → (k : ℕ) → k < m → f k ≡ true
below zero f e k l = absurd (not-suc-le-zero l)
below (suc m) f e k l = from (f m) refl e (ℕ_discrete k m) (λ q. below m f q k)
  where
    from : (b : Bool) → f m ≡ b
        → (b && all_below m f) ≡ true → Dec (k ≡ m) → (all_below m f ≡ true → k < m → f k ≡ true) → f k ≡ true
    from true p q (yes i) g = rw i p
    from true p q (no i) g = g q (omega arith)
    from false p q d g = not-both false q refl

-- row k, of the thread x and the kind y, is no beginning of thread 1, or is row b or before
abbrev goes_on : ℕ → ℕ → ℕ → ℕ → Bool
goes_on b x y k = not (eqb x 1 && eqb y 0) || ltb k (suc b)

contrary : (b x y k : ℕ) → goes_on b x y k ≡ true → x ≡ 1 → y ≡ 0 → b < k → ⊥
contrary b x y k e p q l = let h : k < suc b = ltb-true k (suc b) (rw (eq-eqb x 1 p, eq-eqb y 0 q) at e) in omega arith

-- between rows b and i thread 1 begins no call
begins-none : (rs : List Row) (b i : ℕ)
    → all_below i (λ k. goes_on b (row_at z rs k).thread (entry_at z rs k).kind k) ≡ true
    → (k : ℕ) → b < k → k < i → (row_at z rs k).thread ≡ 1 → (entry_at z rs k).kind ≡ 0 → ⊥
begins-none rs b i e k a l p q =
    contrary b _ _ k (below i (λ k. goes_on b (row_at z rs k).thread (entry_at z rs k).kind k) e k l) p q a

-- at a closed root the theorem leaves one way
is-late : (rs : List Row) (b i : ℕ)
    → is_closed (root_at z rs i) ≡ true → i < (run z fresh rs).taken → Success z rs 1 1 b i → Late z rs 1 b i
is-late rs b i c l h = elim (in-time z in-range rs 1 1 b i l h) [ inl q ↦ not-both _ c q | inr k ↦ k ]

-- what is computed of a success of thread 1 by node 1
succeeds : (rs : List Row) (b i : ℕ)
    → (row_at z rs b).thread ≡ 1 → (row_at z rs b).order ≡ 65 → entry_at z rs b ≡ call_begun → b < i
    → all_below i (λ k. goes_on b (row_at z rs k).thread (entry_at z rs k).kind k) ≡ true → (row_at z rs i).thread ≡ 1
    → (word_at (state_at z rs i) 1).tree < (word_at (state_at z rs (suc i)) 1).tree → Success z rs 1 1 b i
succeeds rs b i t o e l g u r =
    record {
      tree = le_refl 1;
      call = record {
        by = t;
        order = o;
        begins = e;
        before = l;
        same = λ k a c p q. begins-none rs b i g k a c p (ap (λ (y : Entry). y.kind) q);
      };
      by = u;
      raises = r;
    }

p11-succeeds : Success z p11 1 1 3 15
unfolding run runs
p11-succeeds = succeeds p11 3 15 refl refl refl (omega arith) refl refl (le_refl 1)

pub late-in-p11 : LateInP11
unfolding run runs
late-in-p11 = record { success = p11-succeeds; late = is-late p11 3 15 refl (le_refl 16) p11-succeeds }

store-succeeds : Success z stored_shut 1 1 0 19
unfolding run runs
store-succeeds = succeeds stored_shut 0 19 refl refl refl (omega arith) refl refl (le_refl 1)

pub late-after-store : LateAfterStore
unfolding run runs
late-after-store =
    record {
      success = store-succeeds;
      late = is-late stored_shut 0 19 refl (le_refl 20) store-succeeds;
      closes = record { shut = refl; how = inr refl };
      store = refl;
    }
