-- What follows a row, by cases: a fact of it, from what leads to each phase that it may be.
use Rattle.laws.proofs.Lock.{ℕ, ◌≡◌, ◌≢◌, true, false, Option, eqb, eqb-true, eqb-false, if-both, Word, opened}
use Rattle.laws.proofs.Lock.{closed, is_closed, is_zero, is_sole, same, toward, parent, Then, Phase, looked}
use Rattle.laws.proofs.Lock.{climbed, arrived, ended, departed, upgrade_found, granted, ◌<◌, ◌-◌, Bool, List, []}
use Rattle.std.specs.Prelude.{if◌then◌else◌}
use Rattle.laws.proofs.Lock.{◌∷◌, some, arith, refl, ltb, ltb-true, ltb-false, Waiters}
use Rattle.laws.proofs.Lock.{with_writers, without_readers, without_longest, writer, readers, only, left, next_group}
use Rattle.laws.proofs.Lock.{longest, behind_longest, unlock_got}

module _ (P : Phase → Type 0) where
  pub looked-each : (n : ℕ) (v : Word) → (is_closed v ≡ true → P (Phase.QueueTake n))
      → (is_closed v ≡ false → n ≡ 0 → P (Phase.Enter v)) → (is_closed v ≡ false → n ≢ 0 → P (Phase.Climb n n))
      → P (looked n v)
  looked-each n v a b c =
      if-both P (is_closed v) a (λ q. if-both P (eqb n 0) (λ k. b q (eqb-true n 0 k)) (λ k. c q (eqb-false n 0 k)))

  pub climbed-each : (F c n : ℕ) (v : Word) → (c ≡ 0 → P (Phase.QueueTake n))
      → (c ≡ 0 → same v (closed 0 0) ≡ false → P (Phase.ClimbSwap c n v)) → (c ≢ 0 → P (Phase.Climb (parent F c) n))
      → (c ≢ 0 → same v (opened 0 0) ≡ false → P (Phase.ClimbSwap c n v)) → P (climbed F c n v)
  climbed-each F c n v a b d e =
      if-both P (eqb c 0)
      (λ k. let i = eqb-true c 0 k in if-both P (same v (closed 0 0)) (λ q. a i) (b i))
      (λ k. let i = eqb-false c 0 k in if-both P (same v (opened 0 0)) (λ q. d i) (e i))

  pub arrived-each : (F c n : ℕ) → (c ≡ n → P (Phase.Reading n)) → (c ≢ n → P (Phase.Descend (toward F n c) n))
      → P (arrived F c n)
  arrived-each F c n a b = if-both P (eqb c n) (λ k. a (eqb-true c n k)) (λ k. b (eqb-false c n k))

  -- at the root, from a node whose count was 1, from another
  pub departed-each : (F d : ℕ) (k : Then) (v : Word) → (d ≡ 0 → P (ended F k (same v (closed 0 0))))
      → (d ≢ 0 → is_zero v ≡ true → P (Phase.Depart (parent F d) k)) → (d ≢ 0 → is_zero v ≡ false → P (ended F k false))
      → P (departed F d k v)
  departed-each F d k v a b c =
      if-both P (eqb d 0) (λ i. a (eqb-true d 0 i))
      (λ i. let n = eqb-false d 0 i in if-both P (is_zero v) (b n) (c n))

  pub upgraded-each : (v : Word) → (is_sole v ≡ true → P (Phase.UpgradeSwap v)) → P (Phase.Reading 0)
      → P (granted (Phase.Reading 0) (upgrade_found v))
  upgraded-each v a b = if-both (λ (o : Option Phase). P (granted (Phase.Reading 0) o)) (is_sole v) a (λ e. b)

-- who takes a group: the last reader the writer who has waited longest, a leaving writer the readers first
module _ (P : Waiters → Phase → Type 0) (q : Waiters) where
  pub last-each : (q.writers ≡ [] → P (with_writers [] (q.waiting - 1) q) Phase.UnlockOpen)
      → ((w : ℕ) (ws : List ℕ) → q.writers ≡ w ∷ ws
      → P (with_writers ws (q.waiting - 1) q) (Phase.HandRelease (writer (only w))))
      → P (left true q) (unlock_got (next_group true q))
  last-each a b = from q.writers refl
    where
      from : (ws : List ℕ) → q.writers ≡ ws
          → P (with_writers (behind_longest ws) (q.waiting - 1) q) (unlock_got (longest ws))
      from [] i = a i
      from (w ∷ ws) i = b w ws i

  pub unlock-each : (0 < q.readers → P (without_readers q) (Phase.UnlockStore q.readers))
      → (q.readers ≡ 0 → P (left true q) (unlock_got (next_group true q)))
      → P (left false q) (unlock_got (next_group false q))
  unlock-each a b = from (ltb 0 q.readers) refl
    where
      from : (c : Bool) → ltb 0 q.readers ≡ c → P (if c then without_readers q else without_longest q)
          (unlock_got (if c then some (readers q.readers) else longest q.writers))
      from true h = a (ltb-true 0 q.readers h)
      from false h = b (omega (arith, ltb-false 0 q.readers h))
