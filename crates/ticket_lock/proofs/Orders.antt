-- A row by its order and its thread's standing: what it makes, and what it is refused with.
use Rattle.lock.proofs.Library.{ℕ, ◌≡◌, refl, ◌≢◌, eq-eqb, ne_eqb}
use Rattle.ticket_model.specs.declared.Standing.{Standing, TheVariants.{Idle, Waiting, Holding}}
use Rattle.ticket_model.specs.declared.Thread.{Thread}
use Rattle.ticket_model.{specs.declared.Made.{Made}, proofs.Threads.{obey-both}}
use Rattle.ticket_model.specs.Machine.{thread, idle, next, made, refuse, takes, compares, leaves, obey}

module _ (o n g : ℕ) (h : Thread) where
  -- ---- the order suits

  pub comes_to_hold : o ≡ 0 → h.standing ≡ Waiting → h.own ≡ g → made n g (thread Holding h.own) ≡ obey o n g h
  unfolding obey
  comes_to_hold e p q = rw (e, p, eq-eqb h.own g q)

  pub waits_on : o ≡ 0 → h.standing ≡ Waiting → h.own ≢ g → made n g h ≡ obey o n g h
  unfolding obey
  waits_on e p q = let w : thread Waiting h.own ≡ h = rw (← p) in rw (e, p, ne_eqb h.own g q, w)

  pub takes_one : o ≡ 1 → h.standing ≡ Idle → made (next n) g (thread Waiting n) ≡ obey o n g h
  unfolding obey
  takes_one e p = rw (e, p)

  pub leaves_it : o ≡ 2 → h.standing ≡ Holding → made n (next g) idle ≡ obey o n g h
  unfolding obey
  leaves_it e p = rw (e, p)

  -- ---- it does not, or is none

  pub none_waits : o ≡ 0 → (h.standing ≡ Waiting → ⊥) → refuse 7 n g h ≡ obey o n g h
  unfolding obey
  none_waits e w = rw e (by h.standing refl)
    where
      by : (p : Standing) → h.standing ≡ p → refuse 7 n g h ≡ compares n g h p
      by Idle q = refl
      by Waiting q = absurd (w q)
      by Holding q = refl

  pub none_idle : o ≡ 1 → (h.standing ≡ Idle → ⊥) → refuse 7 n g h ≡ obey o n g h
  unfolding obey
  none_idle e w = rw e (by h.standing refl)
    where
      by : (p : Standing) → h.standing ≡ p → refuse 7 n g h ≡ takes n g h p
      by Idle q = absurd (w q)
      by Waiting q = refl
      by Holding q = refl

  pub none_holds : o ≡ 2 → (h.standing ≡ Holding → ⊥) → refuse 7 n g h ≡ obey o n g h
  unfolding obey
  none_holds e w = rw e (by h.standing refl)
    where
      by : (p : Standing) → h.standing ≡ p → refuse 7 n g h ≡ leaves n g h p
      by Idle q = refl
      by Waiting q = refl
      by Holding q = absurd (w q)

  pub no_order : (o ≡ 0 → ⊥) → (o ≡ 1 → ⊥) → (o ≡ 2 → ⊥) → refuse 6 n g h ≡ obey o n g h
  unfolding obey
  no_order a b c = rw (ne_eqb o 0 a, ne_eqb o 1 b, ne_eqb o 2 c)

-- ---- a row that is refused changes nothing

pub obey_stays : (o n g : ℕ) (h : Thread) → (obey o n g h).answer ≢ 0
    → ((obey o n g h).ticket ≡ n) × ((obey o n g h).grant ≡ g) × ((obey o n g h).me ≡ h)
obey_stays o n g h =
    obey-both (λ (m : Made). m.answer ≢ 0 → (m.ticket ≡ n) × (m.grant ≡ g) × (m.me ≡ h)) n g h
    (λ _ k. absurd (k refl)) (λ _ k. absurd (k refl)) (λ _ k. absurd (k refl))
    (λ k. (refl, refl, refl)) (λ k. (refl, refl, refl)) o
