-- What a file gives, by its refusal; and that a run has a state.
use Rattle.lock.proofs.Library.{◌≡◌, refl, ◌≢◌, true, false, List, [], Option, none, some, ℕ, zero, suc, ◌<◌}
use Rattle.lock.proofs.Library.{arith, ℕ_discrete, ne_eqb, le-leb, lt-leb}
use Rattle.lock.specs.{Machine.{Row, ResultOf, GivenOf, given_by, OfRow, Finished}, File.stateless}

-- ---- whether a run has a state

-- refused before the first row, by 1 to 4
pub no-state : (n : ℕ) → n ≢ 0 → n < 5 → stateless n ≡ true
no-state n h l = rw (ne_eqb n 0 h, lt-leb 5 n l)

pub row-state : (n : ℕ) → OfRow n → stateless n ≡ false
row-state n h = rw (ne_eqb n 0 (λ e. omega arith), le-leb 5 n (omega arith), le-leb n 7 (omega arith))

pub finished-state : {S E : Type 0} {rs : List Row} {r : ResultOf S E} → Finished rs r → stateless r.answer ≡ false
finished-state {r = r} f =
    elim (ℕ_discrete r.answer 0) [ yes e ↦ rw e | no n ↦ row-state r.answer (f.of_row n) ]

-- ---- what a file gives, by its refusal

module _ {S E : Type 0} where
  -- g has the answer n, k rows taken, the state s, if there is one, and the entries es
  pub record Gives (n k : ℕ) (s : Option S) (es : List E) (g : GivenOf S E) : Type 0 where
    pub answer : n ≡ g.answer
    pub taken : k ≡ g.taken
    pub state : s ≡ g.state
    pub entries : es ≡ g.entries

  pub refused-gives : (r : ResultOf S E) {m : ℕ} (n : ℕ) → n ≡ m → n ≢ 0 → Gives n 0 none [] (given_by m r)
  refused-gives r zero e h = absurd (h refl)
  refused-gives r (suc n) e h =
      rw (← e) (record { answer = refl; taken = refl; state = refl; entries = refl })

  pub run-gives : (r : ResultOf S E) {m : ℕ}
      → m ≡ 0 → Gives r.answer r.taken (some r.state) r.entries (given_by m r)
  run-gives r e = rw e (record { answer = refl; taken = refl; state = refl; entries = refl })

  -- a fact of what a file gives: of its run, and of one that is refused
  pub by-refusal : (P : GivenOf S E → Type 0) (r : ResultOf S E) (n : ℕ)
      → (n ≡ 0 → P (given_by 0 r)) → ((k : ℕ) → n ≡ suc k → P (given_by (suc k) r)) → P (given_by n r)
  by-refusal P r zero f g = f refl
  by-refusal P r (suc k) f g = g k refl
