-- Laws of runs on any machine: how many entries a run makes, and what the first rows of a list give when they are run
-- alone.
use Rattle.lock.specs.Machine.{stopped, Row, OutcomeOf, taken, refused, ResultOf, after, follow, runs, OfRow}
use Rattle.lock.specs.{Machine.Finished, Demand.All}
use Rattle.lock.proofs.Library.{ℕ, zero, suc, ◌≤◌, ◌<◌, zero-le, ◌≡◌, refl, ap, List, [], ◌∷◌, ◌++◌}
use Rattle.lock.proofs.Library.{not-suc-le-zero, le_of_suc-le-suc, suc_inj, arith, length, get_or, take}

module _ {S E : Type 0} (step : S → Row → OutcomeOf S E) where
  -- A fact of every run: of none, of one whose first row is refused, and of one whose first row is taken, from that of
  -- the rows after it.
  pub by_rows : (P : S → List Row → ResultOf S E → Type 0) → ((s : S) → P s [] (stopped 0 s))
      → ((s : S) (r : Row) (rs : List Row) (n : ℕ) → step s r ≡ refused n → P s (r ∷ rs) (stopped n s))
      → ((s : S) (r : Row) (rs : List Row) (s' : S) (e : E) → step s r ≡ taken s' e
      → P s' rs (runs step s' rs) → P s (r ∷ rs) (after e (runs step s' rs)))
      → (s : S) (rs : List Row) → P s rs (runs step s rs)
  unfolding runs
  by_rows P f g h s [] = f s
  by_rows P f g h s (r ∷ rs) = from (step s r) refl (λ s'. by_rows P f g h s' rs)
    where
      from : (o : OutcomeOf S E) → step s r ≡ o
          → ((s' : S) → P s' rs (runs step s' rs)) → P s (r ∷ rs) (follow s (λ s'. runs step s' rs) o)
      from (taken s' e) q k = h s r rs s' e q (k s')
      from (refused n) q k = g s r rs n q

  pub entries-taken : (s : S) (rs : List Row) → length (runs step s rs).entries ≡ (runs step s rs).taken
  entries-taken = by_rows (λ s rs x. length x.entries ≡ x.taken)
      (λ s. refl) (λ s r rs n q. refl) (λ s r rs s' e q k. ap suc k)

  pub taken-le : (s : S) (rs : List Row) → (runs step s rs).taken ≤ length rs
  taken-le = by_rows (λ s rs x. x.taken ≤ length rs)
      (λ s. zero-le) (λ s r rs n q. zero-le) (λ s r rs s' e q k. omega arith)

  -- all rows are taken only where the answer is 0
  pub all-answered : (s : S) (rs : List Row) → (runs step s rs).taken ≡ length rs → (runs step s rs).answer ≡ 0
  all-answered =
      by_rows (λ s rs x. x.taken ≡ length rs → x.answer ≡ 0) (λ s a. refl)
      (λ s r rs n q a. absurd (omega arith)) (λ s r rs s' e q k a. k (suc_inj a))

  -- all rows taken, and one more
  pub run_more : (s : S) (rs : List Row) (r : Row) {t : S} {y : E} → (runs step s rs).taken ≡ length rs
      → step (runs step s rs).state r ≡ taken t y
      → ((runs step s (rs ++ r ∷ [])).taken ≡ length (rs ++ r ∷ [])) × ((runs step s (rs ++ r ∷ [])).state ≡ t)
  unfolding runs
  run_more s rs r {t} {y} =
      by_rows (λ s rs x. x.taken ≡ length rs → step x.state r ≡ taken t y
      → ((runs step s (rs ++ r ∷ [])).taken ≡ length (rs ++ r ∷ [])) × ((runs step s (rs ++ r ∷ [])).state ≡ t))
      (λ s a p. (rw p, rw p)) (λ s x rs n q a. absurd (omega arith))
      (λ s x rs s' e q k a p. let m = k (suc_inj a) p in (rw q (ap suc m.0), rw q m.1)) s rs

  -- the rows taken, run alone, leave the same state
  pub state-taken : (s : S) (rs : List Row)
      → (runs step s (take (runs step s rs).taken rs)).state ≡ (runs step s rs).state
  unfolding runs
  state-taken =
      by_rows (λ s rs x. (runs step s (take x.taken rs)).state ≡ x.state)
      (λ s. refl) (λ s r rs n q. refl) (λ s r rs s' e q k. rw q k)

  -- row i of those taken leads from the state after the first i rows to the state after one more
  pub row-leads : (s : S) (rs : List Row) (i : ℕ) (d : Row) (y : E) → i < (runs step s rs).taken
      → step (runs step s (take i rs)).state (get_or rs i d)
      ≡ taken (runs step s (take (suc i) rs)).state (get_or (runs step s rs).entries i y)
  unfolding runs
  row-leads s rs i d y =
      by_rows (λ s rs x. (i : ℕ) → i < x.taken → step (runs step s (take i rs)).state (get_or rs i d)
      ≡ taken (runs step s (take (suc i) rs)).state (get_or x.entries i y))
      (λ s i l. absurd (not-suc-le-zero l)) (λ s r rs n q i l. absurd (not-suc-le-zero l))
      (λ s r rs s' e q k i.
      elim i as (λ (n : ℕ). n < (after e (runs step s' rs)).taken
      → step (runs step s (take n (r ∷ rs))).state (get_or (r ∷ rs) n d)
      ≡ taken (runs step s (take (suc n) (r ∷ rs))).state (get_or (after e (runs step s' rs)).entries n y)) [
        | zero ↦ λ l. rw q
        | suc j ↦ λ l. rw q (k j (le_of_suc-le-suc l))
      ]) s rs i

  -- the entries of the first rows, run alone
  pub entries-take : (s : S) (rs : List Row) (i : ℕ)
      → (runs step s (take i rs)).entries ≡ take i (runs step s rs).entries
  unfolding runs
  entries-take =
      by_rows (λ s rs x. (i : ℕ) → (runs step s (take i rs)).entries ≡ take i x.entries)
      (λ s i.
      elim i as (λ (n : ℕ). (runs step s (take n [])).entries ≡ take n (stopped {E = E} 0 s).entries) [
        | zero ↦ refl
        | suc j ↦ refl
      ])
      (λ s r rs m q i.
      elim i as (λ (n : ℕ). (runs step s (take n (r ∷ rs))).entries ≡ take n (stopped {E = E} m s).entries) [
        | zero ↦ refl
        | suc j ↦ rw q
      ])
      (λ s r rs s' e q k i.
      elim i as (λ (n : ℕ).
      (runs step s (take n (r ∷ rs))).entries ≡ take n (after e (runs step s' rs)).entries) [
        | zero ↦ refl
        | suc j ↦ rw (q, k j)
      ])

-- of which nothing is asked
abbrev pub Any : {A : Type 0} → A → Type 0
Any x = Unit {0}

-- what every row keeps of the state, enters and is refused for
module _ {S E : Type 0} (P : S → Type 0) (Q : E → Type 0) (R : ℕ → Type 0) where
  abbrev pub Keeps : OutcomeOf S E → Type 0
  Keeps (taken s e) = P s × Q e
  Keeps (refused n) = R n

  -- how the rows rs ended: all were taken, or one was refused
  pub data Ends (rs : List Row) (r : ResultOf S E) : Type 0 where
    whole : r.answer ≡ 0 → r.taken ≡ length rs → Ends rs r
    cut : R r.answer → Ends rs r

  pub record Kept (rs : List Row) (r : ResultOf S E) : Type 0 where
    pub state : P r.state
    pub entries : All Q r.entries
    pub ends : Ends rs r

  pub kept : (step : S → Row → OutcomeOf S E)
      → ((s : S) (r : Row) → P s → Keeps (step s r)) → (s : S) (rs : List Row) → P s → Kept rs (runs step s rs)
  kept step h =
      by_rows step (λ s rs x. P s → Kept rs x) (λ s p. record { state = p; entries = tt; ends = whole refl refl })
      (λ s r rs n q p. record { state = p; entries = tt; ends = cut (rw q at (h s r p)) })
      (λ s r rs s' e q k p. let g = rw q at (h s r p) in let j = k g.0 in
      record { state = j.state; entries = (g.1, j.entries); ends = more j.ends })
    where
      more : {r : Row} {rs : List Row} {e : E} {x : ResultOf S E} → Ends rs x → Ends (r ∷ rs) (after e x)
      more (whole a t) = whole a (ap suc t)
      more (cut n) = cut n

  pub finished : {rs : List Row} {r : ResultOf S E} → ((n : ℕ) → R n → OfRow n) → Ends rs r → Finished rs r
  finished h (whole a t) = record { whole = λ q. t; of_row = λ n. absurd (n a) }
  finished h (cut k) = record { whole = λ q. let n = h _ k in omega arith; of_row = λ n. h _ k }
