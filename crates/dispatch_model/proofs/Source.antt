-- Where the dispatcher's code has its rows from: the places of each thread's calls in the file, the thread picked from
-- the set, and its order by its standing.
use Rattle.lock.proofs.Library.{ℕ, suc, ◌+◌, ◌≤◌, ◌<◌, ◌≡◌, refl, sym, ◌∙◌, ◌≢◌, List, [], ◌∷◌, arith, ℕ_discrete}
use Rattle.lock.proofs.Library.{dec_lt, eqb, ltb, length, get_or, drop, set, length-set, drop-cons, drop-drop, length-drop}
use Rattle.lock.proofs.Library.{drop_of_length-le, eq-eqb, ne_eqb, lt-ltb, le-ltb, get_or-set_same, get_or-set_other}
use Rattle.lock.specs.File.{paired}
use Rattle.lock.proofs.Choice.{clash, if-both}
use Rattle.dispatch_model.specs.Dispatch.{wants_of, Wants, now_wants, offer, turn, round}
use Rattle.dispatch_model.specs.Code.{first_of, next_row, Linked, pick}
use Rattle.laws.proofs.Lock.{Sizes, State}
use Rattle.dispatch_model.proofs.Round.{Chosen, picked}
use Rattle.dispatch_model.proofs.Order.{now-both}
use Rattle.dispatch_model.proofs.Sets.{some?, Moving, able-is}

-- the calls that thread u wants from place p of the file on
abbrev pub wants_from : ℕ → List ℕ → List ℕ → ℕ → List ℕ
wants_from u ts os p = wants_of u (paired (drop p ts) (drop p os))

-- the search, row by row
first-here : (t : ℕ) (ts : List ℕ) (p : ℕ) → p < length ts → get_or ts p 0 ≡ t → next_row t ts p ≡ p
first-here t ts p l e = rw (drop-cons ts p 0 l, eq-eqb (get_or ts p 0) t e) (omega arith)

first_on : (t : ℕ) (ts : List ℕ) (p : ℕ) → p < length ts → get_or ts p 0 ≢ t → next_row t ts p ≡ next_row t ts (suc p)
first_on t ts p l n = rw (drop-cons ts p 0 l, ne_eqb (get_or ts p 0) t n) (omega arith)

-- a row that a search stays at is the thread's
pub first-own : (t : ℕ) (ts : List ℕ) (p : ℕ) → p < length ts → next_row t ts p ≡ p → get_or ts p 0 ≡ t
first-own t ts p l e = elim (ℕ_discrete (get_or ts p 0) t) [
  | yes q ↦ q
  | no n ↦ absurd (omega (arith, first_on t ts p l n))
]

first-le : (t : ℕ) (ts : List ℕ) → first_of t ts ≤ length ts
first-le t [] = omega arith
first-le t (x ∷ ts) =
    if-both (λ (n : ℕ). n ≤ suc (length ts)) (eqb x t) (λ e. omega arith) (λ e. omega (arith, first-le t ts))

next_le : (t : ℕ) (ts : List ℕ) (p : ℕ) → p ≤ length ts → next_row t ts p ≤ length ts
next_le t ts p l = omega (arith, first-le t (drop p ts), length-drop p ts)

-- from the first row on, a search stays there
first-zero : (t : ℕ) (ts : List ℕ) → first_of t (drop (first_of t ts) ts) ≡ 0
first-zero t [] = refl
first-zero t (x ∷ ts) = elim (ℕ_discrete x t) [
  | yes e ↦ let n : first_of t (x ∷ ts) ≡ 0 = rw (eq-eqb x t e) in rw n n
  | no k ↦ rw (ne_eqb x t k) (first-zero t ts)
]

next-first : (t : ℕ) (ts : List ℕ) (p : ℕ) → next_row t ts (next_row t ts p) ≡ next_row t ts p
next-first t ts p = rw (← (drop-drop (first_of t (drop p ts)) p ts)) (omega (arith, first-zero t (drop p ts)))

-- the rows passed over are not the thread's
passed : (u : ℕ) (ts os : List ℕ) → length os ≡ length ts → wants_from u ts os 0 ≡ wants_from u ts os (first_of u ts)
passed u [] os e = refl
passed u (x ∷ ts) [] e = absurd (omega arith)
passed u (x ∷ ts) (o ∷ os) e = elim (ℕ_discrete x u) [
  | yes q ↦ let n : first_of u (x ∷ ts) ≡ 0 = rw (eq-eqb x u q) in rw n
  | no n ↦ rw (ne_eqb x u n) (passed u ts os (omega arith))
]

passed_over : (u : ℕ) (ts os : List ℕ) (p : ℕ)
    → length os ≡ length ts → wants_from u ts os p ≡ wants_from u ts os (next_row u ts p)
passed_over u ts os p e =
    let n = first_of u (drop p ts) in
    let same : length (drop p os) ≡ length (drop p ts) = rw (length-drop p os, length-drop p ts, e) in
    rw (← (drop-drop n p ts), ← (drop-drop n p os)) (passed u (drop p ts) (drop p os) same)

-- at its next row the thread's next call begins, and the others are wanted behind it
called : (u : ℕ) (ts os : List ℕ) (p : ℕ) → length os ≡ length ts → next_row u ts p ≡ p → p < length ts
    → wants_from u ts os p ≡ get_or os p 0 ∷ wants_from u ts os (suc p)
called u ts os p e q l =
    rw (drop-cons ts p 0 l, drop-cons os p 0 (omega arith), eq-eqb (get_or ts p 0) u (first-own u ts p l q))

no_more : (u : ℕ) (ts os : List ℕ) (p : ℕ) → length ts ≤ p → wants_from u ts os p ≡ []
no_more u ts os p l = rw (drop_of_length-le ts l)

-- ---- linking the rows of each thread, from the last row to the first

-- the heads below t are at the end
abbrev pub AtEnd : ℕ → List ℕ → ℕ → Type 0
AtEnd n heads t = (length heads ≡ 64) × ((u : ℕ) → u < t → get_or heads u 0 ≡ n)

-- an entry of a list in which one is put anew
entry-both : (P : ℕ → Type 0) (xs : List ℕ) (t n u : ℕ) → t < length xs → (u ≡ t → P n) → (u ≢ t → P (get_or xs u 0))
    → P (get_or (set xs t n) u 0)
entry-both P xs t n u l f g = elim (ℕ_discrete u t) [
  | yes e ↦ rw (e, get_or-set_same xs t n 0 l) (f e)
  | no k ↦ rw (get_or-set_other xs t u n 0 k) (g k)
]

pub at-end-more : (n : ℕ) (heads : List ℕ) (t : ℕ) → t < 64 → AtEnd n heads t → AtEnd n (set heads t n) (t + 1)
at-end-more n heads t l h = (
  length-set heads t n ∙ h.0,
  λ u k. entry-both (λ (x : ℕ). x ≡ n) heads t n u (omega (arith, h.0)) (λ e. refl) (λ m. h.1 u (omega arith)),
)

pub linked-none : (ts heads later : List ℕ)
    → AtEnd (length ts) heads 64 → length later ≡ 4096 → Linked ts heads later (length ts)
linked-none ts heads later h l =
    record {
      heads_long = h.0;
      later_long = l;
      head = λ t k. rw (drop_of_length-le ts {i = length ts} (omega arith)) (h.1 t k ∙ omega arith);
      link = λ i a b. absurd (omega arith);
    }

pub linked-more : (ts heads later : List ℕ) (p : ℕ)
    → p < length ts → length ts ≤ 4096 → get_or ts p 0 < 64 → Linked ts heads later (suc p)
    → Linked ts (set heads (get_or ts p 0) p) (set later p (get_or heads (get_or ts p 0) 0)) p
linked-more ts heads later p l few small h =
    record {
      heads_long = length-set heads (get_or ts p 0) p ∙ h.heads_long;
      later_long = length-set later p _ ∙ h.later_long;
      head = λ t k. entry-both (λ (x : ℕ). x ≡ next_row t ts p) heads (get_or ts p 0) p t (omega (arith, h.heads_long))
          (λ e. sym (first-here t ts p l (sym e))) (λ n. h.head t k ∙ sym (first_on t ts p l (λ q. n (sym q))));
      link = λ i a b. entry-both (λ (x : ℕ). x ≡ next_row (get_or ts i 0) ts (suc i)) later p _ i
          (omega (arith, h.later_long)) (λ e. rw e (h.head (get_or ts p 0) small)) (λ n. h.link i (omega arith) b);
    }

-- ---- the next calls

-- the place of each thread's next call; the number of rows where it has none
pub record Places (ts os heads : List ℕ) (w : Wants) : Type 0 where
  pub long : length heads ≡ 64
  pub wants : (u : ℕ) → u < 64 → w u ≡ wants_from u ts os (get_or heads u 0)
  pub first : (u : ℕ) → u < 64 → next_row u ts (get_or heads u 0) ≡ get_or heads u 0
  pub within : (u : ℕ) → u < 64 → get_or heads u 0 ≤ length ts

module _ (ts os : List ℕ) (same : length os ≡ length ts) where
  -- at the start
  pub places-begun : (heads : List ℕ) → length heads ≡ 64
      → ((t : ℕ) → t < 64 → get_or heads t 0 ≡ next_row t ts 0) → Places ts os heads (λ u. wants_of u (paired ts os))
  places-begun heads l h =
      record {
        long = l;
        wants = λ u k. rw (h u k) (passed_over u ts os 0 same);
        first = λ u k. rw (h u k) (next-first u ts 0);
        within = λ u k. rw (h u k) (next_le u ts 0 (omega arith));
      }

  module _ (heads : List ℕ) (w : Wants) (h : Places ts os heads w) where
    -- who wants a call has a place for it
    pub wants-some : (u : ℕ) → u < 64 → some? (w u) ≡ ltb (get_or heads u 0) (length ts)
    wants-some u k = elim (dec_lt (get_or heads u 0) (length ts)) [
      | yes l ↦
          rw
          (lt-ltb (get_or heads u 0) (length ts) l, h.wants u k, called u ts os (get_or heads u 0) same (h.first u k) l)
      | no n ↦
          rw (
            le-ltb (get_or heads u 0) (length ts) (omega arith),
            h.wants u k,
            no_more u ts os (get_or heads u 0) (omega arith),
          )
    ]

    -- thread t still wants `later`, and has its next call at n
    module _ (t n : ℕ) (later : List ℕ) (k : t < 64) where
      each : (u : ℕ) (P : ℕ → List ℕ → Type 0) → (u ≡ t → P n later) → P (get_or heads u 0) (w u)
          → P (get_or (set heads t n) u 0) (now_wants t later w u)
      each u P f g =
          entry-both (λ (x : ℕ). P x (now_wants t later w u)) heads t n u (omega (arith, h.long))
          (λ a. rw (eq-eqb u t a) (f a)) (λ b. rw (ne_eqb u t b) g)

      places-set : later ≡ wants_from t ts os n → next_row t ts n ≡ n → n ≤ length ts
          → Places ts os (set heads t n) (now_wants t later w)
      places-set a b c =
          record {
            long = length-set heads t n ∙ h.long;
            wants = λ u i. each u (λ p x. x ≡ wants_from u ts os p) (λ e. rw e a) (h.wants u i);
            first = λ u i. each u (λ p x. next_row u ts p ≡ p) (λ e. rw e b) (h.first u i);
            within = λ u i. each u (λ p x. p ≤ length ts) (λ e. c) (h.within u i);
          }

    -- the call at its place begins, and the next one's place is put there
    pub places-next : (t n : ℕ) (o : ℕ) (later : List ℕ) → t < 64 → w t ≡ o ∷ later
        → n ≡ next_row t ts (suc (get_or heads t 0))
        → (get_or os (get_or heads t 0) 0 ≡ o)
        × (get_or heads t 0 < length ts) × Places ts os (set heads t n) (now_wants t later w)
    places-next t n o later k e q = elim (dec_lt (get_or heads t 0) (length ts)) [
      | yes l ↦
          let next = suc (get_or heads t 0) in
          let c = sym (h.wants t k ∙ called t ts os (get_or heads t 0) same (h.first t k) l) ∙ e in
          let co : get_or os (get_or heads t 0) 0 ≡ o = cc in
          let cl : wants_from t ts os next ≡ later = cc in (
            co,
            l,
            places-set t n later k
                (rw q (sym cl ∙ passed_over t ts os next same)) (rw q (next-first t ts next))
                (rw q (next_le t ts next l)),
          )
      | no l ↦
          let c = sym e ∙ h.wants t k ∙ no_more t ts os (get_or heads t 0) (omega arith) in
          clash cc
    ]

-- ---- the thread picked, and its order

pub chosen : (z : Sizes) (s : State) (w : Wants) (turn able : ℕ) → z.threads ≤ 64 → Moving z.threads able s w
    → turn < z.threads → able ≢ 0 → Chosen (round z.threads) z.threads (offer s w) turn (pick able turn)
chosen z s w turn able few h lt n =
    picked z.threads able (offer s w) (able-is z.threads able s w few h) turn lt n

-- wants that stay are the same wants
pub still-wants : (t : ℕ) (os : List ℕ) (w : Wants) → os ≡ w t → (u : ℕ) → now_wants t os w u ≡ w u
still-wants t os w e = now-both (λ u x. x ≡ w u) t os w e (λ u n. refl)
