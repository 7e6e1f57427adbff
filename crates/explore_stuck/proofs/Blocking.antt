-- Rows that change nothing, of one thread after the other; and the numbers that are stuck, one after the other.
use Rattle.lock.proofs.Library.{ℕ, suc, ◌+◌, ◌*◌, ◌≤◌, ◌<◌, ◌≡◌, refl, sym, ap, subst, ◌∙◌, ◌≢◌}
use Rattle.lock.proofs.Library.{Bool, false, ◌⊎◌, inl, inr, List, arith, dec_lt, ℕ_discrete, length}
use Rattle.lock.specs.{Bound.steps_before, declared.{Sizes.Sizes, Entry.Entry}, Machine.{Row, OutcomeOf, taken, refused}}
use Rattle.std.specs.Prelude.{Option, Some, None, unwrap_or, IfSome, Result, Ok, Err}
use Rattle.lock.proofs.Choice.{clash}
use Rattle.lock.specs.declared.{Refusal.Refusal}
use Rattle.rows.specs.Outcome.{given, numbered}
use Rattle.journal.specs.Came.{Came}
use Rattle.pair.specs.Pair.{Pair, Note, written, turn}
use Rattle.progress.specs.Deadlock.{Blocked, Stuck}
use Rattle.turn.specs.Turn.{pair_in, Place, Turned}
use Rattle.explore_machine.proofs.Locks.{HoldsBoth, turn_holds, stuck-blind, complete-in}
use Rattle.explore_subject.specs.Search.{Only, Sound, Small, Figures, Explores}
use Rattle.explore_pair.specs.Both.{both, OfBoth}
use Rattle.explore_pair.proofs.Pairs.{place-tidied, as-tidied, every-both}
use Rattle.turn.proofs.Both.{place-within}
use Rattle.explore_subject.proofs.Growing.{explores-nothing}
use Rattle.explore_stuck.specs.Stuck.{Stays, Counted, none, more, same, StuckAt, Decides, Ready}
use Rattle.explore_stuck.specs.Stuck.{ExploresLocks}

-- ---- one row

module _ {z : Sizes} {r : Row} {ls ls' : List (List ℕ)} {w : Result Entry Refusal} (c : Turned z r ls ls' w) where
  -- it is refused or held up
  stays-row : ((e : Entry) → w ≡ Ok e → e.kind ≡ 4)
      → Blocked (pair_in ls) (turn z (pair_in ls) r) × (pair_in ls' ≡ pair_in ls)
  stays-row h = from w h (turn z (pair_in ls) r) c.comes (turn_holds z (pair_in ls) r)
    where
      from : (w : Result Entry Refusal) → ((e : Entry) → w ≡ Ok e → e.kind ≡ 4) → (q : OutcomeOf Pair Note)
          → Came written (pair_in ls) (pair_in ls') w q → HoldsBoth (pair_in ls) q
          → Blocked (pair_in ls) q × (pair_in ls' ≡ pair_in ls)
      from (Ok e) h (taken s' m) g k =
          let i : Ok e ≡ Ok (written m) = g.is in
          let b : e ≡ written m = cc in
          let d = k (ap (λ (y : Entry). y.kind) (sym b) ∙ h e refl) in
          (d, g.left ∙ d.0)
      from (Ok e) h (refused n) g k = (let i = g.is in clash cc)
      from (Err d) h (taken s' m) g k = (let i = g.is in clash cc)
      from (Err d) h (refused n) g k = (tt, g.left)

  -- or something changes
  pub moves-row : (e : Entry) → w ≡ Ok e → e.kind ≢ 4 → Stuck z (pair_in ls) → ⊥
  moves-row e p h k = from (turn z (pair_in ls) r) (ap numbered (sym p) ∙ c.comes.is) (k r)
    where
      from : (q : OutcomeOf Pair Note) → Ok e ≡ given written q → Blocked (pair_in ls) q → ⊥
      from (taken s' m) g i =
          let b : e ≡ written m = cc in
          h (ap (λ (y : Entry). y.kind) b ∙ ap (λ (y : Entry). y.kind) i.1)
      from (refused n) g i = clash cc

-- the entry is of a row that was held up
pub held : {w : Result Entry Refusal} {d : Entry} → w ≡ Ok d → d.kind ≡ 4 → (e : Entry) → w ≡ Ok e → e.kind ≡ 4
held {w} {d} p k e q =
    let i : Ok d ≡ Ok e = sym p ∙ q in
    let b : d ≡ e = cc in
    ap (λ (y : Entry). y.kind) (sym b) ∙ k

-- one row more
pub stays-more : {z : Sizes} {R Q : Row → Type 0} {t o : ℕ} {s : Pair} {ls ls' : List (List ℕ)} {w : Result Entry Refusal}
    → Stays z R s ls → Turned z (record { thread = t; order = o }) ls ls' w → ((e : Entry) → w ≡ Ok e → e.kind ≡ 4)
    → ((r : Row) → Q r → R r ⊎ Only t o r) → Stays z Q s ls'
stays-more {z} {t = t} {o = o} y c h f =
    let k = stays-row c h in
    record {
      same = k.1 ∙ y.same;
      place = place-tidied (as-tidied k.1 (c.keeps steps_before y.place)) y.place;
      blocked = λ r q. elim (f r q) [
        | inl p ↦ y.blocked r p
        | inr e ↦ rw e (subst (λ (u : Pair). Blocked u (turn z u (record { thread = t; order = o }))) y.same k.0)
      ];
    }

pub stays-none : {z : Sizes} {R : Row → Type 0} {ls : List (List ℕ)} → Place z ls steps_before → ((r : Row) → R r → ⊥)
    → Stays z R (pair_in ls) ls
stays-none p f = record { same = refl; place = p; blocked = λ r q. absurd (f r q) }

pub stays-weaker : {z : Sizes} {R Q : Row → Type 0} {s : Pair} {ls : List (List ℕ)}
    → Stays z R s ls → ((r : Row) → Q r → R r) → Stays z Q s ls
stays-weaker y f = record { same = y.same; place = y.place; blocked = λ r q. y.blocked r (f r q) }

-- rows of another thread
pub stays-both : {z : Sizes} {R Q P : Row → Type 0} {s : Pair} {ls ls' : List (List ℕ)}
    → Stays z R s ls → Stays z Q (pair_in ls) ls' → ((r : Row) → P r → R r ⊎ Q r) → Stays z P s ls'
stays-both {z} a b f = record {
  same = b.same ∙ a.same;
  place = b.place;
  blocked = λ r p. elim (f r p) [
    | inl q ↦ a.blocked r q
    | inr q ↦ subst (λ (u : Pair). Blocked u (turn z u r)) a.same (b.blocked r q)
  ];
}

-- it was not stuck, and it is as it was
pub not_stuck : (z : Sizes) {s s' : Pair} → s' ≡ s → (Stuck z s' → ⊥) → Stuck z s → ⊥
not_stuck z e f k = f (subst (Stuck z) (sym e) k)

-- all rows that are tried: every other is refused
pub all-stuck : {z : Sizes} {s : Pair} {ls : List (List ℕ)} → Small z → Stays z (OfBoth z) s ls → Stuck z s
all-stuck {z} {s} small y r = elim (every-both z small.items false s r) [
  | inl p ↦ y.blocked r p
  | inr q ↦ rw q.is tt
]

-- ---- one number after the other

-- the first that is stuck, if there is one, is below i
abbrev pub Below : Option ℕ → ℕ → Type 0
Below f i = IfSome f (λ (m : ℕ). m < i)

module _ {P : ℕ → Type 0} {i count : ℕ} where
  counted-stuck : Counted P i count → P i → Counted P (i + 1) (count + 1)
  counted-stuck c p =
      let e : suc i ≡ i + 1 = omega arith in
      let f : suc count ≡ count + 1 = omega arith in
      subst (λ (k : ℕ). Counted P k (count + 1)) e (subst (λ (k : ℕ). Counted P (suc i) k) f (more i count c p))

  counted-free : Counted P i count → (P i → ⊥) → Counted P (i + 1) count
  counted-free c p =
      let e : suc i ≡ i + 1 = omega arith in
      subst (λ (k : ℕ). Counted P k count) e (same i count c p)

  pub decides-stuck : {m : ℕ} → Decides P i count m → P i → Decides P (i + 1) (count + 1) m
  decides-stuck {m} d p =
      let h = d.within in
      record {
        counted = counted-stuck d.counted p;
        least = λ j l a. d.least j (omega arith) a;
        met = λ l. elim (ℕ_discrete m i) [
          | yes e ↦ subst P (sym e) p
          | no e ↦ d.met (omega arith)
        ];
        within = omega arith;
      }

  pub decides-free : (f : Option ℕ) → Below f i → Decides P i count (unwrap_or f i) → (P i → ⊥)
      → Decides P (i + 1) count (unwrap_or f (i + 1)) × Below f (i + 1)
  decides-free (Some m) b d p = (
    record {
      counted = counted-free d.counted p;
      least = λ j l a. d.least j (omega arith) a;
      met = λ l. d.met (omega arith);
      within = omega arith;
    },
    omega arith,
  )
  decides-free None b d p = (
    record {
      counted = counted-free d.counted p;
      least = λ j l a q. elim (ℕ_discrete j i) [
        | yes e ↦ p (subst P e q)
        | no e ↦ d.least j (omega arith) (omega arith) q
      ];
      met = λ l. absurd (omega arith);
      within = omega arith;
    },
    tt,
  )

pub decides-none : {P : ℕ → Type 0} → Decides P 0 0 0
decides-none = record {
  counted = none;
  least = λ i a b. absurd (omega arith);
  met = λ l. absurd (omega arith);
  within = omega arith;
}

-- ---- the answer

-- the records of a search
pub ready_of : (o : Bool) {z : Sizes} {x : List ℕ × List ℕ} {n : ℕ} → (8 * n ≤ length x.0) × (8 * n ≤ length x.1)
    → (0 < n → Sound (both o z) x n) → Ready z x n
ready_of o r f = record {
  room = r;
  place = λ i l. place-within (omega arith) ((f (omega arith)).reached i l);
}

pub explores-locks : (o : Bool) (z : Sizes) {x : List ℕ × List ℕ} {e : Figures} {stuck first : ℕ} → Explores (both o z) x e
    → Decides (StuckAt z x) e.count stuck first
    → ExploresLocks o z x (record {
      answer = e.answer;
      count = e.count;
      depth = e.depth;
      stuck = stuck;
      first = first;
    })
explores-locks o z {x} {e} {stuck} {first} h d = record {
  explores = h;
  decides = d;
  complete = λ q. complete-in o z (h.closed q);
  shortest = λ q rs k s.
      let p = complete-in o z (h.closed q) rs k in
      let i = p.place in
      let l = p.within in
      let m = p.soon in
      let t : StuckAt z x i = stuck-blind z _ _ (sym p.alike) s in
      elim (dec_lt i first) [
        | yes a ↦ absurd (d.least i l a t)
        | no a ↦ (let c = h.ordered first i (omega arith) l in (omega arith, omega arith))
      ];
}

pub explores-no-locks : (o : Bool) (z : Sizes) {x : List ℕ × List ℕ}
    → ExploresLocks o z x (record { answer = 2; count = 0; depth = 0; stuck = 0; first = 0 })
explores-no-locks o z =
    explores-locks o z (explores-nothing (both o z) 2 (omega arith, omega arith) (λ q. omega arith) (omega arith))
    decides-none
