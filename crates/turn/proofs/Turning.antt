-- The ways in which a row of two locks goes: refused before its lock is asked, or what its lock makes of it.
use Rattle.lock.proofs.Library.{eq-eqb, ℕ, ◌+◌, ◌≤◌, ◌<◌, ◌≡◌, refl, sym, ap, subst, ◌∙◌, ◌≢◌, Bool, true, false}
use Rattle.lock.proofs.{Library.{not, ◌&&◌, List, arith, eqb, ltb, ltb-true}, Choice.{if-both, clash}, Accepted.both}
use Rattle.lock.specs.{declared.Sizes.Sizes, Machine.{Row, taken, refused, OfRow, state_after, RefusedAsRow}, State.{State, Outcome}}
use Rattle.std.specs.Prelude.{if◌then◌else◌}
use Rattle.lock.specs.{Bound.most_steps, Call.decode, Run.{unknown, step}}
use Rattle.laws.proofs.{Role.Inv, Runs.held}
use Rattle.pair.specs.Pair.{Side, first, second, Pair, with_lock, busy, lowered, own_row, written, turned, turn_at, base}
use Rattle.pair.proofs.Words.{Small, small}
use Rattle.cells.specs.View.{state_of}
use Rattle.rows.{specs.Outcome.{given, numbered}, proofs.Cases.by-outcome}
use Rattle.std.specs.Prelude.{Result, Ok, Err}
use Rattle.lock.specs.{declared.{Entry.Entry, Refusal.{Refusal, TheVariants.NoSuchThread}}, Refusal.number_of}
use Rattle.step.specs.Reached.{Reached, Steps}
use Rattle.step.proofs.{Reach.reached-within, Orders.step-far}
use Rattle.journal.specs.Came.{Came}
use Rattle.turn.specs.Turn.{sided, refused_new, Turns}
use Rattle.turn.proofs.New.{barred-is}

reached-inv : {z : Sizes} {n : ℕ} {l : List ℕ} → Reached z n l → Inv z (state_of l)
reached-inv {z} r = subst (Inv z) r.there (held z r.range r.rows).inv

above : (z : Sizes) (r : Row) → OfRow (refused_new z r)
above z r =
    if-both (λ (n : ℕ). OfRow (if eqb n 0 then 7 else n)) (ltb r.thread z.threads)
    (λ e. if-both (λ (n : ℕ). OfRow (if eqb n 0 then 7 else n)) (eqb r.order 0) (λ f. omega arith)
    (λ f. if-both (λ (n : ℕ). OfRow (if eqb n 0 then 7 else n))
    (unknown (decode z r.order)) (λ g. omega arith) (λ g. omega arith)))
    (λ e. omega arith)

pub lowered-begins : (o : ℕ) → o ≢ 0 → lowered o ≢ 0
lowered-begins o n = if-both (λ (k : ℕ). k ≢ 0) (ltb 128 o && ltb o 224)
    (λ e q. let h : 128 < o = ltb-true 128 o (both (ltb 128 o) (ltb o 224) e).0 in omega arith) (λ e. n)

-- the entry of a row at the lock x, as the journal of two locks has it, and what the row gives
abbrev pub noted : Side → Entry → Entry
noted x e = record { kind = e.kind; word = e.word + base x }

abbrev pub lifted : Side → Result Entry Refusal → Result Entry Refusal
lifted x (Ok e) = Ok (noted x e)
lifted x (Err r) = Err r

-- the first lock's words have nothing added
pub as-it-is : (w : Result Entry Refusal) → lifted first w ≡ w
as-it-is (Ok e) =
    let h : e.word + 0 ≡ e.word = omega arith in ap (λ (n : ℕ). Ok (record { kind = e.kind; word = n })) h
as-it-is (Err r) = refl

module _ (z : Sizes) (x : Side) (t o : ℕ) (l m : List ℕ) where
  abbrev r : Row
  r = record { thread = t; order = o }

  abbrev s : Pair
  s = sided x (state_of l) (state_of m)

  abbrev bars : Bool
  bars = not (eqb o 0) && busy (state_of m) t

  -- the row at its lock, by whether the other lock bars it
  turn_is : turn_at z s x r ≡ turned s x bars (step z (state_of l) (own_row r))
  turn_is =
      elim x as (λ (y : Side). turn_at z (sided y (state_of l) (state_of m)) y r
      ≡ turned (sided y (state_of l) (state_of m)) y bars (step z (state_of l) (own_row r))) [ first ↦ refl | second ↦ refl ]

  -- ---- refused before its lock is asked: nothing changes

  pub refuses : (q : Refusal) → OfRow (number_of q) → turn_at z s x r ≡ refused (number_of q) → Turns z x r l m l (Err q)
  refuses q f e =
      record {
        comes = subst (Came written s s (Err q)) (sym e) (record { left = refl; is = refl; fair = f });
        keeps = λ k h. reached-within z (omega arith) h;
      }

  pub far : z.threads ≤ t → Turns z x r l m l (Err NoSuchThread)
  far h = refuses NoSuchThread (omega arith) (turn_is ∙ ap (turned s x bars) (step-far z l t (lowered o) h))

  pub barred : bars ≡ true → (q : Refusal) → number_of q ≡ refused_new z (own_row r) → Turns z x r l m l (Err q)
  barred b q e =
      refuses q (rw e (above z (own_row r)))
      (turn_is ∙ ap (λ (c : Bool). turned s x c (step z (state_of l) (own_row r))) b
      ∙ barred-is z s x (state_of l) t (lowered o) (lowered-begins o
      (λ q. let k : false ≡ true = rw (eq-eqb o 0 q) at b in clash cc))
      ∙ ap (λ (n : ℕ). refused n) (sym e))

  -- ---- what its lock makes of it

  module _ (b : bars ≡ false) where
    -- the turn, by the outcome at its lock
    turns_as : (q : Outcome) → step z (state_of l) (own_row r) ≡ q → turn_at z s x r ≡ turned s x false q
    turns_as q e = turn_is ∙ ap (λ (c : Bool). turned s x c (step z (state_of l) (own_row r))) b ∙ ap (turned s x false) e

    lands : (y : Side) (v : State) → sided y v (state_of m) ≡ with_lock y v (sided y (state_of l) (state_of m))
    lands first v = refl
    lands second v = refl

    -- the entry has the lock's own word, and what is added to it
    pub made-there : {l' : List ℕ} {w : Result Entry Refusal} → Steps z (own_row r) l l' w → Turns z x r l m l' (lifted x w)
    made-there {l'} {w} c =
        by-outcome (λ (e : Entry). e)
        (λ (v : Result Entry Refusal) (q : Outcome). step z (state_of l) (own_row r) ≡ q → state_of l' ≡ state_after (state_of l) q
        → RefusedAsRow q → Turns z x r l m l' (lifted x v))
        (λ s' e d h p k f. record {
          comes =
              subst (Came written s (sided x (state_of l') (state_of m)) (Ok (noted x d))) (sym (turns_as (taken s' e) p))
              (record {
                left = ap (λ (v : State). sided x v (state_of m)) k ∙ lands x s';
                is = ap (λ (y : Entry). Ok (noted x y)) h;
                fair = tt;
              });
          keeps = c.keeps;
        })
        (λ q p k f. record {
          comes =
              subst (Came written s (sided x (state_of l') (state_of m)) (Err q)) (sym (turns_as (refused (number_of q)) p))
              (record {
                left = ap (λ (v : State). sided x v (state_of m)) k;
                is = refl;
                fair = f;
              });
          keeps = c.keeps;
        })
        w (step z (state_of l) (own_row r)) c.comes.is refl c.comes.left.state c.comes.fair

    -- a lock's own words are below 64
    pub small-there : {l' : List ℕ} {e : Entry} → Reached z most_steps l → Steps z (own_row r) l l' (Ok e) → e.word < 64
    small-there {l'} {e} h c =
        from (step z (state_of l) (own_row r)) c.comes.is (small z (state_of l) (own_row r) (reached-inv h))
      where
        from : (q : Outcome) → numbered (Ok e) ≡ given (λ (y : Entry). y) q → Small z q → e.word < 64
        from (taken s' d) k f = let same : e ≡ d = cc in rw same f.below
        from (refused a) k f = clash cc
