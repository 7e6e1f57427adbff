-- Every run from a fresh lock keeps the queue of those with tickets (proofs/Queue), and the claims are read off it.
use Rattle.lock.proofs.Library.{ℕ, zero, suc, ◌≤◌, ◌<◌, ◌≡◌, refl, sym, ap, ◌∙◌, List, [], ◌∷◌, ◌++◌, append_assoc}
use Rattle.lock.proofs.Library.{append-nil, not-suc-le-zero, arith, length, get_or, length-replicate}
use Rattle.std.specs.Prelude.{if◌then◌else◌}
use Rattle.lock.specs.{Machine.{Row, taken, refused, follow, runs}}
use Rattle.ticket_model.specs.Machine.{Standing, Idle, Waiting, Holding, Lock, idle, fresh, thread_at, past}
use Rattle.ticket_model.specs.Run.{Outcome, step, run}
use Rattle.ticket_model.specs.Claims.{is_holding, History, nothing, joined, recorded, history, Holds, Waits}
use Rattle.ticket_model.specs.Claims.{Unheld, Exclusive, Among, InOrder, Numbered, Promises}
use Rattle.ticket_model.proofs.{Wrap.{wrap-zero, wrap-past}, Threads.{waiting-holding, count_none, idle-at}}
use Rattle.ticket_model.proofs.Queue.{holders, Queue, queue-few, own_at, queue-apart, queue-holder, has-holding}
use Rattle.ticket_model.proofs.Queue.{has-waiting, Keeps, row_keeps, behind-first}

-- ---- the queue of a run's last state

joined-none : (h : History) → joined h nothing ≡ h
joined-none h = simp append-nil

joined-joined : (a b c : History) → joined (joined a b) c ≡ joined a (joined b c)
joined-joined a b c = simp append_assoc

queues : (T : ℕ) → T ≤ 64 → (rs : List Row) (s : Lock) (h : History) (q : List ℕ) → Queue s h q
    → (q' : List ℕ) × Queue (run T s rs).state (joined h (history T s rs)) q'
unfolding run runs history
queues T few [] s h q l = (q, rw (joined-none h) l)
queues T few (r ∷ rs) s h q l = from (step T s r) (row_keeps T few l r) (queues T few rs)
  where
    from : (o : Outcome) → Keeps s h r.thread o
        → ((s' : Lock) (k : History) (q₁ : List ℕ)
        → Queue s' k q₁ → (q' : List ℕ) × Queue (run T s' rs).state (joined k (history T s' rs)) q')
        → (q' : List ℕ) × Queue (follow s (λ s'. run T s' rs) o).state
        (joined h (recorded s r.thread (λ s'. history T s' rs) o)) q'
    from (taken s' e) (q₁, k) f = let (q', m) = f s' _ q₁ k in (q', rw (← joined-joined h _ (history T s' rs)) m)
    from (refused n) k f = (q, rw (joined-none h) l)

queue-fresh : (start : ℕ) → start < 65536 → Queue (fresh start) nothing []
queue-fresh start small =
    record {
      long = length-replicate 64 idle;
      small = small;
      ahead = sym (wrap-zero start small);
      counted = count_none 64;
      stands = λ i n. absurd (not-suc-le-zero n);
      found = λ t o. absurd (o (rw (idle-at 64 t)));
      took = refl;
      held = refl;
    }

-- ---- what the queue tells

holders-unheld : (s : Lock) (q : List ℕ) → Unheld s → holders s q ≡ []
holders-unheld s [] n = refl
holders-unheld s (u ∷ q) n = from (thread_at s u).standing (n u)
  where
    from : (p : Standing) → (p ≡ Holding → ⊥) → (if is_holding p then u ∷ [] else []) ≡ []
    from Idle k = refl
    from Waiting k = refl
    from Holding k = absurd (k refl)

-- those behind the holder; all where nobody holds
record Rest (s : Lock) (q f : List ℕ) : Type 0 where
  behind : List ℕ
  split : q ≡ f ++ behind
  waiters : (t : ℕ) → Waits s t → Among q t → Among behind t
  others : (t : ℕ) → Among behind t → Waits s t

module _ {s : Lock} {h : History} where
  -- a thread of the queue waits unless it is the first
  later-waits : {q : List ℕ} → Queue s h q → (t : ℕ) (i : Among q t) → 0 < i.at → Waits s t
  later-waits l t i n = rw i.here at ((l.stands i.at i.within).later n)

  rest : (q : List ℕ) → Queue s h q → Rest s q (holders s q)
  rest [] l =
      record { behind = []; split = refl; waiters = λ t w i. i; others = λ t i. absurd (not-suc-le-zero i.within) }
  rest (u ∷ q) l = from (thread_at s u).standing refl
    where
      step_back : (t : ℕ) → Among q t → Among (u ∷ q) t
      step_back t i = record { at = suc i.at; within = omega (arith, i.within); here = i.here }

      first-waits : Waits s u → (t : ℕ) (i : Among (u ∷ q) t) → (n : ℕ) → i.at ≡ n → Waits s t
      first-waits e t i zero k = rw (← rw k at i.here) e
      first-waits e t i (suc n) k = later-waits l t i (omega arith)

      from : (p : Standing) → (thread_at s u).standing ≡ p → Rest s (u ∷ q) (if is_holding p then u ∷ [] else [])
      from Idle e = absurd ((l.stands 0 (omega arith)).out e)
      from Waiting e =
          record { behind = u ∷ q; split = refl; waiters = λ t w i. i; others = λ t i. first-waits e t i i.at refl }
      from Holding e =
          record {
            behind = q;
            split = refl;
            waiters = λ t w i. behind-first (λ d. waiting-holding (sym w ∙ rw d e)) i;
            others = λ t i. later-waits l t (step_back t i) (omega arith);
          }

  holder-first : {q : List ℕ} (l : Queue s h q) (t : ℕ) → Holds s t → get_or q 0 0 ≡ t
  holder-first l t e = let i = l.found t (has-holding s t e) in rw (queue-holder l t e i) at i.here

  exclusive-queue : {q : List ℕ} → Queue s h q → Exclusive s
  exclusive-queue l t u a b = sym (holder-first l t a) ∙ holder-first l u b

  holders-holder : (q : List ℕ) → Queue s h q → (t : ℕ) → Holds s t → holders s q ≡ t ∷ []
  holders-holder [] l t e = absurd (not-suc-le-zero (l.found t (has-holding s t e)).within)
  holders-holder (u ∷ q) l t e = let d : u ≡ t = holder-first l t e in rw (d, e)

  -- the first of the queue has the grant
  first-granted : (q : List ℕ) → Queue s h q → (t : ℕ) (later : List ℕ) → q ≡ t ∷ later → (thread_at s t).own ≡ s.grant
  first-granted q l t later e = from (rw e at l)
    where
      from : Queue s h (t ∷ later) → (thread_at s t).own ≡ s.grant
      from k = (k.stands 0 (omega arith)).own ∙ wrap-zero s.grant k.small

  ordered-queue : (q : List ℕ) → Queue s h q → InOrder s h
  ordered-queue q l =
      let r = rest q l in
      record {
        waiting = r.behind;
        order =
            l.took ∙ ap (λ (x : List ℕ). h.left ++ x) r.split
            ∙ sym (append_assoc h.left (holders s q) r.behind)
            ∙ ap (λ (x : List ℕ). x ++ r.behind) (sym l.held);
        waiters = λ t e. r.waiters t e (l.found t (has-waiting s t e));
        others = r.others;
        holder = λ t a. l.held ∙ ap (λ (x : List ℕ). h.left ++ x) (holders-holder q l t a);
        unheld = λ n. l.held ∙ ap (λ (x : List ℕ). h.left ++ x) (holders-unheld s q n) ∙ append-nil h.left;
        first = λ n t later e. first-granted q l t later
            (r.split ∙ ap (λ (x : List ℕ). x ++ r.behind) (holders-unheld s q n) ∙ e);
      }

  -- a thread with a ticket is as far past the grant as it is down the queue
  past-own : {q : List ℕ} (l : Queue s h q) (t : ℕ) (i : Among q t) → past (thread_at s t).own s.grant ≡ i.at
  past-own l t i = rw (own_at l t i) (wrap-past s.grant i.at l.small (omega (arith, i.within, queue-few l)))

  past-ticket : {q : List ℕ} → Queue s h q → past s.ticket s.grant ≡ length q
  past-ticket {q} l = rw l.ahead (wrap-past s.grant (length q) l.small (omega (arith, queue-few l)))

  numbered-queue : {q : List ℕ} → Queue s h q → Numbered s
  numbered-queue {q} l =
      record {
        distinct = λ t u a b e.
            let i = l.found t a in
            let j = l.found u b in
            sym i.here ∙ ap (λ (n : ℕ). get_or q n 0) (queue-apart l t u i j e) ∙ j.here;
        within = λ t o. let i = l.found t o in omega (arith, past-own l t i, i.within, queue-few l);
        count = l.counted ∙ sym (past-ticket l);
        before = λ t o. let i = l.found t o in omega (arith, past-own l t i, past-ticket l, i.within);
        granted = λ t e.
            let i = l.found t (has-holding s t e) in
            own_at l t i ∙ rw (queue-holder l t e i) (wrap-zero s.grant l.small);
      }

-- For any start number and every list of rows, whatever their bytes; so also after each row of a list, whose rows up to
-- there are a list too.
pub promises : (T start : ℕ)
    → T ≤ 64 → start < 65536 → (rs : List Row) → Promises (run T (fresh start) rs).state (history T (fresh start) rs)
promises T start few small rs =
    let (q, l) = queues T few rs (fresh start) nothing [] (queue-fresh start small) in
    record { exclusive = exclusive-queue l; in_order = ordered-queue q l; numbered = numbered-queue l }
