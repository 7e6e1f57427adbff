-- The queue of those who took tickets and have not left, in the order of their tickets. What carries the claims: the
-- thread with i others before it has the ticket i past the grant, and only the first can hold; every row keeps that.
use Prim.{Unit, tt}
use Rattle.lock.proofs.Library.{ℕ, zero, suc, ◌+◌, ◌%◌, ◌≤◌, ◌<◌, ◌≡◌, refl, sym, subst, ◌∙◌, ◌≢◌, List, [], ◌∷◌, ◌++◌}
use Rattle.lock.proofs.Library.{append_assoc, append-nil, not-suc-le-zero, arith, ℕ_discrete, eqb, ltb, length, get_or}
use Rattle.lock.proofs.Library.{set, length-set, length-append, List·getD-append, get_or-set_same, get_or-set_other}
use Rattle.lock.proofs.Library.{get_or-append_seam, eqb-true, ltb-true, dec_lt}
use Rattle.std.specs.Prelude.{if◌then◌else◌}
use Rattle.lock.{specs.{Machine.{Row, taken, refused}}, proofs.Choice.if-both}
use Rattle.ticket_model.specs.Machine.{Standing, Idle, Waiting, Holding, Thread, Lock, Made, next, thread, idle}
use Rattle.ticket_model.specs.{Machine.{thread_at, obey}, Run.{Outcome, outcome, step}, Claims.is_holding}
use Rattle.ticket_model.specs.Claims.{History, joined, noted, Holds, Waits, Among, HasTicket, ticket_count}
use Rattle.ticket_model.proofs.Wrap.{next_small, wrap-apart, wrap-first, wrap-nearer, wrap-further}
use Rattle.ticket_model.proofs.Threads.{waiting-holding, waiting-idle, holding-idle, at_set, count_set}
use Rattle.ticket_model.proofs.Threads.{count_most, counts, obey-both}

-- the thread h with i others before it, where the grant is g
pub record Stands (g i : ℕ) (h : Thread) : Type 0 where
  pub out : h.standing ≡ Idle → ⊥
  pub own : h.own ≡ (g + i) % 65536
  pub later : 0 < i → h.standing ≡ Waiting

-- the holder, if there is one
abbrev pub holders : Lock → List ℕ → List ℕ
holders s [] = []
holders s (t ∷ q) = if is_holding (thread_at s t).standing then t ∷ [] else []

pub record Queue (s : Lock) (h : History) (q : List ℕ) : Type 0 where
  pub long : length s.threads ≡ 64
  pub small : s.grant < 65536
  pub ahead : s.ticket ≡ (s.grant + length q) % 65536
  pub counted : ticket_count s.threads ≡ length q
  pub stands : (i : ℕ) → i < length q → Stands s.grant i (thread_at s (get_or q i 0))
  pub found : (t : ℕ) → HasTicket s t → Among q t
  pub took : h.took ≡ h.left ++ q
  pub held : h.held ≡ h.left ++ holders s q

-- ---- what the queue tells

module _ {s : Lock} {h : History} {q : List ℕ} (l : Queue s h q) where
  pub queue-few : length q ≤ 64
  queue-few = omega (arith, l.long, l.counted, count_most s.threads)

  -- a thread of the queue has the ticket of its place
  pub own_at : (t : ℕ) (i : Among q t) → (thread_at s t).own ≡ (s.grant + i.at) % 65536
  own_at t i = rw i.here at (l.stands i.at i.within).own

  -- two threads of the queue with one ticket are one
  pub queue-apart : (t u : ℕ) (i : Among q t) (j : Among q u)
      → (thread_at s t).own ≡ (thread_at s u).own → i.at ≡ j.at
  queue-apart t u i j e =
      wrap-apart s.grant i.at j.at
      (omega (arith, i.within, queue-few)) (omega (arith, j.within, queue-few)) (sym (own_at t i) ∙ e ∙ own_at u j)

  pub queue-once : (t : ℕ) (i j : Among q t) → i.at ≡ j.at
  queue-once t i j = queue-apart t t i j refl

  -- the holder is the first
  pub queue-holder : (t : ℕ) → Holds s t → (i : Among q t) → i.at ≡ 0
  queue-holder t e i = elim (dec_lt 0 i.at) [
    | yes p ↦
        let w : (thread_at s t).standing ≡ Waiting = rw i.here at ((l.stands i.at i.within).later p) in
        absurd (waiting-holding (sym w ∙ e))
    | no p ↦ omega arith
  ]

pub has-holding : (s : Lock) (t : ℕ) → Holds s t → HasTicket s t
has-holding s t e n = holding-idle (sym e ∙ n)

pub has-waiting : (s : Lock) (t : ℕ) → Waits s t → HasTicket s t
has-waiting s t e n = waiting-idle (sym e ∙ n)

-- ---- the first of the queue

-- whoever is among the queue and is not the first is behind it
pub behind-first : {t u : ℕ} {q : List ℕ} → u ≢ t → Among (t ∷ q) u → Among q u
behind-first {t} {u} {q} d i = from i.at i.within i.here
  where
    from : (n : ℕ) → n < suc (length q) → get_or (t ∷ q) n 0 ≡ u → Among q u
    from zero w k = absurd (d (sym k))
    from (suc n) w k = record { at = n; within = omega arith; here = k }

holders-is : (s : Lock) (q : List ℕ) (t : ℕ)
    → 0 < length q → get_or q 0 0 ≡ t → holders s q ≡ (if is_holding (thread_at s t).standing then t ∷ [] else [])
holders-is s [] t n e = absurd (not-suc-le-zero n)
holders-is s (u ∷ q) t n e = rw e

holders-keep : (s s' : Lock) (q : List ℕ) → (0 < length q
    → (thread_at s' (get_or q 0 0)).standing ≡ (thread_at s (get_or q 0 0)).standing) → holders s' q ≡ holders s q
holders-keep s s' [] f = refl
holders-keep s s' (t ∷ q) f = rw (f (omega arith))

holders-wait : (s : Lock) (q : List ℕ) → (0 < length q → Waits s (get_or q 0 0)) → holders s q ≡ []
holders-wait s [] f = refl
holders-wait s (t ∷ q) f = rw (f (omega arith))

-- ---- one row

abbrev taking : Lock → ℕ → Lock
taking s t =
    record { ticket = next s.ticket; grant = s.grant; threads = set s.threads t (thread Waiting s.ticket) }

abbrev moving : Lock → ℕ → Standing → Lock
moving s t p =
    record { ticket = s.ticket; grant = s.grant; threads = set s.threads t (thread p (thread_at s t).own) }

abbrev leaving : Lock → ℕ → Lock
leaving s t = record { ticket = s.ticket; grant = next s.grant; threads = set s.threads t idle }

module _ {s : Lock} {h : History} {q : List ℕ} (l : Queue s h q) (t : ℕ) (lt : t < 64) where
  inside : t < length s.threads
  inside = omega (arith, l.long)

  -- a ticket is taken
  module _ (e : (thread_at s t).standing ≡ Idle) where
    longer : length (q ++ t ∷ []) ≡ suc (length q)
    longer = simp length-append (omega arith)

    -- nobody in the queue is idle
    other : (i : ℕ) → i < length q → get_or q i 0 ≢ t
    other i n p = (l.stands i n).out (rw p e)

    old-at : (i : ℕ) → i < length q → get_or (q ++ t ∷ []) i 0 ≡ get_or q i 0
    old-at i n = List·getD-append q (t ∷ []) 0 i n

    new-at : get_or (q ++ t ∷ []) (length q) 0 ≡ t
    new-at = get_or-append_seam q t [] 0

    stands-taken : (i : ℕ)
        → i < length (q ++ t ∷ []) → Stands s.grant i (thread_at (taking s t) (get_or (q ++ t ∷ []) i 0))
    stands-taken i n = elim (ℕ_discrete i (length q)) [
      | yes k ↦
          rw (k, new-at, get_or-set_same s.threads t (thread Waiting s.ticket) idle inside)
          (record { out = waiting-idle; own = l.ahead; later = λ x. refl })
      | no k ↦
          let m : i < length q = omega (arith, longer) in
          rw (old-at i m)
          (at_set (Stands s.grant i) idle s.threads t
          (get_or q i 0) (thread Waiting s.ticket) inside (λ p. absurd (other i m p)) (λ p. l.stands i m))
    ]

    found-taken : (u : ℕ) → HasTicket (taking s t) u → Among (q ++ t ∷ []) u
    found-taken u =
        at_set (λ (x : Thread). (x.standing ≡ Idle → ⊥) → Among (q ++ t ∷ []) u) idle
        s.threads t u (thread Waiting s.ticket) inside
        (λ p o. record { at = length q; within = omega (arith, longer); here = new-at ∙ sym p })
        (λ p o. let i = l.found u o in
        record { at = i.at; within = omega (arith, longer, i.within); here = old-at i.at i.within ∙ i.here })

    holders-taken : (q₁ : List ℕ) → q₁ ≡ q → holders (taking s t) (q₁ ++ t ∷ []) ≡ holders s q₁
    holders-taken [] p = rw (get_or-set_same s.threads t (thread Waiting s.ticket) idle inside)
    holders-taken (u ∷ q₁) p =
        let n : 0 < length q = subst (λ (x : List ℕ). 0 < length x) p (omega arith) in
        let d : get_or q 0 0 ≡ u = subst (λ (x : List ℕ). get_or x 0 0 ≡ u) p refl in
        rw (get_or-set_other s.threads t u (thread Waiting s.ticket) idle (λ k. other 0 n (d ∙ k)))

    queue-taken : Queue (taking s t) (joined h (noted t Idle Waiting)) (q ++ t ∷ [])
    queue-taken =
        record {
          long = length-set s.threads t (thread Waiting s.ticket) ∙ l.long;
          small = l.small;
          ahead = rw (l.ahead, longer) (wrap-further s.grant (length q));
          counted =
              omega (arith, rw e at (count_set s.threads t (thread Waiting s.ticket) inside), l.counted, longer);
          stands = stands-taken;
          found = found-taken;
          took = simp (l.took, append-nil, append_assoc);
          held = rw (holders-taken q refl) (simp (l.held, append-nil));
        }

  -- a waiter goes on to p: to wait, or to hold where it is the first
  module _ (e : Waits s t)
      (i : Among q t) (p : Standing) (ne : p ≡ Idle → ⊥) (first-only : 0 < i.at → p ≡ Waiting) where
    queue-moved : (k : History)
        → k.took ≡ k.left ++ q → k.held ≡ k.left ++ holders (moving s t p) q → Queue (moving s t p) k q
    queue-moved k took held =
        record {
          long = length-set s.threads t (thread p (thread_at s t).own) ∙ l.long;
          small = l.small;
          ahead = l.ahead;
          counted =
              omega (
                arith,
                count_set s.threads t (thread p (thread_at s t).own) inside,
                counts p ne,
                counts (thread_at s t).standing (has-waiting s t e),
                l.counted,
              );
          stands = λ j n.
              at_set (Stands s.grant j) idle s.threads t (get_or q j 0) (thread p (thread_at s t).own) inside
              (λ d. let k : i.at ≡ j = queue-once l t i (record { at = j; within = n; here = d }) in
              record { out = ne; own = rw (← k) (own_at l t i); later = λ x. first-only (omega arith) })
              (λ d. l.stands j n);
          found = λ u.
              at_set (λ (x : Thread). (x.standing ≡ Idle → ⊥) → Among q u) idle
              s.threads t u (thread p (thread_at s t).own) inside (λ d o. rw d i) (λ d o. l.found u o);
          took = took;
          held = held;
        }

  -- its ticket compared with the grant
  module _ (e : Waits s t) where
    i : Among q t
    i = l.found t (has-waiting s t e)

    queue-held : (thread_at s t).own ≡ s.grant → Queue (moving s t Holding) (joined h (noted t Waiting Holding)) q
    queue-held g =
        let z : i.at ≡ 0 =
        wrap-first s.grant i.at l.small (omega (arith, i.within, queue-few l)) (sym (own_at l t i) ∙ g) in
        let n : 0 < length q = omega (arith, i.within) in
        let d : get_or q 0 0 ≡ t = rw z at i.here in
        let before : holders s q ≡ [] = holders-is s q t n d ∙ rw e in
        let after : holders (moving s t Holding) q ≡ t ∷ []
        = holders-is (moving s t Holding) q t n d
        ∙ rw (get_or-set_same s.threads t (thread Holding (thread_at s t).own) idle inside) in
        queue-moved e i Holding holding-idle
        (λ x. absurd (omega (arith, x, z))) _ (simp (l.took, append-nil))
        (simp (l.held, before, after, append-nil))

    queue-waits : Queue (moving s t Waiting) (joined h (noted t Waiting Waiting)) q
    queue-waits =
        let same : holders (moving s t Waiting) q ≡ holders s q
        = holders-keep s
        (moving s t Waiting) q (λ n. at_set (λ (x : Thread). x.standing ≡ (thread_at s (get_or q 0 0)).standing) idle
        s.threads t (get_or q 0 0) (thread Waiting (thread_at s t).own) inside (λ d. rw d (sym e)) (λ d. refl)) in
        queue-moved e i Waiting waiting-idle
        (λ x. refl) _ (simp (l.took, append-nil)) (simp (l.held, same, append-nil))

-- the holder leaves
module _ {s : Lock} {h : History} (t : ℕ) (lt : t < 64) (e : Holds s t) where
  queue-left : (q : List ℕ) (l : Queue s h (t ∷ q)) → Queue (leaving s t) (joined h (noted t Holding Idle)) q
  queue-left q l =
      record {
        long = length-set s.threads t idle ∙ l.long;
        small = next_small s.grant;
        ahead = l.ahead ∙ wrap-nearer s.grant (length q);
        counted = omega (arith, rw e at (count_set s.threads t idle (inside l t lt)), l.counted);
        stands = stand;
        found = find;
        took = simp (l.took, append-nil, append_assoc);
        held = rw (holders-wait (leaving s t) q (λ n. stand-waits 0 n)) (simp (l.held, e, append-nil));
      }
    where
      front : Among (t ∷ q) t
      front = record { at = 0; within = omega arith; here = refl }

      other : (i : ℕ) → i < length q → get_or q i 0 ≢ t
      other i n d = let k : 0 ≡ suc i =
          queue-once l t front (record { at = suc i; within = omega arith; here = d }) in omega arith

      waits : (i : ℕ) → i < length q → Waits s (get_or q i 0)
      waits i n = (l.stands (suc i) (omega arith)).later (omega arith)

      stand-waits : (i : ℕ) → i < length q → Waits (leaving s t) (get_or q i 0)
      stand-waits i n = rw (get_or-set_other s.threads t (get_or q i 0) idle idle (other i n)) (waits i n)

      stand : (i : ℕ) → i < length q → Stands (next s.grant) i (thread_at (leaving s t) (get_or q i 0))
      stand i n =
          rw (get_or-set_other s.threads t (get_or q i 0) idle idle (other i n))
          (record {
            out = (l.stands (suc i) (omega arith)).out;
            own = (l.stands (suc i) (omega arith)).own ∙ wrap-nearer s.grant i;
            later = λ x. waits i n;
          })

      find : (u : ℕ) → HasTicket (leaving s t) u → Among q u
      find u = at_set (λ (x : Thread). (x.standing ≡ Idle → ⊥) → Among q u) idle
          s.threads t u idle (inside l t lt) (λ d o. absurd (o refl)) (λ d o. behind-first d (l.found u o))

  queue-leaves : (q : List ℕ) → Queue s h q → (q' : List ℕ) × Queue (leaving s t) (joined h (noted t Holding Idle)) q'
  queue-leaves [] l = absurd (not-suc-le-zero (l.found t (has-holding s t e)).within)
  queue-leaves (u ∷ q) l =
      let i = l.found t (has-holding s t e) in
      let z : i.at ≡ 0 = queue-holder l t e i in
      let d : u ≡ t = rw z at i.here in
      (q, queue-left q (rw d at l))

-- ---- any row

abbrev pub Keeps : Lock → History → ℕ → Outcome → Type 0
Keeps s h t (taken s' e) =
    (q : List ℕ) × Queue s' (joined h (noted t (thread_at s t).standing (thread_at s' t).standing)) q
Keeps s h t (refused n) = Unit {0}

module _ {s : Lock} {h : History} {q : List ℕ} (l : Queue s h q) (t : ℕ) (lt : t < 64) where
  room : t < length s.threads
  room = inside l t lt

  abbrev compared : Thread
  compared = thread (if eqb (thread_at s t).own s.grant then Holding else Waiting) (thread_at s t).own

  obey-keeps : (o : ℕ) → Keeps s h t (outcome s t (obey o s.ticket s.grant (thread_at s t)))
  obey-keeps =
      obey-both (λ (x : Made). Keeps s h t (outcome s t x)) s.ticket s.grant (thread_at s t)
      (λ e. (
        q ++ t ∷ [],
        rw (e, get_or-set_same s.threads t (thread Waiting s.ticket) idle room) (queue-taken l t lt e),
      ))
      (λ e. (
        q,
        rw (e, get_or-set_same s.threads t compared idle room)
            (if-both (λ (p : Standing). Queue (moving s t p) (joined h (noted t Waiting p)) q)
            (eqb (thread_at s t).own s.grant)
            (λ b. queue-held l t lt e (eqb-true _ _ b)) (λ b. queue-waits l t lt e)),
      ))
      (λ e. let (q', k) = queue-leaves t lt e q l in (q', rw (e, get_or-set_same s.threads t idle idle room) k))
      tt tt

pub row_keeps : (T : ℕ) {s : Lock} {h : History} {q : List ℕ}
    → T ≤ 64 → Queue s h q → (r : Row) → Keeps s h r.thread (step T s r)
unfolding step
row_keeps T {s} {h} few l r =
    if-both (Keeps s h r.thread)
    (ltb r.thread T) (λ b. obey-keeps l r.thread (omega (arith, ltb-true r.thread T b)) r.order) (λ b. tt)
