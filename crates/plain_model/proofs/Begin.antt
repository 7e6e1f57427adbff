-- The first row of a call, at rest: the tree takes it where the plain engine takes the call, and the call's fate is
-- what the plain engine gives; or both refuse it, with the same number.
use Rattle.lock.proofs.Library.{ne_eqb, le-ltb, lt-ltb, ℕ, ◌-◌, ◌^◌, ◌<◌, ◌≡◌, refl, sym, subst, ap, ◌∙◌, inl, inr}
use Rattle.lock.proofs.Library.{Bool, true, false, List, [], ◌∷◌, Option, none, some, arith, eqb, ltb, length, get_or}
use Rattle.lock.proofs.Library.{set, get_or-set_same, eqb-true, ltb-true, ltb-false, get_or-set_other}
use Rattle.lock.proofs.Choice.{if-both, not-both}
use Rattle.lock.proofs.Memory.{nothing, memory, stale, stale-nothing}
use Rattle.lock.proofs.Row.{Moved, Fine, steps as fine-steps}
use Rattle.std.specs.Prelude.{if◌then◌else◌}
use Rattle.laws.proofs.Lock.{InRange, closed, total, Group, readers, is_writer, Waiters, next_group, left}
use Rattle.laws.proofs.Lock.{writer_queued, longest, Phase, Standing, Thread, Leaving, Idle, Writing, Reading, Look}
use Rattle.laws.proofs.Lock.{Depart, Leave, WriteLook, UnlockTake, standing, begin, refuse, Order, go_on, write_lock}
use Rattle.laws.proofs.Lock.{unlock, upgrade, downgrade, read_lock, book, decode, beginning, unlocking, obey, Sizes}
use Rattle.laws.proofs.Lock.{State, fresh_thread, word_at, thread_at, goes, Outcome, taken, refused, perform, Row, row_op}
use Rattle.laws.proofs.Lock.{step, call_begun}
use Rattle.laws.proofs.Seen.{Seen, idle, writing, asleep, reading, calling, seen}
use Rattle.laws.{proofs.Sum.bit_at, proofs.Role.place, proofs.Role.role, proofs.Locks.locks-of}
use Rattle.progress.{proofs.Rows.phase_of, proofs.Kept.Kept, proofs.Kept.KeptAfter, proofs.Kept.kept_step}
use Rattle.plain_model.specs.Root.{Root, is_shut, is_free, is_spent, less}
use Rattle.plain_model.specs.Plain.{Plain, plain_at, passes, read_locks, write_locks, handed, writer_leaves}
use Rattle.plain_model.specs.Plain.{reader_leaves, PlainOutcome, if_idle, if_holding, ordered, plain_step}
use Rattle.plain_model.specs.Equal.{PlainOrder, ticketless}
use Rattle.plain_model.proofs.Sight.{look_of, looks, looks-length, looks-at, looks-set, looks-woken, awake-set}
use Rattle.plain_model.proofs.Fate.{Sight, hole, fate_of, Goes, passed, handed_shut, none_read}
use Rattle.plain_model.proofs.Rest.{plain_sight, Counts, Sound, Rest, bare-passes, shut-same, queue-same}
use Rattle.plain_model.proofs.Rest.{looks-same, zero_same, look-same, read-sound, write-sound, less_one}
use Rattle.plain_model.proofs.Rest.{leave-sound, Taken, hand-counts}
use Rattle.plain_model.proofs.{Sight.readers_in, Alone.settled, Alone.Mid}

-- what both give for a first row of thread t
abbrev pub Begun : Sizes → ℕ → Outcome → PlainOutcome → Type 0
Begun z t (taken s e) (taken p tt) = Mid z s t (plain_sight p) × Sound p × (standing (phase_of s t) ≡ Standing.Calling)
Begun z t (taken s e) (refused n) = ⊥
Begun z t (refused n) (taken p tt) = ⊥
Begun z t (refused n) (refused k) = n ≡ k

-- what is to be shown of the first row r of thread t, by what the invariants say of it
abbrev Claim : Sizes → State → Row → ℕ → Outcome → PlainOutcome → Type 0
Claim z s r t o c = KeptAfter z o → Fine z.fan s r o → Begun z t o c

-- two choices by one test
both_if : {A B : Type 0} (g : A → B) (b : Bool) {x y : B} {u v : A} → (b ≡ true → x ≡ g u) → (b ≡ false → y ≡ g v)
    → (if b then x else y) ≡ g (if b then u else v)
both_if g true h k = h refl
both_if g false h k = k refl

module _ (z : Sizes) (s : State) (p : Plain) (rest : Rest z s p) (t : ℕ) (here : t < z.threads) where
  below : t < 64
  below = omega (arith, here, rest.kept.inv.sizes.threads)

  in-threads : t < length s.threads
  in-threads = omega (arith, below, rest.kept.inv.threads)

  in-looks : t < length (looks p.threads)
  in-looks = omega (arith, in-threads, looks-length s.threads, ap length (looks-same z s p rest))

  -- ---- the fate of each call is what the plain engine gives

  passes-looks : (o : Option Group) → passed t o (set (looks p.threads) t) ≡ looks (passes t o p.threads)
  unfolding look_of standing
  passes-looks none = simp looks-set
  passes-looks (some g) = simp (looks-set, looks-woken, awake-set)

  hole-same : hole s t ≡ set (looks p.threads) t
  hole-same = ap (λ (l : List Standing). set l t) (looks-same z s p rest)

  abbrev Met : Phase → Plain → Type 0
  Met q p' = Goes t (plain_sight p') s q

  read-fate : (n : ℕ) → Met (Look n) (read_locks p t)
  unfolding fate_of look_of standing
  read-fate n =
      rw (shut-same z s p rest, queue-same z s p rest, looks-same z s p rest)
      (both_if (λ (x : Plain). some (plain_sight x)) (is_shut p.root) (λ e. simp looks-set) (λ e. simp looks-set))

  write-fate : Met WriteLook (write_locks p t)
  unfolding fate_of look_of standing
  write-fate =
      rw (sym (zero_same z s p rest), shut-same z s p rest, queue-same z s p rest, looks-same z s p rest)
      (both_if (λ (x : Plain). some (plain_sight x)) (is_free p.root) (λ e. simp looks-set) (λ e. simp looks-set))

  handed-same : (q : Waiters) (o : Option Group) → handed_shut (is_shut p.root) q o ≡ is_shut (handed p.root q o)
  handed-same q none = refl
  handed-same q (some g) =
      both_if is_shut (is_writer g) (λ e. refl)
      (λ e. if-both (λ (r : Root). writer_queued q ≡ is_shut r) (writer_queued q) (λ k. k) (λ k. k))

  unlock-fate : Met UnlockTake (writer_leaves p t)
  unfolding fate_of
  unlock-fate =
      rw (shut-same z s p rest, queue-same z s p rest, hole-same)
      (rw (handed-same (left false p.queue) (next_group false p.queue), passes-looks (next_group false p.queue)))

  leave-fate : look_of (phase_of s t) ≡ Standing.Reading 0 → Met Leave (reader_leaves p t)
  unfolding fate_of look_of standing
  leave-fate e =
      rw (shut-same z s p rest, queue-same z s p rest, hole-same, sym one_less)
      (both_if (λ (x : Plain). some (plain_sight x)) (is_spent (less p.root))
      (λ k. rw (passes-looks (next_group true p.queue))) (λ k. simp looks-set))
    where
      one_less : p.root.count - 1 ≡ readers_in (set (looks p.threads) t Standing.Idle)
      one_less =
          less_one p t rest.sound in-looks (looks-at p.threads t ∙ look-same z s p rest t ∙ e)

  -- ---- the first row

  -- t begins a call in the phase q, which remembers nothing
  begun : (q : Phase) (f : Sight) {r : Row} → Kept z (goes s t q) → Moved z.fan s (goes s t q) r call_begun
      → memory q ≡ nothing → Goes t f s q → Mid z (goes s t q) t f
  begun q f kept fine m e =
      record {
        kept = kept;
        fits = fine.fit;
        here = here;
        rest = λ u n. rw (get_or-set_other s.threads t u _ fresh_thread n) (rest.rested u);
        unspoilt = λ w. ap (λ (x : Thread). stale z.fan (memory x.phase) w (word_at s w))
            (get_or-set_same s.threads t _ fresh_thread in-threads)
            ∙ rw m (stale-nothing z.fan w (word_at s w));
        unfailed = λ u. omega (arith, fine.fails u, rest.unfailed u);
        met = settled s q (thread_at s t).failures in-threads e;
      }

  in-call : (q : Phase) → standing q ≡ Standing.Calling → standing (phase_of (goes s t q) t) ≡ Standing.Calling
  in-call q e = ap (λ (x : Thread). standing x.phase) (get_or-set_same s.threads t
      (record { phase = q; failures = (thread_at s t).failures }) fresh_thread in-threads) ∙ e

  plain-look : (q : Phase) → phase_of s t ≡ q → get_or (looks p.threads) t Standing.Idle ≡ look_of q
  plain-look q e = looks-at p.threads t ∙ look-same z s p rest t ∙ ap look_of e

  -- t writes: none reads, and t is not among the readers that it may take
  hand-sound : phase_of s t ≡ Writing → Sound (writer_leaves p t)
  unfolding look_of standing place
  hand-sound i =
      record { counted = hands; bare = bare-passes t (next_group false p.queue) p.threads rest.sound.bare }
    where
      root-shut : word_at s 0 ≡ closed 0 0
      root-shut = ((locks-of z s rest.kept.inv).shut rest.rested).1 (record { thread = t; writes = i })

      none-counted : p.root.count ≡ 0
      none-counted = rest.sound.counted
          ∙ ap readers_in (sym (looks-same z s p rest)) ∙ none_read z s rest.kept.inv (ap total root-shut)

      bit : bit_at p.queue.readers t ≡ 0
      bit =
          let a : bit_at s.queue.readers t ≡ 0 =
          omega (arith, rest.kept.inv.queued t, ap (λ (x : Phase). (role z x).waits) i) in
          subst (λ (q : Waiters). bit_at q.readers t ≡ 0) (queue-same z s p rest) a

      within : p.queue.readers < 2 ^ length (looks p.threads)
      within =
          let n : length (looks p.threads) ≡ 64 =
          omega (arith, rest.kept.inv.threads, looks-length s.threads, ap length (looks-same z s p rest)) in
          rw n (subst (λ (q : Waiters). q.readers < 2 ^ 64) (queue-same z s p rest) rest.kept.inv.named.set)

      takes : (b : Bool) (ws : List ℕ)
          → Taken p t rest.sound in-looks (if b then some (readers p.queue.readers) else longest ws)
      takes true ws = λ e. (bit, within)
      takes false [] = tt
      takes false (w ∷ ws) = λ e. not-both true refl e

      hands : Counts (writer_leaves p t)
      hands =
          hand-counts p t rest.sound in-looks
          (next_group false p.queue) (left false p.queue) none-counted (plain-look Writing i)
          (takes (ltb 0 p.queue.readers) p.queue.writers)

  module _ (r : Row) where
    lock-case : (q : Phase) (p' : Plain)
        → memory q ≡ nothing → standing q ≡ Standing.Calling → Met q p'
        → (get_or (looks p.threads) t Standing.Idle ≡ Standing.Idle → Sound p')
        → (x : Phase) (y : Standing)
        → Seen x y → phase_of s t ≡ x → Claim z s r t (perform z s t (beginning q y)) (if_idle p' (ticketless y))
    unfolding perform look_of standing
    lock-case q p' m c e k x y idle i inv fine =
        (begun q (plain_sight p') inv fine m e, k (plain-look Idle i), in-call q c)
    lock-case q p' m c e k x y writing i inv fine = refl
    lock-case q p' m c e k x y asleep i inv fine = refl
    lock-case q p' m c e k x y (reading n) i inv fine = refl
    lock-case q p' m c e k x y (calling w) i inv fine = refl

    unlock-case : (x : Phase) (y : Standing)
        → Seen x y → phase_of s t ≡ x → Claim z s r t (perform z s t (unlocking y)) (if_holding p t (ticketless y))
    unfolding perform look_of standing memory fate_of
    unlock-case x y idle i inv fine = refl
    unlock-case x y writing i inv fine =
        let b = begun UnlockTake (plain_sight (writer_leaves p t)) inv fine refl unlock-fate in
        (b, hand-sound i, in-call UnlockTake refl)
    unlock-case x y asleep i inv fine = refl
    unlock-case x y (reading n) i inv fine =
        if-both (λ (q : Phase). Claim z s r t (perform z s t (begin q)) (taken (reader_leaves p t) tt)) (eqb n 0)
        (λ k inv fine. (begun Leave after inv fine refl met, left-sound, in-call Leave refl))
        (λ k inv fine.
        (begun (Depart n Leaving) after inv fine refl met, left-sound, in-call (Depart n Leaving) refl)) inv fine
      where
        after : Sight
        after = plain_sight (reader_leaves p t)

        met : Met Leave (reader_leaves p t)
        met = leave-fate (ap look_of i)

        left-sound : Sound (reader_leaves p t)
        left-sound = leave-sound p t rest.sound in-looks (plain-look (Reading n) i)
    unlock-case x y (calling w) i inv fine = refl

-- ---- one row

-- a call that the plain engine takes
abbrev pub IsCall : Option Order → Type 0
IsCall none = ⊥
IsCall (some go_on) = ⊥
IsCall (some write_lock) = Unit {0}
IsCall (some unlock) = Unit {0}
IsCall (some upgrade) = ⊥
IsCall (some downgrade) = ⊥
IsCall (some (read_lock n)) = Unit {0}
IsCall (some (book e)) = ⊥

-- the orders that it takes are those of its calls, and these alone
module _ (z : Sizes) (o : ℕ) where
  pub decode_call : InRange z → PlainOrder z o → IsCall (decode z o)
  decode_call h k = elim k [
    | inl e ↦ rw e tt
    | inr (inl e) ↦ rw e tt
    | inr (inr n) ↦
        let least = n.0 in
        let most = n.1 in
        rw (
          ne_eqb o 0 (λ x. omega arith),
          ne_eqb o 1 (λ x. omega arith),
          ne_eqb o 2 (λ x. omega arith),
          ne_eqb o 3 (λ x. omega arith),
          ne_eqb o 4 (λ x. omega arith),
          le-ltb o 64 least,
          lt-ltb o 96 (omega (arith, h.nodes)),
          lt-ltb (o - 64) z.nodes (omega arith),
        ) tt
  ]

  pub call-order : IsCall (decode z o) → PlainOrder z o
  call-order =
      if-both Named (eqb o 0) (λ e g. absurd g)
      (λ e. if-both Named (eqb o 1) (λ e g. inl (eqb-true o 1 e))
      (λ e. if-both Named (eqb o 2) (λ e g. inr (inl (eqb-true o 2 e)))
      (λ e. if-both Named (eqb o 3) (λ e g. absurd g)
      (λ e. if-both Named (eqb o 4) (λ e g. absurd g)
      (λ e. if-both Named (ltb o 64) (λ e g. absurd g)
      (λ e. let least = ltb-false o 64 e in
      if-both Named (ltb o 96) (λ e. if-both Named (ltb (o - 64) z.nodes)
      (λ e g. let n = ltb-true (o - 64) z.nodes e in inr (inr (least, omega arith))) (λ e g. absurd g))
      (λ e. if-both Named (ltb o 128) (λ e. if-both Named (ltb (o - 96) z.items) (λ e g. absurd g) (λ e g. absurd g))
      (λ e g. absurd g))))))))
    where
      Named : Option Order → Type 0
      Named d = IsCall d → PlainOrder z o

-- and every other order it refuses with 6
pub not-a-call : (p : Plain) (t : ℕ) (x : Standing) (d : Option Order) → (IsCall d → ⊥) → ordered p t x d ≡ refused 6
not-a-call p t x none n = refl
not-a-call p t x (some go_on) n = refl
not-a-call p t x (some write_lock) n = absurd (n tt)
not-a-call p t x (some unlock) n = absurd (n tt)
not-a-call p t x (some upgrade) n = refl
not-a-call p t x (some downgrade) n = refl
not-a-call p t x (some (read_lock k)) n = absurd (n tt)
not-a-call p t x (some (book e)) n = refl

module _ (z : Sizes) (s : State) (p : Plain) (rest : Rest z s p) (r : Row) (k : PlainOrder z r.order) where
  abbrev t : ℕ
  t = r.thread

  orders : t < z.threads → (d : Option Order) → IsCall d
      → Claim z s r t (perform z s t (obey z.fan (phase_of s t) d))
      (ordered p t (ticketless (standing (phase_of s t))) d)
  unfolding perform obey memory standing
  orders h none g = absurd g
  orders h (some go_on) g = absurd g
  orders h (some upgrade) g = absurd g
  orders h (some downgrade) g = absurd g
  orders h (some (book e)) g = absurd g
  orders h (some write_lock) g =
      lock-case z s p rest t h r WriteLook (write_locks p t) refl refl (write-fate z s p rest t h)
      (write-sound p t rest.sound (in-looks z s p rest t h))
      (phase_of s t) (standing (phase_of s t)) (seen (phase_of s t)) refl
  orders h (some unlock) g =
      unlock-case z s p rest t h r (phase_of s t) (standing (phase_of s t)) (seen (phase_of s t)) refl
  orders h (some (read_lock k)) g =
      lock-case z s p rest t h r (Look k) (read_locks p t) refl refl (read-fate z s p rest t h k)
      (read-sound p t rest.sound (in-looks z s p rest t h))
      (phase_of s t) (standing (phase_of s t)) (seen (phase_of s t)) refl

  pub begins : Begun z t (step z s r) (plain_step z p r)
  unfolding step row_op perform obey plain_step look_of
  begins =
      from (ltb t z.threads) refl (kept_step z s r rest.kept)
      (fine-steps z s r (omega (arith, rest.kept.inv.threads, rest.kept.inv.sizes.threads)) rest.fits)
    where
      d : Option Order
      d = decode z r.order

      -- the plain engine's readers have no ticket
      bare : ordered p t (ticketless (standing (phase_of s t))) d ≡ ordered p t (standing (plain_at p t).phase) d
      bare = ap (λ (x : Standing). ordered p t x d) (sym (rest.sound.bare t ∙ look-same z s p rest t))

      from : (b : Bool) → ltb t z.threads ≡ b
          → KeptAfter z (perform z s t (if b then obey z.fan (phase_of s t) d else refuse 5))
          → Fine z.fan s r (perform z s t (if b then obey z.fan (phase_of s t) d else refuse 5))
          → Begun z t (perform z s t (if b then obey z.fan (phase_of s t) d else refuse 5))
          (if b then ordered p t (standing (plain_at p t).phase) d else refused 5)
      from true e i f =
          subst (Begun z t (perform z s t (obey z.fan (phase_of s t) d))) bare
          (orders (ltb-true t z.threads e) d (decode_call z r.order rest.kept.inv.sizes k) i f)
      from false e i f = refl
