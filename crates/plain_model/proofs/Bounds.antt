-- What bounds the plain engine's state, for the code that makes its calls: some state of the tree rests as it does, and
-- has the invariant of runs.
use Rattle.lock.proofs.Library.{ap, ℕ, ◌≤◌, ◌<◌, ◌≡◌, refl, sym, subst, ◌∙◌, List, [], ◌∷◌, arith, length}
use Rattle.lock.proofs.Choice.{clash}
use Rattle.laws.proofs.Lock.{Phase, Idle, Standing, standing, Sizes, State, fresh, thread_at, Row, InRange}
use Rattle.pair.specs.Pair.{fresh_pair, run}
use Rattle.laws.{proofs.Seen.by-seen, proofs.Role.place, proofs.Role.role, proofs.Bounds.queue-room}
use Rattle.plain_model.specs.{Plain.Plain, Plain.plain_fresh, Plain.plain_at, Plain.plain_run, Equal.ticketless}
use Rattle.plain_model.proofs.Sight.{look_of, looks, looks-length, readers_in}
use Rattle.plain_model.proofs.Rest.{Rest, queue-same, look-same}
use Rattle.plain_model.proofs.Equal.{rest, every, whole, fresh-rest}

-- calls that are taken lead to a state that some state of the tree rests as
pub rests-as : (z : Sizes) → InRange z → (cs : List Row)
    → (plain_run z plain_fresh cs).answer ≡ 0 → (s : State) × Rest z s (plain_run z plain_fresh cs).state
rests-as z h cs a =
    let (rs, e, w) = every z cs fresh plain_fresh (fresh-rest z h) a in (
      (run z fresh_pair rs).state.one,
      subst (λ (x : List Row). Rest z (run z fresh_pair rs).state.one
          (plain_run z plain_fresh x).state) e (whole z h rs fresh plain_fresh (rest (fresh-rest z h)) w).rest,
    )

readers-le : (xs : List Standing) → readers_in xs ≤ length xs
readers-le [] = omega arith
readers-le (Standing.Idle ∷ xs) = omega (arith, readers-le xs)
readers-le (Standing.Reading k ∷ xs) = omega (arith, readers-le xs)
readers-le (Standing.Writing ∷ xs) = omega (arith, readers-le xs)
readers-le (Standing.Calling ∷ xs) = omega (arith, readers-le xs)
readers-le (Standing.Asleep ∷ xs) = omega (arith, readers-le xs)

module _ (z : Sizes) (s : State) (p : Plain) (h : Rest z s p) where
  -- there are no more readers than threads
  pub count-le : p.root.count ≤ length p.threads
  count-le = omega (arith, h.sound.counted, readers-le (looks p.threads), looks-length p.threads)

  -- an idle thread is in no queue, so a writer finds room there
  pub room-left : (t : ℕ) → t < 64 → (plain_at p t).phase ≡ Idle → length p.queue.writers < 64
  unfolding look_of standing place
  room-left t l e =
      rw (sym (queue-same z s p h))
      (queue-room z s h.kept.inv t l
      (by-seen (λ (x : Phase). look_of x ≡ Standing.Idle → (role z x).waits ≡ 0) (λ q. refl) (λ q. clash cc)
      (λ q. clash cc) (λ k q. clash cc) (λ x i c q. clash (cc (ap ticketless i)))
      (thread_at s t).phase (sym (look-same z s p h t) ∙ rw e)))
