-- The head byte by byte, then the two arrays, one behind the other.
use Rattle.lock.proofs.Library.{ℕ, ◌+◌, ◌-◌, ◌/◌, ◌%◌, ◌≡◌, ap, ◌∙◌, List, [], ◌∷◌, ◌++◌, arith, length, take}
use Rattle.lock.proofs.Library.{drop, length-set, length-append, length-drop, length-take-le}
use Rattle.lock.proofs.Library.{rules}
use Rattle.text.specs.Writing.{Room}
use Rattle.text.proofs.Pages.{fits-next, adds-next, let-go}
use Rattle.dispatcher.specs.Store.{Storable}
use Rattle.dispatcher.proofs.Answering.{headed, stored_is}
use Rattle.laws.proofs.Lock.{Sizes}
use Rattle.dispatcher.proofs.store_schedule.Goals as goal

-- ---- the two arrays as the code lends them, and the room for them

-- the end of the second one
ends : (n : ℕ) → 4096 + n - 4096 ≡ n
ends n = omega arith

module _ {z : Sizes} {n : ℕ} {g b : List ℕ} (p : Storable z n g b) where
  abbrev H : List ℕ
  H = headed z.nodes z.fan z.threads (n % 256) (n / 256) b

  one-long : length (take n g) ≡ n
  one-long = length-take-le n g (omega (arith, p.both, p.few))

  two-long : length (take (4096 + n - 4096) (drop 4096 g)) ≡ n
  two-long = rw (ends n) (length-take-le n (drop 4096 g) (simp length-drop (omega (arith, p.both, p.few))))

  room-one : Room H 5 (take n g)
  room-one = record { fits = simp length-set (omega (arith, one-long, p.room, p.few)) }

  room-both : Room H 5 (take n g ++ take (4096 + n - 4096) (drop 4096 g))
  room-both = record { fits = simp (length-set, length-append) (omega (arith, one-long, two-long, p.room, p.few)) }

pub put_text-requires-2 : goal.put_text-requires-2
put_text-requires-2 c = fits-next c.put_text.ensures (record { fits = (room-both c.requires).fits })

pub returns : goal.returns
returns c =
    let a = c.args in
    let p = c.requires in
    let g = a.given.now in
    stored_is a.z.nodes a.z.fan a.z.threads (a.n % 256) (a.n / 256) a.n (take a.n g)
    (take (4096 + a.n - 4096) (drop 4096 g)) a.buffer.now _ (one-long p) (two-long p) (omega (arith, p.room))
    (let-go (adds-next c.put_text.ensures c.put_text-2.ensures) (search rules))
    ∙ ap (λ (k : ℕ). (a.z.nodes ∷ a.z.fan ∷ a.z.threads ∷ a.n % 256 ∷ a.n / 256 ∷ []) ++ take a.n g ++ take k
    (drop 4096 g) ++ drop (5 + a.n + a.n) a.buffer.now) (ends a.n)
