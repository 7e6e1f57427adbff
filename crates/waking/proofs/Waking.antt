-- The list of a set: the lowest thread and then the list of the others, as long as the set has ones. A look at each
-- of its threads is waking all of the set. And the loop that goes so.
use Rattle.lock.proofs.Library.{ℕ, zero, suc, ◌+◌, ◌-◌, ◌*◌, ◌/◌, ◌%◌, ◌^◌, ◌≤◌, ◌<◌, ◌≡◌, refl, sym, ap, ◌∙◌, subst}
use Rattle.lock.proofs.Library.{◌≢◌, Bool, true, false, List, [], ◌∷◌, ◌++◌, pow-suc, not-suc-le-zero, zero-add, arith}
use Rattle.lock.proofs.Library.{length, get_or, set, take, drop, length-drop, length-set, get_or-set_same, get_or-set_other}
use Rattle.lock.proofs.{Library.{take_all, take-add, drop-drop}, Lowest.{odd, even, parity, cleared}}
use Rattle.lock.specs.{declared.{Group.Group, Phase.Phase, Thread.Thread}, Queue.{is_writer, bit_at, size}}
use Rattle.std.specs.Prelude.{if◌then◌else◌}
use Rattle.lock.specs.State.{fresh_thread, with_threads, goes, holding, woken, perform}
use Rattle.lock.proofs.Lowest.{cleared-odd, cleared-even, cleared-lt, lowest-odd, lowest-even}
use lib.Count.{count_trailing_zeros, ones, ones_step, ones-le}
use Rattle.cells.specs.{Layout.{PC, ROUTE, WRITING, READING}, View.{phase_of, state_of, Shaped, Leaves}}
use Rattle.cells.proofs.{Parts.threads-long, Threads.goes-storing}
use Rattle.waking.specs.Waking.{threads_from, ascending, look, look_at_all, Woken, holds_at, WakesOf}

-- ---- the list

-- threads 1, 2 and 4; nobody; thread 63
examples : (ascending 22 ≡ 1 ∷ 2 ∷ 4 ∷ []) × (ascending 0 ≡ []) × (ascending (2 ^ 63) ≡ 63 ∷ [])
unfolding threads_from
examples = (refl, refl, refl)

none_from : (t k : ℕ) → threads_from t k 0 ≡ []
unfolding threads_from
none_from t zero = refl
none_from t (suc k) = none_from (suc t) k

lowest-from : (t k b : ℕ) → 0 < b → b < 2 ^ k
    → threads_from t k b ≡ (t + count_trailing_zeros k b) ∷ threads_from t k (cleared b)
unfolding threads_from
lowest-from t zero b some fits = absurd (omega arith)
lowest-from t (suc k) b some fits = elim (parity b) [
  | odd o ↦
      let half : (b - 1) / 2 ≡ b / 2 = omega arith in
      let low : (b - 1) % 2 ≡ 0 = omega arith in
      let here : t + 0 ≡ t = omega arith in
      rw (lowest-odd k b o, cleared-odd b o, o, half, low, here)
  | even o ↦
      let c = cleared (b / 2) in
      let half : c * 2 / 2 ≡ c = omega arith in
      let low : c * 2 % 2 ≡ 0 = omega arith in
      let next : t + suc (count_trailing_zeros k (b / 2)) ≡ suc t + count_trailing_zeros k (b / 2) = omega arith in
      rw (lowest-even k b o, cleared-even b o some, o, half, low, next)
      (lowest-from (suc t) k (b / 2) (omega arith) (omega (arith, pow-suc 2 k)))
]

ones_none : ones 0 ≡ 0
unfolding ones
ones_none = refl

length_from : (t k b : ℕ) → b < 2 ^ k → length (threads_from t k b) ≡ ones b
unfolding threads_from
length_from t zero b fits = let e : b ≡ 0 = omega arith in rw e (sym ones_none)
length_from t (suc k) b fits =
    let ih = length_from (suc t) k (b / 2) (omega (arith, pow-suc 2 k)) in
    elim (parity b) [
      | odd o ↦ rw o (omega (arith, ih, ones_step b))
      | even o ↦ rw o (omega (arith, ih, ones_step b))
    ]

module _ (b : ℕ) (fits : b < 2 ^ 64) where
  pub lowest-first : 0 < b → ascending b ≡ count_trailing_zeros 64 b ∷ ascending (cleared b)
  lowest-first some =
      let e : 0 + count_trailing_zeros 64 b ≡ count_trailing_zeros 64 b = omega arith in
      rw e at (lowest-from 0 64 b some fits)

  as-many-as-ones : length (ascending b) ≡ size b
  unfolding size
  as-many-as-ones = length_from 0 64 b fits

pub nobody : ascending 0 ≡ []
nobody = none_from 0 64

-- ---- a look at each is waking all

-- the threads after a look at each of ts
abbrev onward : Phase → List Thread → List ℕ → List Thread
onward p hs [] = hs
onward p hs (t ∷ ts) = onward p (set hs t (record { phase = p; failures = (get_or hs t fresh_thread).failures })) ts

behind-first : (p : Phase) (t k b : ℕ) (h : Thread) (hs : List Thread)
    → onward p (h ∷ hs) (threads_from (suc t) k b) ≡ h ∷ onward p hs (threads_from t k b)
unfolding threads_from
behind-first p t zero b h hs = refl
behind-first p t (suc k) b h hs = elim (parity b) [
  | odd o ↦ rw o (behind-first p (suc t) k (b / 2) h _)
  | even o ↦ rw o (behind-first p (suc t) k (b / 2) h _)
]

all-onward : (p : Phase) (b : ℕ) (hs : List Thread) → onward p hs (threads_from 0 (length hs) b) ≡ woken p b hs
unfolding threads_from
all-onward p b [] = refl
all-onward p b (h ∷ hs) =
    let after : (x : Thread) → onward p (x ∷ hs) (threads_from 1 (length hs) (b / 2)) ≡ x ∷ woken p (b / 2) hs =
    (λ x. behind-first p 0 (length hs) (b / 2) x hs ∙ ap (λ (xs : List Thread). x ∷ xs) (all-onward p (b / 2) hs)) in
    elim (parity b) [
      | odd o ↦ rw o (after _)
      | even o ↦ rw o (after _)
    ]

-- the array after a look at each of ts stands for these threads
abbrev Awake : ℕ → Phase → List ℕ → List ℕ → Type 0
Awake pc p l ts = Leaves (look_at_all pc l ts) (with_threads (state_of l) (onward p (state_of l).threads ts))

module _ (pc : ℕ) {p : Phase} (holds : (c b v : ℕ) → phase_of pc c 0 b v ≡ p) where
  looked : (t : ℕ) (l : List ℕ) → Shaped l → t < 64 → Leaves (look pc l t) (goes (state_of l) t p)
  looked t l s h = rw (holds _ _ _) at (goes-storing ((2, pc) ∷ (4, 0) ∷ []) refl s t h refl)

  looks-leave : (t k b : ℕ) (l : List ℕ) → Shaped l → t + k ≤ 64 → Awake pc p l (threads_from t k b)
  unfolding threads_from
  looks-leave t zero b l s h = record { state = refl; shaped = s }
  looks-leave t (suc k) b l s h = elim (parity b) [
    | odd o ↦
        let a = looked t l s (omega arith) in
        rw o (rw a.state at (looks-leave (suc t) k (b / 2) (look pc l t) a.shaped (omega arith)))
    | even o ↦ rw o (looks-leave (suc t) k (b / 2) l s (omega arith))
  ]

  -- what a wake leaves
  pub woken-leaves : {l l' : List ℕ} {b looks : ℕ} → Shaped l → Woken l b pc l' looks
      → Leaves l' (with_threads (state_of l) (woken p b (state_of l).threads))
  woken-leaves {l} {l'} {b} s w =
      let all = rw (threads-long l) at (all-onward p b (state_of l).threads) in
      rw w.cells (rw all at (looks-leave 0 64 b l s (omega arith)))

-- ---- the claim

-- a thread of the set is one of the k that are gone through
bit_below : (k b j : ℕ) → b < 2 ^ k → bit_at b j ≡ 1 → j < k
bit_below zero b zero fits e = absurd (omega arith)
bit_below zero b (suc j) fits e = absurd (not-suc-le-zero (bit_below zero (b / 2) j (omega arith) e))
bit_below (suc k) b zero fits e = omega arith
bit_below (suc k) b (suc j) fits e = omega (arith, bit_below k (b / 2) j (omega (arith, pow-suc 2 k)) e)

-- number i is neither of those that a look at thread t stores
abbrev Spared : ℕ → ℕ → Type 0
Spared i t = (i ≢ PC + t) × (i ≢ ROUTE + t)

module _ (pc : ℕ) where
  look-spares : (l : List ℕ) (t i : ℕ) → Spared i t → get_or (look pc l t) i 0 ≡ get_or l i 0
  look-spares l t i h =
      get_or-set_other (set l (PC + t) pc) (ROUTE + t) i 0 0 h.1 ∙ get_or-set_other l (PC + t) i pc 0 h.0

  looks-spare : (t k b i : ℕ) (l : List ℕ) → ((j : ℕ) → j < k → bit_at b j ≡ 1 → Spared i (t + j))
      → get_or (look_at_all pc l (threads_from t k b)) i 0 ≡ get_or l i 0
  unfolding threads_from
  looks-spare t zero b i l h = refl
  looks-spare t (suc k) b i l h =
      let above : (x : List ℕ) → get_or (look_at_all pc x (threads_from (suc t) k (b / 2))) i 0 ≡ get_or x i 0 =
      (λ x. looks-spare (suc t) k (b / 2) i x
      (λ j m e. subst (Spared i) (omega arith) (h (suc j) (omega arith) e))) in
      elim (parity b) [
        | odd o ↦ rw o (above (look pc l t) ∙ look-spares l t i (subst (Spared i) (omega arith) (h 0 (omega arith) o)))
        | even o ↦ rw o (above l)
      ]

  -- both numbers of thread t are stored
  abbrev Held : ℕ → List ℕ → Type 0
  Held t l = (get_or l (PC + t) 0 ≡ pc) × (get_or l (ROUTE + t) 0 ≡ 0)

  look-holds : (l : List ℕ) (t : ℕ) → length l ≡ 512 → t < 64 → Held t (look pc l t)
  look-holds l t n h = (
    get_or-set_other (set l (PC + t) pc) (ROUTE + t) (PC + t) 0 0 (λ e. omega arith)
        ∙ get_or-set_same l (PC + t) pc 0 (omega arith),
    get_or-set_same (set l (PC + t) pc) (ROUTE + t) 0 0 (rw length-set (omega arith)),
  )

  looks-hold : (t k b j : ℕ) (l : List ℕ) → length l ≡ 512 → t + k ≤ 64 → j < k → bit_at b j ≡ 1
      → Held (t + j) (look_at_all pc l (threads_from t k b))
  unfolding threads_from
  looks-hold t zero b j l n h m e = absurd (not-suc-le-zero m)
  looks-hold t (suc k) b zero l n h m e =
      let held = look-holds l t n (omega arith) in
      let q : t + 0 ≡ t = omega arith in
      let spared : (i : ℕ) → ((j : ℕ) → j < k → Spared i (suc t + j))
      → get_or (look_at_all pc (look pc l t) (threads_from (suc t) k (b / 2))) i 0 ≡ get_or (look pc l t) i 0 =
      (λ i f. looks-spare (suc t) k (b / 2) i (look pc l t) (λ j m e. f j m)) in
      rw (e, q) (
        spared (PC + t) (λ j m. (λ x. omega arith, λ x. omega arith)) ∙ held.0,
        spared (ROUTE + t) (λ j m. (λ x. omega arith, λ x. omega arith)) ∙ held.1,
      )
  looks-hold t (suc k) b (suc j) l n h m e =
      let q : t + suc j ≡ suc t + j = omega arith in
      let above : (x : List ℕ) → length x ≡ 512 → Held (suc t + j) (look_at_all pc x (threads_from (suc t) k (b / 2))) =
      (λ x n. looks-hold (suc t) k (b / 2) j x n (omega arith) (omega arith) e) in
      elim (parity b) [
        | odd o ↦ rw (o, q) (above (look pc l t) (rw (length-set, length-set) n))
        | even o ↦ rw (o, q) (above l n)
      ]

holds_as : (g : Group) (c b v : ℕ) → phase_of (holds_at g) c 0 b v ≡ holding g
holds_as g c b v = from (is_writer g)
  where
    from : (w : Bool)
        → phase_of (if w then WRITING else READING) c 0 b v ≡ (if w then Phase.Writing else Phase.Reading 0)
    from true = refl
    from false = refl

pub wakes : WakesOf
unfolding perform
wakes g fits l l' looks s w =
    record {
      counted = w.counted;
      hold = λ t e. rw w.cells (rw zero-add at (looks-hold (holds_at g) 0 64 g.members t l
          s.long (omega arith) (bit_below 64 g.members t fits e) e));
      others = λ i h. rw w.cells (looks-spare (holds_at g) 0 64 g.members i l (λ j m e. rw zero-add (h j e)));
      state = λ z t p. rw (woken-leaves (holds_at g) (holds_as g) s w).state;
    }

-- ---- the loop

-- After so many looks: they were at the first threads of the list, one after the other, and the rest b of the set b₀
-- has the others.
pub record Waking (pc : ℕ) (l₀ l : List ℕ) (b₀ b looks : ℕ) : Type 0 where
  pub fits : b < 2 ^ 64
  pub done : l ≡ look_at_all pc l₀ (take looks (ascending b₀))
  pub rest : ascending b ≡ drop looks (ascending b₀)
  pub within : looks ≤ length (ascending b₀)
  pub sized : length (ascending b₀) ≡ size b₀
  pub few : length (ascending b₀) ≤ 64

pub none-woken : (pc : ℕ) (l : List ℕ) (b : ℕ) → b < 2 ^ 64 → Waking pc l l b b 0
unfolding size
none-woken pc l b h =
    let sized = as-many-as-ones b h in
    record {
      fits = h;
      done = refl;
      rest = refl;
      within = omega arith;
      sized = sized;
      few = omega (arith, sized, ones-le 64 b h);
    }

one_more : (pc : ℕ) (l ts : List ℕ) (t : ℕ) → look_at_all pc l (ts ++ t ∷ []) ≡ look pc (look_at_all pc l ts) t
one_more pc l [] t = refl
one_more pc l (u ∷ ts) t = one_more pc (look pc l u) ts t

module _ {pc : ℕ} {l₀ l : List ℕ} {b₀ b looks : ℕ} (w : Waking pc l₀ l b₀ b looks) where
  -- the first thread of the rest, and the others
  rest-is : 0 < b → drop looks (ascending b₀) ≡ count_trailing_zeros 64 b ∷ ascending (cleared b)
  rest-is some = sym w.rest ∙ lowest-first b w.fits some

  pub some_left : 0 < b → looks < length (ascending b₀)
  some_left some = omega (arith, ap length (rest-is some), length-drop looks (ascending b₀))

  pub one-woken : 0 < b → Waking pc l₀ (look pc l (count_trailing_zeros 64 b)) b₀ (cleared b) (looks + 1)
  one-woken some =
      let ts = ascending b₀ in
      record {
        fits = omega (arith, w.fits, cleared-lt b some);
        done = rw (take-add looks 1 ts, rest-is some, one_more pc l₀ (take looks ts) (count_trailing_zeros 64 b), ← w.done);
        rest = sym (ap (drop 1) (rest-is some)) ∙ drop-drop 1 looks ts;
        within = omega (arith, some_left some);
        sized = w.sized;
        few = w.few;
      }

  pub all-woken : b ≡ 0 → Woken l₀ b₀ pc l looks
  all-woken e =
      let ts = ascending b₀ in
      let end : length ts ≤ looks = omega (arith, ap length (rw (e, nobody) at w.rest), length-drop looks ts) in
      record {
        cells = w.done ∙ ap (look_at_all pc l₀) (take_all looks ts end);
        counted = omega (arith, w.within, w.sized);
      }
