-- A store grows row by row, whatever machine is explored: what is found stays, and what is added was led to.
use Rattle.lock.proofs.Library.{ℕ, zero, suc, ◌+◌, ◌-◌, ◌/◌, ◌%◌, ◌≤◌, ◌<◌, ◌≡◌, refl, sym, ap, ap₂, subst, ◌∙◌}
use Rattle.lock.proofs.Library.{◌≢◌, Bool, true, false, ◌⊎◌, inl, inr, List, [], ◌∷◌, ◌++◌, arith, ℕ_discrete}
use Rattle.lock.proofs.Library.{dec_lt, length, lt-ltb, length-append}
use Rattle.std.specs.Prelude.{Result, Ok, Err, is_err}
use Rattle.lock.proofs.{Choice.clash, Machine.run_more}
use Rattle.lock.specs.{declared.Entry.Entry, Machine.{Row, OutcomeOf, taken, refused, runs}}
use Rattle.lock.specs.declared.Refusal.{Refusal}
use Rattle.rows.specs.Outcome.{numbered}
use Rattle.journal.specs.Came.{Came}
use Rattle.explore_machine.specs.Closed.{Like, Forgets, Has, HasAfter, Closed, Leads}
use Rattle.explore_machine.proofs.Closed.{complete}
use Rattle.explore_store.specs.{Store.{record_at, head_of, parent_at, row_at, Before}, declared.Record.Record}
use Rattle.explore_store.proofs.Store.{before-refl}
use Rattle.explore_subject.specs.Search.{Subject, path_in, path_to, Only, OfThread, OfAny, Next, Refusing, state_at}
use Rattle.explore_subject.specs.Search.{depth_of, Led, Sound, Covers, Kept, Grows, Trying, Tries, Expands, Explores}
use Rattle.explore_subject.specs.Search.{Figures}

-- ---- stores

before-both : {n m : ℕ} {st st₁ st₂ : List ℕ} → n ≤ m → Before n st st₁ → Before m st₁ st₂ → Before n st st₂
before-both h a b = record { long = b.long ∙ a.long; same = λ k l. b.same k (omega arith) ∙ a.same k l }

-- rows of one thread or another, by their number: those below k
pub record Upto (g : ℕ → Row) (k : ℕ) (r : Row) : Type 0 where
  pub kind : ℕ
  pub below : kind < k
  pub is : r ≡ g kind

pub upto-more : {g : ℕ → Row} {k t o : ℕ} → record { thread = t; order = o } ≡ g k
    → (r : Row) → Upto g (k + 1) r → Upto g k r ⊎ Only t o r
upto-more {g} {k} e r u = elim (dec_lt u.kind k) [
  | yes l ↦ inl (record { kind = u.kind; below = l; is = u.is })
  | no l ↦
      let b = u.below in
      let q : u.kind ≡ k = omega arith in
      inr (u.is ∙ ap g q ∙ sym e)
]

-- rows of thread t
abbrev pub row_of : (ℕ → ℕ) → ℕ → ℕ → Row
row_of g t k = record { thread = t; order = g k }

pub upto_all : {g : ℕ → ℕ} {m t k : ℕ} → m ≤ k → (r : Row) → OfThread g m t r → Upto (row_of g t) k r
upto_all h r u = let l = u.known in record { kind = u.kind; below = omega arith; is = u.is }

-- of the threads below t
pub record Threads (g : ℕ → ℕ) (m t : ℕ) (r : Row) : Type 0 where
  pub below : r.thread < t
  pub tried : OfThread g m r.thread r

pub threads_more : {g : ℕ → ℕ} {m t : ℕ} (r : Row) → Threads g m (t + 1) r → Threads g m t r ⊎ OfThread g m t r
threads_more {g} {m} {t} r u = elim (dec_lt r.thread t) [
  | yes l ↦ inl (record { below = l; tried = u.tried })
  | no l ↦
      let b = u.below in
      let q : r.thread ≡ t = omega arith in
      inr (subst (λ (x : ℕ). OfThread g m x r) q u.tried)
]

pub threads-all : {g : ℕ → ℕ} {m T t : ℕ} → T ≤ t → (r : Row) → OfAny g m T r → Threads g m t r
threads-all h r u = let l = u.there in record { below = omega arith; tried = u.tried }

-- ---- what the code gives of a row, and what became of it

pub not_taken : (w : Result Entry Refusal) {e : Entry} → is_err w ≡ true → numbered w ≡ Ok e → ⊥
not_taken (Ok a) h q = clash cc
not_taken (Err r) h q = clash cc

pub not_refused : (w : Result Entry Refusal) {n : ℕ} → is_err w ≡ false → numbered w ≡ Err n → ⊥
not_refused (Ok a) h q = clash cc
not_refused (Err r) h q = clash cc

module _ {S E L X : Type 0} (k : Subject S E L X) where
  pub kept_refl : (n : ℕ) (x : X) → Kept k n x x
  kept_refl n x = record { before = before-refl n (k.heads x); same = λ i l. refl }

  kept-both : {n m : ℕ} {x x₁ x₂ : X} → n ≤ m → Kept k n x x₁ → Kept k m x₁ x₂ → Kept k n x x₂
  kept-both h a b = record {
    before = before-both h a.before b.before;
    same = λ i l. b.same i (omega arith) ∙ a.same i l;
  }

  module _ {n : ℕ} {x x' : X} (b : Kept k n x x') where
    state-before : (i : ℕ) → i < n → state_at k x' i ≡ state_at k x i
    state-before i l = ap k.view (b.same i l)

    pub depth-before : (i : ℕ) → i < n → depth_of k x' i ≡ depth_of k x i
    depth-before i l = ap (λ (r : Record). r.head / 65536 % 65536) (b.before.same i l)

    has_kept : {m j : ℕ} {s : S} → n ≤ m → Has k.machine (state_at k x) (depth_of k x) n j s
        → Has k.machine (state_at k x') (depth_of k x') m j s
    has_kept h a =
        let w = a.within in
        record {
          place = a.place;
          within = omega arith;
          soon = rw (depth-before a.place w) a.soon;
          alike = rw (state-before a.place w) a.alike;
        }

    has-after : {m : ℕ} (j : ℕ) → n ≤ m → (q : OutcomeOf S E)
        → HasAfter k.machine (state_at k x) (depth_of k x) n j q
        → HasAfter k.machine (state_at k x') (depth_of k x') m j q
    has-after j h (taken s e) a = has_kept h a
    has-after j h (refused c) a = tt

    -- what was tried stays tried
    pub covers_kept : {m : ℕ} (i : ℕ) (r : Row) → n ≤ m → i < n → Covers k x n i r → Covers k x' m i r
    covers_kept i r h l c =
        rw (state-before i l, depth-before i l)
        (has-after (depth_of k x i + 1) h (k.machine.step (state_at k x i) r) c)

    led-kept : {i : ℕ} → i < n → Led k x i → Led k x' i
    led-kept {i} l c =
        let e = c.earlier in
        let p : parent_at (k.heads x') i ≡ parent_at (k.heads x) i =
        ap (λ (r : Record). r.head / 4294967296) (b.before.same i l) in
        let q : row_at (k.heads x') i ≡ row_at (k.heads x) i =
        ap (λ (r : Record). record { thread = r.head / 256 % 256; order = r.head % 256 }) (b.before.same i l) in
        record {
          earlier = rw p e;
          deeper = rw (p, depth-before i l, depth-before (parent_at (k.heads x) i) (omega arith)) c.deeper;
          entry = c.entry;
          row = rw (q, p, state-before i l, state-before (parent_at (k.heads x) i) (omega arith)) c.row;
        }

    reached-kept : {i : ℕ} → i < n → k.After (depth_of k x i) (k.at x i) → k.After (depth_of k x' i) (k.at x' i)
    reached-kept {i} l a = rw (depth-before i l, b.same i l) a

    ordered-kept : {i j : ℕ} → i ≤ j → j < n → depth_of k x i ≤ depth_of k x j → depth_of k x' i ≤ depth_of k x' j
    ordered-kept {i} {j} l m c = rw (depth-before i (omega arith), depth-before j m) c

  -- ---- one row

  module _ {x : X} {n i : ℕ} {l₀ : L} (s : Sound k x n) (y : Trying k x n i l₀) where
    inside : i < n
    inside = y.next.within

    -- nothing is added
    pub tries-failed : {R : Row → Type 0} {l : L} {b : Bool} → b ≡ false → Tries k R i x n x n l b
    tries-failed f = record {
      grows = record { more = omega arith; kept = kept_refl n x; sound = s };
      tried = λ e. clash cc;
      still = λ e. clash cc;
    }

    -- what was made of it is as it was
    trying-as : {l : L} → k.view l ≡ state_at k x i → k.After (depth_of k x i) l → Trying k x n i l
    trying-as e a = record { next = y.next; low = y.low; shallow = y.shallow; is = e; after = a }

    -- it is not made, for the machine refuses it
    pub tries-barred : (t o : ℕ) {b : Bool} → Refusing (k.machine.step (k.view l₀) (record { thread = t; order = o }))
        → Tries k (Only t o) i x n x n l₀ b
    tries-barred t o q = record {
      grows = record { more = omega arith; kept = kept_refl n x; sound = s };
      tried = λ e r p. rw (p, ← y.is, q.is) tt;
      still = λ e. y;
    }

    module _ (t o : ℕ) {l₁ : L} {write : E → Entry} {w : Result Entry Refusal}
        (c : Came write (k.view l₀) (k.view l₁) w (k.machine.step (k.view l₀) (record { thread = t; order = o }))) where
      abbrev r : Row
      r = record { thread = t; order = o }

      -- it is refused
      pub tries-refused : {b : Bool} → is_err w ≡ true → k.After (depth_of k x i) l₁ → Tries k (Only t o) i x n x n l₁ b
      tries-refused h a = record {
        grows = record { more = omega arith; kept = kept_refl n x; sound = s };
        tried = λ e u q. rw (q, ← y.is) (from (k.machine.step (k.view l₀) r) c);
        still = λ e. trying-as (same (k.machine.step (k.view l₀) r) c) a;
      }
        where
          from : (q : OutcomeOf S E) → Came write (k.view l₀) (k.view l₁) w q
              → HasAfter k.machine (state_at k x) (depth_of k x) n (depth_of k x i + 1) q
          from (taken s' e) g = absurd (not_taken w h g.is)
          from (refused d) g = tt

          same : (q : OutcomeOf S E) → Came write (k.view l₀) (k.view l₁) w q → k.view l₁ ≡ state_at k x i
          same (taken s' e) g = absurd (not_taken w h g.is)
          same (refused d) g = g.left ∙ y.is

      -- it is taken, and led to l₂ but for what numbers do not stand for
      module _ {l₂ : L} (h : is_err w ≡ false) (v : k.view l₂ ≡ k.view l₁) (a : k.After (suc (depth_of k x i)) l₂)
          (small : (t < 256) × (o < 256)) where
        record Taken : Type 0 where
          pub entry : E
          pub is : k.machine.step (state_at k x i) r ≡ taken (k.view l₂) entry

        came : Taken
        came = from (k.machine.step (k.view l₀) r) refl c
          where
            from : (q : OutcomeOf S E) → k.machine.step (k.view l₀) r ≡ q
                → Came write (k.view l₀) (k.view l₁) w q → Taken
            from (taken s' e) p g = record {
              entry = e;
              is = ap (λ (u : S). k.machine.step u r) (sym y.is)
                  ∙ p ∙ ap (λ (u : S). taken u e) (sym (v ∙ g.left));
            }
            from (refused d) p g = absurd (not_refused w h g.is)

        -- record i again
        again : {l₃ : L} → l₃ ≡ k.at x i → Trying k x n i l₃
        again e = trying-as (ap k.view e) (rw e (s.reached i inside))

        -- it was there already
        pub tries-found : {j : ℕ} {b : Bool} {l₃ : L} → j < n → Like k.machine (state_at k x j) (k.view l₂)
            → l₃ ≡ k.at x i → Tries k (Only t o) i x n x n l₃ b
        tries-found {j} l q e = record {
          grows = record { more = omega arith; kept = kept_refl n x; sound = s };
          tried = λ _ u p. rw (p, came.is) (record { place = j; within = l; soon = y.next.near j l; alike = q });
          still = λ _. again e;
        }

        -- it is new
        module _ {x' : X} (room : k.Room x' (n + 1)) (q : Kept k n x x')
            (head : (record_at (k.heads x') n).head ≡ head_of i (depth_of k x i + 1) t o) (here : k.at x' n ≡ l₂) where
          depth-here : depth_of k x' n ≡ depth_of k x i + 1
          depth-here =
              let d = y.shallow in
              let e : head_of i (depth_of k x i + 1) t o / 65536 % 65536 ≡ depth_of k x i + 1 =
              omega (arith, small.0, small.1) in
              ap (λ (u : ℕ). u / 65536 % 65536) head ∙ e

          parent-here : parent_at (k.heads x') n ≡ i
          parent-here =
              let d = y.shallow in
              let e : head_of i (depth_of k x i + 1) t o / 4294967296 ≡ i = omega (arith, small.0, small.1) in
              ap (λ (u : ℕ). u / 4294967296) head ∙ e

          row_here : row_at (k.heads x') n ≡ r
          row_here =
              let d = y.shallow in
              let e : head_of i (depth_of k x i + 1) t o / 256 % 256 ≡ t = omega (arith, small.0, small.1) in
              let f : head_of i (depth_of k x i + 1) t o % 256 ≡ o = omega (arith, small.0, small.1) in
              ap (λ (u : ℕ). record { thread = u / 256 % 256; order = u % 256 }) head
              ∙ ap₂ (λ (a b : ℕ). record { thread = a; order = b }) e f

          state-here : state_at k x' n ≡ k.view l₂
          state-here = ap k.view here

          depth-now : depth_of k x' i ≡ depth_of k x i
          depth-now = depth-before q i inside

          led-new : Led k x' n
          led-new = record {
            earlier = rw parent-here inside;
            deeper = rw (parent-here, depth-here, depth-now);
            entry = came.entry;
            row = rw (parent-here, row_here, state-before q i inside, state-here) came.is;
          }

          reached-new : k.After (depth_of k x' n) (k.at x' n)
          reached-new =
              let e : depth_of k x i + 1 ≡ suc (depth_of k x i) = omega arith in
              rw (depth-here, here, e) a

          near-all : (j : ℕ) → j < n + 1 → depth_of k x' j ≤ depth_of k x i + 1
          near-all j l = elim (dec_lt j n) [
            | yes p ↦ rw (depth-before q j p) (y.next.near j p)
            | no p ↦
                let e : j ≡ n = omega arith in
                rw (e, depth-here) (omega arith)
          ]

          sound-new : Sound k x' (n + 1)
          sound-new = record {
            room = room;
            some = omega arith;
            first = state-before q 0 s.some ∙ s.first;
            top = depth-before q 0 s.some ∙ s.top;
            reached = λ j l. elim (dec_lt j n) [
              | yes p ↦ reached-kept q p (s.reached j p)
              | no p ↦ let e : j ≡ n = omega arith in rw e reached-new
            ];
            led = λ j f l. elim (dec_lt j n) [
              | yes p ↦ led-kept q p (s.led j f p)
              | no p ↦ let e : j ≡ n = omega arith in rw e led-new
            ];
            ordered = λ j g l f. elim (dec_lt g n) [
              | yes p ↦ ordered-kept q l p (s.ordered j g l p)
              | no p ↦ let e : g ≡ n = omega arith in rw (e, depth-here) (near-all j (omega arith))
            ];
          }

          pub tries-added : {b : Bool} {l₃ : L} → l₃ ≡ k.at x i → Tries k (Only t o) i x n x' (n + 1) l₃ b
          tries-added e =
              let b = inside in
              record {
                grows = record { more = omega arith; kept = q; sound = sound-new };
                tried = λ _ u p. rw (p, state-before q i inside, depth-now, came.is) (record {
                  place = n;
                  within = omega arith;
                  soon = rw depth-here (omega arith);
                  alike = ap k.machine.forget state-here;
                });
                still = λ _. record {
                  next = record { within = omega arith; near = λ j l. rw depth-now (near-all j l) };
                  low = y.low;
                  shallow = rw depth-now y.shallow;
                  is = (again e).is ∙ sym (state-before q i inside);
                  after = rw depth-now (again e).after;
                };
              }

  -- ---- rows after rows

  pub grows-both : {x x₁ x₂ : X} {n m j : ℕ} → Grows k x n x₁ m → Grows k x₁ m x₂ j → Grows k x n x₂ j
  grows-both a b =
      let p = a.more in
      let q = b.more in
      record { more = omega arith; kept = kept-both (omega arith) a.kept b.kept; sound = b.sound }

  pub grows_none : {x : X} {n : ℕ} → Sound k x n → Grows k x n x n
  grows_none {x} {n} s = record { more = omega arith; kept = kept_refl n x; sound = s }

  -- rows R of record i were tried, and now rows Q
  pub tries-more : {R Q P : Row → Type 0} {i : ℕ} {x x₁ x₂ : X} {l₁ l₂ : L} {n m j : ℕ} {b : Bool} → i < n
      → Tries k R i x n x₁ m l₁ true → Tries k Q i x₁ m x₂ j l₂ b → ((r : Row) → P r → R r ⊎ Q r)
      → Tries k P i x n x₂ j l₂ b
  tries-more {i = i} l a d f =
      let g = a.grows.more in
      record {
        grows = grows-both a.grows d.grows;
        tried = λ e r p. elim (f r p) [
          | inl u ↦ covers_kept d.grows.kept i r d.grows.more (omega arith) (a.tried refl r u)
          | inr u ↦ d.tried e r u
        ];
        still = d.still;
      }

  pub tries-none : {R : Row → Type 0} {i : ℕ} {x : X} {l : L} {n : ℕ} {b : Bool}
      → Sound k x n → Trying k x n i l → ((r : Row) → R r → ⊥) → Tries k R i x n x n l b
  tries-none s y f = record { grows = grows_none s; tried = λ e r p. absurd (f r p); still = λ e. y }

  -- a row could not be tried
  pub tries-stop : {R Q P : Row → Type 0} {i : ℕ} {x x₁ x₂ : X} {l₁ l₂ : L} {n m j : ℕ} {b : Bool}
      → Tries k R i x n x₁ m l₁ true → Tries k Q i x₁ m x₂ j l₂ b → b ≡ false → Tries k P i x n x₂ j l₂ b
  tries-stop a d f =
      record { grows = grows-both a.grows d.grows; tried = λ e. clash cc; still = λ e. clash cc }

  pub tries-weaker : {R P : Row → Type 0} {i : ℕ} {x x₁ : X} {l : L} {n m : ℕ} {b : Bool}
      → Tries k R i x n x₁ m l b → ((r : Row) → P r → R r) → Tries k P i x n x₁ m l b
  tries-weaker a f = record { grows = a.grows; tried = λ e r p. a.tried e r (f r p); still = a.still }

  -- ---- a record

  -- it is not expanded
  pub expands-idle : {R : Row → Type 0} {i : ℕ} {x : X} {n : ℕ} {b : Bool}
      → Sound k x n → b ≡ false → Expands k R i x n x n b
  expands-idle s f = record { grows = grows_none s; tried = λ e. clash cc; next = λ e. clash cc }

  pub trying-unpacked : {x : X} {l : L} {n i : ℕ} → Sound k x n → Next (k.heads x) n i → i < 4294967296
      → depth_of k x i < 65535 → l ≡ k.at x i → Trying k x n i l
  trying-unpacked {i = i} s g b h e = record {
    next = g;
    low = b;
    shallow = h;
    is = ap k.view e;
    after = rw e (s.reached i g.within);
  }

  pub expands : {R : Row → Type 0} {i : ℕ} {x x' : X} {l : L} {n m : ℕ} {b : Bool}
      → Tries k R i x n x' m l b → Expands k R i x n x' m b
  expands t = record { grows = t.grows; tried = t.tried; next = λ e. (t.still e).next }

  -- ---- all records, one after the other

  pub record Swept (R : Row → Type 0) (x : X) (n i : ℕ) : Type 0 where
    pub sound : Sound k x n
    pub within : i ≤ n
    pub tried : (j : ℕ) → j < i → (r : Row) → R r → Covers k x n j r
    pub near : (j g : ℕ) → j < n → i ≤ g → g < n → depth_of k x j ≤ depth_of k x g + 1

  pub swept_none : {R : Row → Type 0} {x : X} → Sound k x 1 → Swept R x 1 0
  swept_none s = record {
    sound = s;
    within = omega arith;
    tried = λ j l. absurd (omega arith);
    near = λ j g a b c.
        let e : j ≡ 0 = omega arith in
        let f : g ≡ 0 = omega arith in
        rw (e, f) (omega arith);
  }

  pub swept-next : {R : Row → Type 0} {x : X} {n i : ℕ} → Swept R x n i → i < n → Next (k.heads x) n i
  swept-next {i = i} w l = record { within = l; near = λ j h. w.near j i h (omega arith) l }

  pub swept-more : {R : Row → Type 0} {x x' : X} {n m i : ℕ} → Swept R x n i → i < n
      → Expands k R i x n x' m true → Swept R x' m (i + 1)
  swept-more {i = i} w l t =
      let g = t.grows.more in
      record {
        sound = t.grows.sound;
        within = omega arith;
        tried = λ j b r p. elim (dec_lt j i) [
          | yes a ↦ covers_kept t.grows.kept j r g (omega arith) (w.tried j a r p)
          | no a ↦ let e : j ≡ i = omega arith in rw e (t.tried refl r p)
        ];
        near = λ j h a b c.
            let u = (t.next refl).near j a in
            let v = t.grows.sound.ordered i h (omega arith) c in
            omega arith;
      }

  -- ---- the rows that the records name

  module _ {x : X} {n : ℕ} (s : Sound k x n) where
    pub record Path (rs : List Row) (i : ℕ) : Type 0 where
      pub leads : Leads k.machine rs (state_at k x i)
      pub long : length rs ≡ depth_of k x i

    top-path : (i : ℕ) → i ≡ 0 → Path [] i
    unfolding runs
    top-path i e = rw e (record { leads = record { all = refl; there = sym s.first }; long = sym s.top })

    row-path : (rs : List Row) (i : ℕ) → Led k x i → Path rs (parent_at (k.heads x) i)
        → Path (rs ++ row_at (k.heads x) i ∷ []) i
    row-path rs i l p =
        let q = run_more k.machine.step k.machine.start rs (row_at (k.heads x) i) {t = state_at k x i} {y = l.entry}
        p.leads.all (rw p.leads.there l.row) in
        record {
          leads = record { all = q.0; there = q.1 };
          long = omega (arith, length-append rs (row_at (k.heads x) i ∷ []), p.long, l.deeper);
        }

    path-in : (j i : ℕ) → depth_of k x i ≡ j → i < n → Path (path_in (k.heads x) j i) i
    unfolding path_in
    path-in zero i h l = elim (ℕ_discrete i 0) [
      | yes e ↦ top-path i e
      | no e ↦ absurd (let d = (s.led i (omega arith) l).deeper in omega arith)
    ]
    path-in (suc j) i h l = elim (ℕ_discrete i 0) [
      | yes e ↦ absurd (let t : depth_of k x i ≡ 0 = rw e s.top in omega arith)
      | no e ↦
          let d = s.led i (omega arith) l in
          let a = d.earlier in
          let f = d.deeper in
          row-path (path_in (k.heads x) j (parent_at (k.heads x) i)) i d
          (path-in j (parent_at (k.heads x) i) (omega arith) (omega arith))
    ]

    pub path-to : (i : ℕ) → i < n → Path (path_to (k.heads x) i) i
    unfolding path_to
    path-to i l = path-in (depth_of k x i) i refl l

  -- ---- the answer

  abbrev told_of : ℕ → X → ℕ → Figures
  told_of a x n = record { answer = a; count = n; depth = depth_of k x (n - 1) }

  -- what is said of the records found
  pub explores-part : {x : X} {n : ℕ} (r : Figures) → Sound k x n → r ≡ told_of 1 x n → Explores k x r
  explores-part {n = n} r s e = rw e (record {
    known = omega arith;
    room = s.room;
    leads = λ i l. (path-to s i l).leads;
    depth = λ i l. (path-to s i l).long;
    ordered = s.ordered;
    deepest = rw (lt-ltb 0 n s.some);
    closed = λ q. absurd (omega arith);
    complete = λ q. absurd (omega arith);
  })

  pub explores-nothing : {x : X} (a : ℕ) → k.Room x 0 → a ≢ 0 → a ≤ 2
      → Explores k x (record { answer = a; count = 0; depth = 0 })
  explores-nothing a room h c = record {
    known = c;
    room = room;
    leads = λ i l. absurd (omega arith);
    depth = λ i l. absurd (omega arith);
    ordered = λ i j h l. absurd (omega arith);
    deepest = refl;
    closed = λ q. absurd (h q);
    complete = λ q. absurd (h q);
  }

  -- every row is one of those that are tried, or is refused
  module _ {R : Row → Type 0} (every : (s : S) (r : Row) → R r ⊎ Refusing (k.machine.step s r)) where
    closed_all : {x : X} {n i : ℕ} → Swept R x n i → n ≤ i → Closed k.machine (state_at k x) (depth_of k x) n
    closed_all {x} w l = record {
      starts = record {
        place = 0;
        within = w.sound.some;
        soon = rw w.sound.top (omega arith);
        alike = rw w.sound.first;
      };
      steps = λ j h r. elim (every (state_at k x j) r) [
        | inl p ↦ w.tried j (omega arith) r p
        | inr q ↦ rw q.is tt
      ];
    }

    -- all of them: no row leads out
    pub explores-all : {x : X} {n i : ℕ} (r : Figures) → Forgets k.machine → Swept R x n i → n ≤ i
        → r ≡ told_of 0 x n → Explores k x r
    explores-all {x} {n} r law w l e =
        let s = w.sound in
        let c : Closed k.machine (state_at k x) (depth_of k x) n = closed_all w l in
        rw e (record {
          known = omega arith;
          room = s.room;
          leads = λ i l. (path-to s i l).leads;
          depth = λ i l. (path-to s i l).long;
          ordered = s.ordered;
          deepest = rw (lt-ltb 0 n s.some);
          closed = λ a. c;
          complete = λ a. complete law c;
        })
