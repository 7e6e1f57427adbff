-- Every read-lock by the tree that ends reading with its node's ticket has one success; one that is woken has none.
use Rattle.laws.proofs.Lock.{ℕ, suc, ◌+◌, ◌≤◌, ◌<◌, ◌≡◌, refl, sym, subst, ap, ◌∙◌, ◌≢◌, List, le_refl, arith}
use Rattle.laws.proofs.Lock.{ℕ_discrete, dec_lt, get_or, zero-le, state_at, row_at, entry_at, CallOf, Success}
use Rattle.laws.proofs.Lock.{dec-both, Word, opened, call_begun, Thread, Sizes, State, fresh, fresh_thread, runs}
use Rattle.laws.proofs.Lock.{Row, run, InRange}
use Rattle.laws.specs.Success.{Arrived, Arrives, WokenWithout, AtMostOnce}
use Rattle.laws.proofs.Runs.{same_at}
use Rattle.laws.proofs.Seen.{Stage, apart, looking, climbing, after, stage}
use Rattle.laws.proofs.Stage.{stage_at, reading-stage, woken-stage, idle-stage, stays, drops, fails, Other}
use Rattle.laws.proofs.Stage.{Raises, passes, enters, succeeds, reads, others, RowOf, acts, starts, goes_on}
use Rattle.laws.proofs.Stage.{waits, row_of, kept_from}

module _ (z : Sizes) (range : InRange z) (rs : List Row) where
  abbrev S : ℕ → State
  S i = state_at z rs i

  abbrev last_row : ℕ
  last_row = (run z fresh rs).taken

  module _ (t : ℕ) where
    -- ---- the latest call: who is at a stage of a read-lock began it

    -- since row b, and before state i, t begins no call
    abbrev Same : ℕ → ℕ → Type 0
    Same b i = (k : ℕ) → b < k → k < i → (row_at z rs k).thread ≡ t → entry_at z rs k ≢ call_begun

    same-on : (b i : ℕ) → Same b i → ((row_at z rs i).thread ≡ t → entry_at z rs i ≢ call_begun) → Same b (suc i)
    same-on b i h f k a l =
        dec-both (ℕ_discrete k i)
        (λ e. subst (λ (x : ℕ). (row_at z rs x).thread ≡ t → entry_at z rs x ≢ call_begun) (sym e) f)
        (λ e. h k a (omega arith))

    record Call (n i : ℕ) : Type 0 where
      row : ℕ
      call : CallOf z rs t n row i

    abbrev Begun : ℕ → Stage → Type 0
    Begun i apart = Unit {0}
    Begun i (looking n) = Call n i
    Begun i (climbing n) = Call n i
    Begun i (after n) = Call n i

    call-on : (n i : ℕ) → ((row_at z rs i).thread ≡ t → entry_at z rs i ≢ call_begun) → Call n i → Call n (suc i)
    call-on n i f h =
        let c = h.call in
        record {
          row = h.row;
          call = record {
            by = c.by;
            order = c.order;
            begins = c.begins;
            before = omega (arith, c.before);
            same = same-on h.row i c.same f;
          };
        }

    begun-on : (i : ℕ) (x : Stage)
        → ((row_at z rs i).thread ≡ t → entry_at z rs i ≢ call_begun) → Begun i x → Begun (suc i) x
    begun-on i apart f h = tt
    begun-on i (looking n) f h = call-on n i f h
    begun-on i (climbing n) f h = call-on n i f h
    begun-on i (after n) f h = call-on n i f h

    begun-row : (i : ℕ) (x y : Stage) → RowOf z range rs t i x y → Begun i x → Begun (suc i) y
    begun-row i x y (acts by (starts e (reads n o) w)) h =
        record {
          row = i;
          call = record {
            by = by;
            order = o;
            begins = e;
            before = le_refl (suc i);
            same = λ k a l. absurd (omega arith);
          };
        }
    begun-row i x y (acts by (starts e (others o) w)) h = tt
    begun-row i x y (acts by (goes_on e (passes f (drops n)))) h = tt
    begun-row i x y (acts by (goes_on e (passes f (fails n)))) h = call-on n i (λ q. e) h
    begun-row i x y (acts by (goes_on e (enters n k o f))) h = call-on n i (λ q. e) h
    begun-row i x y (acts by (goes_on e (passes f (stays g)))) h = begun-on i g (λ q. e) h
    begun-row i x y (acts by (goes_on e (succeeds n pos r))) h = call-on n i (λ q. e) h
    begun-row i x y (waits a n) h = begun-on i a (λ q. absurd (n q)) h

    begun : (i : ℕ) → i ≤ last_row → Begun i (stage_at (S i) t)
    unfolding run runs
    begun i l =
        kept_from z range rs t 0 Begun
        (rw (ap (λ (h : Thread). stage h.phase) (same_at 64 t fresh_thread) ∙ idle-stage) tt)
        (λ i x y a l q. begun-row i x y) i zero-le l

    -- ---- a read-lock by n that t began in row b: no success yet, or some; each is the first

    module _ (b n : ℕ) where
      abbrev Nothing : ℕ → Type 0
      Nothing i = (k : ℕ) → k < i → Success z rs t n b k → ⊥

      record Some (i : ℕ) : Type 0 where
        row : ℕ
        before : row < i
        is : Success z rs t n b row

      abbrev Known : ℕ → Stage → Type 0
      Known i apart = Nothing i
      Known i (looking m) = (m ≡ n) × Nothing i
      Known i (climbing m) = (m ≡ n) × Nothing i
      Known i (after m) = (m ≡ n) × Some i

      -- row i is no success
      nothing-on : (i : ℕ) → (Success z rs t n b i → ⊥) → Nothing i → Nothing (suc i)
      nothing-on i f h k l =
          dec-both (ℕ_discrete k i) (λ e. subst (λ (x : ℕ). Success z rs t n b x → ⊥) (sym e) f)
          (λ e. h k (omega arith))

      known_on : (i : ℕ) (x : Stage) → (Success z rs t n b i → ⊥) → Known i x → Known (suc i) x
      known_on i apart f h = nothing-on i f h
      known_on i (looking m) f h = (h.0, nothing-on i f h.1)
      known_on i (climbing m) f h = (h.0, nothing-on i f h.1)
      known_on i (after m) f h = (h.0, record { row = h.1.row; before = omega (arith, h.1.before); is = h.1.is })

      -- a row that passes the node of its read-lock by is no success
      passed : (i : ℕ) (x : Stage) → ((w : ℕ) → 0 < w → Raises (S i).words (S (suc i)).words w → Other x w)
          → Known i x → Success z rs t n b i → ⊥
      passed i apart f h s = f n s.tree s.raises
      passed i (looking m) f h s = f n s.tree s.raises
      passed i (climbing m) f h s = f n s.tree s.raises (sym h.0)
      passed i (after m) f h s = f n s.tree s.raises

      module _ (by : (row_at z rs b).thread ≡ t)
          (order : (row_at z rs b).order ≡ 64 + n) (begins : entry_at z rs b ≡ call_begun) where
        known-row : (i : ℕ) (x y : Stage)
            → b < i → Same b (suc i) → RowOf z range rs t i x y → Known i x → Known (suc i) y
        known-row i x y l same (acts by' (starts e g w)) h = absurd (same i l (le_refl (suc i)) by' e)
        known-row i x y l same (acts by' (goes_on e (passes f (drops m)))) h =
            nothing-on i (passed i (looking m) f h) h.1
        known-row i x y l same (acts by' (goes_on e (passes f (fails m)))) h =
            (h.0, nothing-on i (passed i (climbing m) f h) h.1)
        known-row i x y l same (acts by' (goes_on e (enters m k o f))) h =
            (h.0, nothing-on i (passed i (looking m) f h) h.1)
        known-row i x y l same (acts by' (goes_on e (passes f (stays g)))) h = known_on i g (passed i g f h) h
        known-row i x y l same (acts by' (goes_on e (succeeds m pos r))) h = (
          h.0,
          record {
            row = i;
            before = le_refl (suc i);
            is =
                record {
                  tree = subst (λ (k : ℕ). 0 < k) h.0 pos;
                  call = record {
                    by = by;
                    order = order;
                    begins = begins;
                    before = l;
                    same = λ k a c. same k a (omega arith);
                  };
                  by = by';
                  raises = subst (Raises (S i).words (S (suc i)).words) h.0 r;
                };
          },
        )
        known-row i x y l same (waits a k) h = known_on i a (λ s. k s.by) h

        -- row b itself
        known-begun : (x y : Stage) → RowOf z range rs t b x y → Known (suc b) y
        known-begun x y (acts by' (starts e (reads m o) w)) =
            (omega (arith, order), λ k l s. omega (arith, s.call.before))
        known-begun x y (acts by' (starts e (others o) w)) = absurd (omega (arith, order))
        known-begun x y (acts by' (goes_on e f)) = absurd (e begins)
        known-begun x y (waits a k) = absurd (k by)

        known : (i : ℕ) → b < i → i ≤ last_row → Same b i → Known i (stage_at (S i) t)
        known i bl l =
            kept_from z range rs t (suc b) (λ (i : ℕ) (x : Stage). Same b i → Known i x)
            (λ same. known-begun _ _ (row_of z range rs t b (omega arith)))
            (λ i x y a l q r h same. known-row i x y a same r (h (λ j a c. same j a (omega arith)))) i bl l

      known_at : (i : ℕ) → i ≤ last_row → CallOf z rs t n b i → Known i (stage_at (S i) t)
      known_at i l c = known c.by c.order c.begins i c.before l c.same

      -- a row that leaves the words is none
      unchanged : (i : ℕ) → (S (suc i)).words ≡ (S i).words → Success z rs t n b i → ⊥
      unchanged i w s = omega (arith, s.raises, ap (λ (ws : List Word). (get_or ws n (opened 0 0)).tree) w)

      -- a success is the first
      is-first : (i : ℕ) (x y : Stage) → RowOf z range rs t i x y → Known i x → Success z rs t n b i → Nothing i
      is-first i x y (acts by (starts e g w)) h s = absurd (unchanged i w s)
      is-first i x y (acts by (goes_on e (passes f g))) h s = absurd (passed i x f h s)
      is-first i x y (acts by (goes_on e (enters m k o f))) h s = h.1
      is-first i x y (acts by (goes_on e (succeeds m pos r))) h s = h.1
      is-first i x y (waits a k) h s = absurd (k s.by)

      no-earlier : (i : ℕ) → i < last_row → Success z rs t n b i → Nothing i
      no-earlier i l s = is-first i _ _ (row_of z range rs t i l) (known_at i (omega arith) s.call) s

      once : (i k : ℕ) → i < last_row → k < last_row → Success z rs t n b i → Success z rs t n b k → i ≡ k
      once i k a c s u =
          dec-both (dec_lt i k) (λ e. absurd (no-earlier k c u i e s))
          (λ e. dec-both (dec_lt k i) (λ f. absurd (no-earlier i a s k f u)) (λ f. omega arith))

      -- apart from its read-lock a thread stays so until it begins another call, and has no success
      apart-row : (i : ℕ) {y : Stage} → ((row_at z rs i).thread ≡ t → entry_at z rs i ≢ call_begun)
          → RowOf z range rs t i apart y → y ≡ apart
      apart-row i k (acts by (starts e g w)) = absurd (k by e)
      apart-row i k (acts by (goes_on e (passes f (stays x)))) = refl
      apart-row i k (waits x f) = refl

      apart-on : (j i : ℕ) → b < j → j ≤ i → i ≤ last_row → Same b i → stage_at (S j) t ≡ apart → stage_at (S i) t ≡ apart
      apart-on j i bl jl l same h =
          kept_from z range rs t j (λ (i : ℕ) (x : Stage). Same b i → x ≡ apart) (λ same. h)
          (λ i x y a l q r k same. apart-row i (same i (omega arith) (le_refl (suc i)))
          (subst (λ (x : Stage). RowOf z range rs t i x y) (k (λ j a c. same j a (omega arith))) r)) i jl l same

      apart-fails : (i : ℕ) {y : Stage} → RowOf z range rs t i apart y → Success z rs t n b i → ⊥
      apart-fails i (acts by (starts e g w)) s = unchanged i w s
      apart-fails i (acts by (goes_on e (passes f g))) s = f n s.tree s.raises
      apart-fails i (waits x k) s = k s.by

      woken : (j i : ℕ) → j ≤ last_row
          → CallOf z rs t n b j → stage_at (S j) t ≡ apart → i < last_row → Success z rs t n b i → ⊥
      woken j i jl c h l s =
          dec-both (dec_lt i j) (λ a. subst (Known j) h (known_at j jl c) i a s)
          (λ a. let k = apart-on j i c.before (omega arith) (omega arith) s.call.same h in
          apart-fails i (rw k at (row_of z range rs t i l)) s)

pub arrives : (z : Sizes) → InRange z → (rs : List Row) → Arrives z rs
arrives z range rs t n j l pos e = from (subst (Begun z range rs t j) here (begun z range rs t j l))
  where
    here : stage_at (state_at z rs j) t ≡ after n
    here = ap stage e ∙ reading-stage n pos

    from : Call z range rs t n j → Arrived z rs t n j
    from c =
        let (q, o) = subst (Known z range rs t c.row n j) here (known_at z range rs t c.row n j l c.call) in
        record {
          begun = c.row;
          call = c.call;
          success =
              record {
                row = o.row;
                before = o.before;
                is = o.is;
                only = λ i a s. once z range rs t c.row n i o.row a (omega (arith, o.before)) s o.is;
              };
        }

pub at-most-once : (z : Sizes) → InRange z → (rs : List Row) → AtMostOnce z rs
at-most-once z range rs t n b i k a c s u = once z range rs t b n i k a c s u

pub woken-without : (z : Sizes) → InRange z → (rs : List Row) → WokenWithout z rs
woken-without z range rs t n b j l c e i k s = woken z range rs t b n j i l c (ap stage e ∙ woken-stage) k s
