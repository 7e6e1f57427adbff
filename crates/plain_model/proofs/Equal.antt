-- The plain engine equals the tree: the bench on two fresh locks, whose rows here are the first lock's alone
-- (`single-turn`).
use Rattle.lock.proofs.Library.{ℕ, suc, ◌≡◌, refl, sym, subst, ap, ap₂, ◌∙◌, ◌≢◌, ◌⊎◌, inl, inr, Bool, true, false}
use Rattle.lock.proofs.Library.{List, [], ◌∷◌, Option, none, some, arith, ℕ_discrete, eqb, ltb, length, set, set-get_or}
use Rattle.lock.proofs.Library.{◌<◌, eqb-true, eqb-false, ne_eqb, lt-ltb}
use Rattle.lock.proofs.Choice.{clash, if-both, not-both}
use Rattle.lock.{proofs.Demand.idle-at, proofs.Memory.memory, proofs.Memory.Fits}
use Rattle.std.specs.Prelude.{if◌then◌else◌}
use Rattle.laws.proofs.Lock.{Word, Waiters, Phase, Standing}
use Rattle.laws.proofs.Lock.{standing, Op, Order, go_on, write_lock, unlock, upgrade, downgrade, read_lock, book, decode}
use Rattle.laws.proofs.Lock.{op, obey, Sizes, State, fresh, word_at, Outcome, taken, refused, perform, runs, OfRow, Row}
use Rattle.laws.proofs.Lock.{Entry, row_op, step, follow, InRange}
use Rattle.lock.specs.Machine.{ResultOf}
use Rattle.lock.specs.Run as lock
use Rattle.laws.{specs.Exclusion.Resting, specs.Restoring.row, proofs.Cases.dec-both, proofs.Seen.by-seen}
use Rattle.pair.specs.{Pair.{Pair, first, fresh_pair, Note, turned, turn, run}, Single.{beside, note_first, Low}}
use Rattle.pair.proofs.Single.{single-turn}
use Rattle.progress.proofs.Kept.{kept-after, Leads, here, on, AnyRow, goes_on, begins as unlocks}
use Rattle.progress.{proofs.Rows.phase_of, proofs.Progress.comes-to-rest, proofs.Alone.calling?}
use Rattle.plain_model.specs.Plain.{Plain, plain_fresh, PlainOutcome, if_idle, if_holding, ordered, plain_step}
use Rattle.plain_model.specs.Plain.{PlainResult, plain_run}
use Rattle.plain_model.specs.{Alike.AlikeSheets, Equal.{PlainOrder, OthersRest, IfTaken, Whole, calls, Equals}}
use Rattle.plain_model.proofs.Sight.{look_of, looks, looks-at}
use Rattle.plain_model.proofs.Rest.{plain_sight, Sound, Rest, same_of}
use Rattle.plain_model.proofs.Begin.{Begun, IsCall, decode_call, call-order, not-a-call, begins}
use Rattle.plain_model.proofs.{Fate.sight, Fate.hole, Fate.fate_of, Alone.Mid, Alone.moves, Alike.alike_of}

-- ---- the orders

-- order 0, or one that the plain engine takes
abbrev TakesOrder : Sizes → Row → Type 0
TakesOrder z r = (r.order ≡ 0) ⊎ PlainOrder z r.order

not-zero : (z : Sizes) (o : ℕ) → PlainOrder z o → o ≢ 0
not-zero z o k e = elim k [
  | inl q ↦ omega arith
  | inr (inl q) ↦ omega arith
  | inr (inr q) ↦ omega (arith, q.0)
]

takes-call : (z : Sizes) (r : Row) → r.order ≢ 0 → TakesOrder z r → PlainOrder z r.order
takes-call z r n (inl e) = absurd (n e)
takes-call z r n (inr k) = k

takes_low : (z : Sizes) → InRange z → (r : Row) → TakesOrder z r → Low r
takes_low z h r (inl e) = omega arith
takes_low z h r (inr (inl e)) = omega arith
takes_low z h r (inr (inr (inl e))) = omega arith
takes_low z h r (inr (inr (inr e))) = omega (arith, h.nodes, e.1)

-- a row of such an order, beside a fresh second lock, is the first lock's
turns-taken : (z : Sizes) (s : State) (r : Row) {s' : State} {e : Entry} → Low r → step z s r ≡ taken s' e
    → turn z (beside s) r ≡ taken (beside s') (note_first e)
turns-taken z s r l q = single-turn z s r l ∙ ap (turned (beside s) first false) q

-- ---- the end of a call

-- who rests has met its fate
fate-met : (t : ℕ) (v : Word) (q : Waiters) (l : Standing → List Standing) (x : Phase)
    → standing x ≢ Standing.Calling → fate_of t v q l x ≡ some (sight v q (l (look_of x)))
unfolding fate_of look_of standing
fate-met t v q l =
    by-seen (λ (x : Phase). standing x ≢ Standing.Calling → fate_of t v q l x ≡ some (sight v q (l (look_of x))))
    (λ h. refl) (λ h. refl) (λ h. refl) (λ k h. refl) (λ x e c h. absurd (h e))

ended : (z : Sizes) (s : State) (t : ℕ) (p : Plain)
    → Mid z s t (plain_sight p) → Sound p → standing (phase_of s t) ≢ Standing.Calling → Rest z s p
ended z s t p mid c h =
    record {
      kept = mid.kept;
      fits = mid.fits;
      rested = λ u. dec-both (ℕ_discrete u t) (λ q. rw q h) (mid.rest u);
      unfailed = mid.unfailed;
      seen =
          let m : some (sight (word_at s 0) s.queue (set (looks s.threads) t (look_of (phase_of s t))))
          ≡ some (plain_sight p)
          = sym (fate-met t (word_at s 0) s.queue (hole s t) (phase_of s t) h) ∙ mid.met in
          ap (sight (word_at s 0) s.queue) (sym (set-get_or (looks s.threads) t Standing.Idle)
          ∙ ap (set (looks s.threads) t) (looks-at s.threads t))
          ∙ cc;
      sound = c;
    }

-- ---- one row

pub data Stage (z : Sizes) (s : State) (p : Plain) : Type 0 where
  rest : Rest z s p → Stage z s p
  amid : (t : ℕ) → Mid z s t (plain_sight p) → Sound p → standing (phase_of s t) ≡ Standing.Calling → Stage z s p

stage-of : (z : Sizes) (s : State) (t : ℕ) (p : Plain) → Mid z s t (plain_sight p) → Sound p → Stage z s p
stage-of z s t p mid c = elim (calling? (standing (phase_of s t))) [
  | yes e ↦ amid t mid c e
  | no n ↦ rest (ended z s t p mid c n)
]

-- what the plain engine does meanwhile: nothing, or the call
abbrev Takes : Sizes → Plain → Row → Plain → Type 0
Takes z p r p' = ((eqb r.order 0 ≡ true) × (p ≡ p')) ⊎ ((eqb r.order 0 ≡ false) × (plain_step z p r ≡ taken p' tt))

abbrev Stepped : Sizes → Plain → Row → Outcome → Type 0
Stepped z p r (taken s e) = (p' : Plain) × Stage z s p' × Takes z p r p'
Stepped z p r (refused n) = Unit {0}

-- a row of order 0 by a thread that rests changes nothing, if it is taken: a sleeper's
abbrev Still : State → Outcome → Type 0
Still s (taken s' e) = s ≡ s'
Still s (refused n) = Unit {0}

still : (z : Sizes) (s : State) (r : Row)
    → r.order ≡ 0 → standing (phase_of s r.thread) ≢ Standing.Calling → Still s (step z s r)
unfolding step row_op perform obey op standing
still z s r o h =
    if-both (λ (x : Op). Still s (perform z s r.thread x)) (ltb r.thread z.threads)
    (λ e. rw o
    (by-seen
    (λ (x : Phase). standing x ≢ Standing.Calling → Still s (perform z s r.thread (op z.fan x)))
    (λ h. tt) (λ h. tt) (λ h. refl) (λ k h. tt) (λ x e c h. absurd (h e)) (phase_of s r.thread) h))
    (λ e. tt)

-- a call is refused to a thread that is in one
abbrev Refused : Outcome → Type 0
Refused (taken s e) = ⊥
Refused (refused n) = Unit {0}

busy : (z : Sizes) → InRange z → (s : State) (r : Row)
    → PlainOrder z r.order → standing (phase_of s r.thread) ≡ Standing.Calling → Refused (step z s r)
unfolding step row_op perform obey
busy z h s r k c =
    if-both (λ (x : Op). Refused (perform z s r.thread x)) (ltb r.thread z.threads)
    (λ e. orders (decode z r.order) (decode_call z r.order h k)) (λ e. tt)
  where
    orders : (d : Option Order) → IsCall d → Refused (perform z s r.thread (obey z.fan (phase_of s r.thread) d))
    orders none g = absurd g
    orders (some go_on) g = absurd g
    orders (some upgrade) g = absurd g
    orders (some downgrade) g = absurd g
    orders (some (book e)) g = absurd g
    orders (some write_lock) g = rw c tt
    orders (some unlock) g = rw c tt
    orders (some (read_lock k)) g = rw c tt

module _ (z : Sizes) where
  -- a row of a thread that rests, while all rest
  at_rest : (s : State) (p : Plain) (r : Row) → TakesOrder z r → Rest z s p → Stepped z p r (step z s r)
  at_rest s p r o h = from (eqb r.order 0) refl
    where
      sits : eqb r.order 0 ≡ true → (o : Outcome) → Still s o → Stepped z p r o
      sits e (taken s' k) q = (p, subst (λ (x : State). Stage z x p) q (rest h), inl (e, refl))
      sits e (refused k) q = tt

      starts : eqb r.order 0 ≡ false
          → (o : Outcome) (c : PlainOutcome) → plain_step z p r ≡ c → Begun z r.thread o c → Stepped z p r o
      starts e (taken s' k) (taken p' tt) q b = (p', stage-of z s' r.thread p' b.0 b.1, inr (e, q))
      starts e (taken s' k) (refused n) q b = absurd b
      starts e (refused n) c q b = tt

      from : (b : Bool) → eqb r.order 0 ≡ b → Stepped z p r (step z s r)
      from true e = sits e (step z s r) (still z s r (eqb-true r.order 0 e) (h.rested r.thread))
      from false e = starts e (step z s r) (plain_step z p r) refl
          (begins z s p h r (takes-call z r (eqb-false r.order 0 e) o))

  -- a row of the thread that is in a call
  in-call : (s : State) (p : Plain) (r : Row) (t : ℕ)
      → TakesOrder z r → Mid z s t (plain_sight p) → Sound p → standing (phase_of s t) ≡ Standing.Calling → r.thread ≡ t
      → Stepped z p r (step z s r)
  in-call s p r t o mid c k i = from (eqb r.order 0) refl (step z s r) refl
    where
      from : (b : Bool) → eqb r.order 0 ≡ b → (o : Outcome) → step z s r ≡ o → Stepped z p r o
      from b e (refused n) q = tt
      from true e (taken s' y) q =
          let j : r ≡ row t 0 = ap₂ (λ (a b : ℕ). record { thread = a; order = b }) i (eqb-true r.order 0 e) in
          (p, stage-of z s' t p (moves z s t (plain_sight p) mid s' y (rw j at q)) c, inl (e, refl))
      from false e (taken s' y) q =
          absurd (subst Refused q
          (busy z mid.kept.inv.sizes s r (takes-call z r (eqb-false r.order 0 e) o)
          (ap (λ (x : ℕ). standing (phase_of s x)) i ∙ k)))

  any-row : (s : State) (p : Plain) (r : Row)
      → TakesOrder z r → Stage z s p → OthersRest s r.thread → Stepped z p r (step z s r)
  any-row s p r o (rest h) w = at_rest s p r o h
  any-row s p r o (amid t mid c k) w = elim (ℕ_discrete r.thread t) [
    | yes q ↦ in-call s p r t o mid c k q
    | no q ↦ absurd (w t (λ e. q (sym e)) k)
  ]

  -- ---- all rows

  -- the tree takes the schedule, with its second lock left fresh, the plain engine its n calls
  pub record Agreed (n : ℕ) (x : ResultOf Pair Note) (r : PlainResult) : Type 0 where
    pub whole : x.answer ≡ 0
    pub second : x.state.two ≡ fresh
    pub answer : r.answer ≡ 0
    pub taken : r.taken ≡ n
    pub rest : Rest z x.state.one r.state

  pub whole : InRange z → (rs : List Row) (s : State) (p : Plain) → Stage z s p → Whole z (beside s) rs
      → Agreed (length (calls rs)) (run z (beside s) rs) (plain_run z p (calls rs))
  unfolding Whole run runs plain_run
  whole range [] s p (rest h) w = record { whole = refl; second = refl; answer = refl; taken = refl; rest = h }
  whole range [] s p (amid t mid c k) w = absurd (w t k)
  whole range (r ∷ rs) s p h w =
      let e = single-turn z s r (takes_low z range r w.0) in
      rw e (from (step z s r) (any-row s p r w.0 h w.1) (rw e at w.2) (whole range rs))
    where
      from : (o : Outcome) → Stepped z p r o → IfTaken (λ s'. Whole z s' rs) (turned (beside s) first false o)
          → ((s' : State) (p' : Plain) → Stage z s' p'
          → Whole z (beside s') rs → Agreed (length (calls rs)) (run z (beside s') rs) (plain_run z p' (calls rs)))
          → Agreed (length (if eqb r.order 0 then calls rs else r ∷ calls rs))
          (follow (beside s) (λ s'. run z s' rs) (turned (beside s) first false o))
          (plain_run z p (if eqb r.order 0 then calls rs else r ∷ calls rs))
      from (taken s' e) (p', st, inl (k, q)) w f =
          let a = f s' p' st w in
          rw (k, q)
          (record { whole = a.whole; second = a.second; answer = a.answer; taken = a.taken; rest = a.rest })
      from (taken s' e) (p', st, inr (k, q)) w f =
          let a = f s' p' st w in
          rw (k, q)
          (record {
            whole = a.whole;
            second = a.second;
            answer = a.answer;
            taken = ap suc a.taken;
            rest = a.rest;
          })
      from (refused n) h w f = absurd w

  -- ---- the next call

  pub answers : (s : State) (p : Plain) (r : Row) → Rest z s p → PlainOrder z r.order
      → (run z (beside s) (r ∷ [])).answer ≡ (plain_run z p (r ∷ [])).answer
  unfolding run runs plain_run
  answers s p r h k =
      rw (single-turn z s r (takes_low z h.kept.inv.sizes r (inr k)))
      (from (step z s r) (plain_step z p r) (begins z s p h r k))
    where
      from : (o : Outcome) (c : PlainOutcome) → Begun z r.thread o c
          → (follow (beside s) (λ s'. run z s' []) (turned (beside s) first false o)).answer
          ≡ (follow p (λ p'. plain_run z p' []) c).answer
      from (taken s' e) (taken p' tt) b = refl
      from (taken s' e) (refused k) b = absurd b
      from (refused k) (taken p' tt) b = absurd b
      from (refused k) (refused j) b = b

  -- ---- every other order

  pub others-refused : (p : Plain) (r : Row)
      → r.thread < z.threads → (PlainOrder z r.order → ⊥) → plain_step z p r ≡ refused 6
  unfolding plain_step
  others-refused p r h n =
      rw (lt-ltb r.thread z.threads h)
      (not-a-call p _ _ (decode z r.order) (λ g. n (call-order z r.order g)))

  -- ---- every call ends

  abbrev Spelled : State → List Row → Type 0
  Spelled s cs = (rs : List Row) × (calls rs ≡ cs) × Whole z (beside s) rs

  -- t is the one in a call, so the rows that lead to a state at rest (`progress`) are its own
  finish : {s s' : State} {rs : List Row} (t : ℕ) (p : Plain) (cs : List Row) → Leads z (AnyRow false) s rs s'
      → Resting s' → Mid z s t (plain_sight p) → Sound p → ((s'' : State) → Rest z s'' p → Spelled s'' cs) → Spelled s cs
  unfolding Whole
  finish {s} t p cs here h mid c f = f s (ended z s t p mid c (h t))
  finish t p cs (on (unlocks u i n) q l) h mid c f = not-both false i refl
  finish {s} t p cs (on {s' = s'} {e} (goes_on u k) q l) h mid c f =
      let d : u ≡ t = dec-both (ℕ_discrete u t) (λ d. d) (λ n. absurd (mid.rest u n k)) in
      let (rs, i, w) = finish t p cs l h (moves z s t (plain_sight p) mid s' e (rw d at q)) c f in (
        row u 0 ∷ rs,
        i,
        (inl refl, rw d mid.rest, rw (turns-taken z s (row u 0) (omega arith) q) w),
      )

  -- what the plain engine does not take, it refuses with a number of a row
  abbrev Denies : Row → PlainOutcome → Type 0
  Denies r (taken p tt) = PlainOrder z r.order
  Denies r (refused n) = OfRow n

  denies : (p : Plain) (r : Row) → Denies r (plain_step z p r)
  unfolding plain_step
  denies p r =
      if-both (Denies r) (ltb r.thread z.threads)
      (λ e. orders _ (decode z r.order) (call-order z r.order)) (λ e. omega arith)
    where
      idles : PlainOrder z r.order → (p' : Plain) (x : Standing) → Denies r (if_idle p' x)
      idles n p' Standing.Idle = n
      idles n p' (Standing.Reading k) = omega arith
      idles n p' Standing.Writing = omega arith
      idles n p' Standing.Calling = omega arith
      idles n p' Standing.Asleep = omega arith

      holds : PlainOrder z r.order → (x : Standing) → Denies r (if_holding p r.thread x)
      holds n Standing.Idle = omega arith
      holds n (Standing.Reading k) = n
      holds n Standing.Writing = n
      holds n Standing.Calling = omega arith
      holds n Standing.Asleep = omega arith

      orders : (x : Standing) (d : Option Order) → (IsCall d → PlainOrder z r.order)
          → Denies r (ordered p r.thread x d)
      orders x none n = omega arith
      orders x (some go_on) n = omega arith
      orders x (some write_lock) n = idles (n tt) _ x
      orders x (some unlock) n = holds (n tt) x
      orders x (some upgrade) n = omega arith
      orders x (some downgrade) n = omega arith
      orders x (some (read_lock k)) n = idles (n tt) _ x
      orders x (some (book e)) n = omega arith

  pub every : (cs : List Row) (s : State) (p : Plain) → Rest z s p → (plain_run z p cs).answer ≡ 0 → Spelled s cs
  unfolding Whole plain_run runs
  every [] s p h a = ([], refl, h.rested)
  every (r ∷ cs) s p h a = from (plain_step z p r) refl (denies p r) a (every cs)
    where
      begun : (p' : Plain) → PlainOrder z r.order → (plain_run z p' cs).answer ≡ 0
          → ((s : State) (p : Plain) → Rest z s p → (plain_run z p cs).answer ≡ 0 → Spelled s cs)
          → (o : Outcome) → step z s r ≡ o → Begun z r.thread o (taken p' tt) → Spelled s (r ∷ cs)
      begun p' n a f (taken s' e) q b =
          let k = comes-to-rest z s' b.0.kept in
          let (rs, i, w) = finish r.thread p' cs k.leads k.holds.1 b.0 b.1 (λ s'' j. f s'' p' j a) in (
            r ∷ rs,
            rw (ne_eqb r.order 0 (not-zero z r.order n)) (ap (λ (x : List Row). r ∷ x) i),
            (
              inr n,
              λ u d. h.rested u,
              rw (turns-taken z s r (takes_low z h.kept.inv.sizes r (inr n)) q) w,
            ),
          )
      begun p' n a f (refused k) q b = absurd b

      from : (c : PlainOutcome) → plain_step z p r ≡ c → Denies r c → (follow p (λ p'. plain_run z p' cs) c).answer ≡ 0
          → ((s : State) (p : Plain) → Rest z s p → (plain_run z p cs).answer ≡ 0 → Spelled s cs) → Spelled s (r ∷ cs)
      from (taken p' tt) q n a f =
          begun p' n a f (step z s r) refl (subst (Begun z r.thread (step z s r)) q (begins z s p h r n))
      from (refused k) q n a f = absurd (omega arith)

-- ---- the claim

pub fresh-rest : (z : Sizes) → InRange z → Rest z fresh plain_fresh
unfolding Fits memory look_of standing lock.run runs
fresh-rest z h =
    record {
      kept = kept-after z h [];
      fits = λ u. rw (idle-at 64 u) tt;
      rested = λ u. rw (idle-at 64 u) (λ e. clash cc);
      unfailed = λ u. rw (idle-at 64 u);
      seen = refl;
      sound = record { counted = refl; bare = λ u. rw (idle-at 64 u) };
    }

pub equals : Equals
equals z h =
    record {
      same =
          λ rs w. let a = agreed rs w in (
            a.whole,
            a.second,
            a.answer,
            a.taken,
            same_of z _ _ a.rest,
            subst (λ (x : State). AlikeSheets z (record { one = (run z fresh_pair rs).state.one; two = x })
                (plain_run z plain_fresh (calls rs)).state) (sym a.second) (alike_of z _ _ a.rest),
          );
      next =
          λ rs w r k. let a = agreed rs w in
          subst (λ (x : State). (run z (record { one = (run z fresh_pair rs).state.one; two = x }) (r ∷ [])).answer
          ≡ (plain_run z (plain_run z plain_fresh (calls rs)).state (r ∷ [])).answer) (sym a.second)
          (answers z _ _ r a.rest k);
      others = others-refused z;
      ends = λ cs a. every z cs fresh plain_fresh (fresh-rest z h) a;
    }
  where
    agreed : (rs : List Row) → Whole z fresh_pair rs
        → Agreed z (length (calls rs)) (run z fresh_pair rs) (plain_run z plain_fresh (calls rs))
    agreed rs w = whole z h rs fresh plain_fresh (rest (fresh-rest z h)) w
