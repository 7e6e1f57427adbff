-- Turn by turn: the rows made so far are taken by the bench, and lead to the site's state.
use Prim.{tt}
use Rattle.lock.proofs.Library.{ℕ, zero, suc, ◌+◌, ◌≤◌, ◌≡◌, refl, ap, subst, ◌∙◌, Bool, true, false, ◌&&◌, List, []}
use Rattle.lock.proofs.Library.{◌∷◌, ◌++◌, append-nil}
use Rattle.lock.proofs.Library.{append_assoc, arith, length, length-append, get_or, set, set_out, get_or-set_same}
use Rattle.lock.proofs.Library.{get_or-set_other}
use Rattle.lock.proofs.Library.{replicate, ℕ_discrete, dec_lt, eqb, eq-eqb, leb}
use Rattle.lock.proofs.Choice.{if-both}
use Rattle.lock.proofs.Machine.{run_more}
use Rattle.lock.proofs.Memory.{memory, Fits}
use Rattle.lock.proofs.Row.{recalls, Moved, Fine}
use Rattle.lock.proofs.Row as row
use Rattle.lock.proofs.Demand.{idle-at, counted-all}
use Rattle.lock.specs.Demand.{one}
use Rattle.laws.proofs.Cases.{dec-both}
use Rattle.std.specs.Prelude.{if◌then◌else◌}
use Rattle.laws.proofs.Lock.{Entry, Sizes, State, fresh, thread_at, Outcome, taken, refused, Row, step, run, runs}
use Rattle.laws.proofs.Lock.{InRange}
use Rattle.site_model.specs.Site as site
use Rattle.site_model.specs.Site.{Site, Going, Due, passing, pausing, getting, Went, on, stopped, is_over}
use Rattle.site_model.specs.Site.{makes, begins, finished, measures, begun, due, row_of, act, at_turn, measured}
use Rattle.site_model.specs.Claims.{given, left, rows_on, rows_made, Replays}

pub zero-at : (n u : ℕ) → ◌≡◌ {A = ℕ} (get_or (replicate n 0) u 0) 0
zero-at zero u = refl
zero-at (suc n) zero = refl
zero-at (suc n) (suc u) = zero-at n u

and-true : (b : Bool) → one (b && true) ≡ one b
and-true true = refl
and-true false = refl

-- the calls that are over leave state, rows and failures as they are
record Same (g h : Going) : Type 0 where
  state : h.state ≡ g.state
  row : h.row ≡ g.row
  failed : h.failed ≡ g.failed

finished-same : (hold think n : ℕ) (g : Going) → Same g (finished hold think n g)
unfolding finished
finished-same hold think zero g = record { state = refl; row = refl; failed = refl }
finished-same hold think (suc u) g =
    let h = finished hold think u g in
    let s = finished-same hold think u g in
    if-both (Same g) (is_over h u)
    (λ e. record { state = s.state; row = s.row; failed = s.failed }) (λ e. s)

module _ (x : Site) (range : InRange x.sizes) where
  abbrev z : Sizes
  z = x.sizes

  record Sofar (g : Going) (rs : List Row) : Type 0 where
    all : (run z fresh rs).taken ≡ length rs
    state : (run z fresh rs).state ≡ g.state
    rows : g.row ≡ length rs
    failed : (t : ℕ) → get_or g.failed t 0 ≤ (thread_at g.state t).failures
    long : length g.state.threads ≡ 64
    fits : (u : ℕ) → Fits z.fan (recalls g.state u)

  same-sofar : {g h : Going} {rs : List Row} → Same g h → Sofar g rs → Sofar h rs
  same-sofar s a =
      record {
        all = a.all;
        state = rw s.state a.state;
        rows = s.row ∙ a.rows;
        failed = λ t. rw (s.state, s.failed) (a.failed t);
        long = rw s.state a.long;
        fits = rw s.state a.fits;
      }

  begun-sofar : Sofar (begun x) []
  unfolding run runs Fits memory
  begun-sofar =
      record {
        all = refl;
        state = refl;
        rows = refl;
        failed = λ t. rw (zero-at 64 t) (omega arith);
        long = refl;
        fits = λ u. rw (idle-at 64 u) tt;
      }

  measures-sofar : {g : Going} {rs : List Row} → Sofar g rs → Sofar (measures g) rs
  measures-sofar a =
      record {
        all = a.all;
        state = a.state;
        rows = a.rows;
        failed = λ t. rw (zero-at 64 t) (omega arith);
        long = a.long;
        fits = a.fits;
      }

  if-measures : (b : Bool) {g : Going} {rs : List Row} → Sofar g rs → Sofar (if b then measures g else g) rs
  if-measures b {g} {rs} a = if-both (λ h. Sofar h rs) b (λ e. measures-sofar a) (λ e. a)

  -- ---- a row

  module _ {g : Going} {rs : List Row} (a : Sofar g rs) (t o : ℕ) where
    abbrev r : Row
    r = record { thread = t; order = o }

    module _ (s' : State) (e : Entry) (q : step z g.state r ≡ taken s' e) where
      moved : Moved z.fan g.state s' r e
      moved = subst (Fine z.fan g.state r) q
          (row.steps z g.state r (omega (arith, a.long, range.threads)) a.fits)

      own-failed : (u : ℕ) → u ≡ t → get_or (set g.failed t (get_or g.failed t 0 + one (eqb e.kind 3))) u 0
          ≤ (thread_at s' u).failures
      own-failed u i =
          let now : (thread_at s' t).failures ≡ (thread_at g.state t).failures + one (eqb e.kind 3)
          = moved.fails t ∙ rw (eq-eqb t t refl) (ap (λ (n : ℕ). (thread_at g.state t).failures + n)
          (and-true (eqb e.kind 3))) in
          rw i (dec-both (dec_lt t (length g.failed))
          (λ k. rw (get_or-set_same g.failed t _ 0 k) (omega (arith, a.failed t, now)))
          (λ k. rw (set_out g.failed t _ (omega arith)) (omega (arith, a.failed t, now))))

      makes-sofar : Sofar (makes t s' e g) (rs ++ r ∷ [])
      unfolding run
      makes-sofar =
          let more = run_more (step z) fresh rs r {t = s'} {y = e} a.all (rw a.state q) in
          record {
            all = more.0;
            state = more.1;
            rows = simp length-append (omega (arith, a.rows));
            failed = λ u. elim (ℕ_discrete u t) [
              | yes i ↦ own-failed u i
              | no i ↦ rw (get_or-set_other g.failed t u _ 0 i) (omega (arith, a.failed u, moved.fails u))
            ];
            long = moved.len ∙ a.long;
            fits = moved.fit;
          }

      begins-sofar : Sofar (if eqb o 0 then makes t s' e g else begins x.threads t o (makes t s' e g)) (rs ++ r ∷ [])
      begins-sofar =
          let m = makes-sofar in
          if-both (λ h. Sofar h (rs ++ r ∷ [])) (eqb o 0) (λ i. m)
          (λ i. record {
            all = m.all;
            state = m.state;
            rows = m.rows;
            failed = m.failed;
            long = m.long;
            fits = m.fits;
          })

  -- ---- a turn

  -- the rows of a turn that is for d, after its outcome
  abbrev After : List Row → ℕ → Due → Went → Type 0
  After rs t d (on g) = Sofar g (rs ++ given t d)
  After rs t d (stopped n g) = Sofar g rs

  acts : {g : Going} {rs : List Row} → Sofar g rs → (t : ℕ) (d : Due) → After rs t d (act x t g d)
  acts {g} {rs} a t passing =
      rw (append-nil rs) (same-sofar (record { state = refl; row = refl; failed = refl }) a)
  acts {g} {rs} a t pausing =
      rw (append-nil rs) (same-sofar (record { state = refl; row = refl; failed = refl }) a)
  acts {g} {rs} a t (getting o) = from (step z g.state (record { thread = t; order = o })) refl
    where
      from : (y : Outcome) → step z g.state (record { thread = t; order = o }) ≡ y
          → After rs t (getting o) (row_of x t o g y)
      from (refused n) q = a
      from (taken s' e) q =
          same-sofar (finished-same x.hold x.think z.threads _) (begins-sofar a t o s' e q)

  turn-acts : {g : Going} {rs : List Row} → Sofar g rs → (t : ℕ) → After rs t (due x t g) (at_turn x t g)
  unfolding at_turn
  turn-acts {g} a t = acts a t (due x t g)

  -- ---- all turns

  from-turn : (rs : List Row) (t n : ℕ) (d : Due) (ts : List ℕ) (w : Went) → After rs t d w
      → ((g : Going) → Sofar g (rs ++ given t d)
      → Sofar (left (site.run x (suc n) ts g)) ((rs ++ given t d) ++ rows_made x (suc n) ts g))
      → Sofar (left (site.further (λ h. site.run x (suc n) ts h) (measured x n) w))
      (rs ++ rows_on (λ g'. given t d ++ rows_made x (suc n) ts g') w)
  from-turn rs t n d ts (on g) a rest =
      rw (← append_assoc rs (given t d) (rows_made x (suc n) ts g)) (rest g a)
  from-turn rs t n d ts (stopped k g) a rest = rw (append-nil rs) (if-measures (leb n x.warm) a)

  replayed : (n : ℕ) (ts : List ℕ) (g : Going) (rs : List Row) → Sofar g rs
      → Sofar (left (site.run x n ts g)) (rs ++ rows_made x n ts g)
  unfolding site.run rows_made
  replayed n [] g rs a = rw (append-nil rs) (if-measures (leb n x.warm) a)
  replayed n (t ∷ ts) g rs a =
      let h = if eqb n x.warm then measures g else g in
      from-turn rs t n (due x t h) ts (at_turn x t h) (turn-acts (if-measures (eqb n x.warm) a) t)
      (λ g' b. replayed (suc n) ts g' (rs ++ given t (due x t h)) b)

pub replays : (x : Site) → InRange x.sizes → (ts : List ℕ) → Replays x ts
unfolding site.run rows_made
replays x range ts =
    let a = replayed x range 0 ts (begun x) [] (begun-sofar x range) in
    record {
      taken = a.all;
      state = a.state;
      rows = a.rows;
      failed = λ t l. a.failed t;
      counted = rw (← a.state) (counted-all x.sizes range (rows_made x 0 ts (begun x)));
    }
