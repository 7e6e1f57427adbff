-- The late arrival: in every run from the fresh lock a read-lock that succeeds by the tree is in time.
use Rattle.laws.proofs.Lock.{ℕ, suc, ◌≤◌, ◌<◌, ◌≡◌, refl, sym, subst, ap, ◌∙◌, ◌⊎◌, inl, inr, ◌≢◌, Bool, true}
use Rattle.laws.proofs.Lock.{false, List, le_refl, arith, ℕ_discrete, dec_lt, get_or, not-both, state_at, row_at}
use Rattle.laws.proofs.Lock.{entry_at, root_at, Closes, LookOf, LastLook, ClosedSince, Late, InTime, Word, opened}
use Rattle.laws.proofs.Lock.{is_closed, total, call_begun, Sizes, State, fresh, word_at, Row, run, InRange}
use Rattle.laws.proofs.Lock.{dec-both}
use Rattle.laws.proofs.Facts.{up_root}
use Rattle.laws.proofs.Seen.{Stage, apart, looking, climbing, after}
use Rattle.laws.proofs.Stage.{stage_at, stays, drops, fails, Other, passes, enters, succeeds, reads, others}
use Rattle.laws.proofs.Stage.{no-look, Shut, inv_at, told, RowOf, acts, starts, goes_on, waits, row_of, kept_from}

module _ (z : Sizes) (range : InRange z) (rs : List Row) where
  abbrev S : ℕ → State
  S i = state_at z rs i

  abbrev last_row : ℕ
  last_row = (run z fresh rs).taken

  -- ---- closing steps

  closes-dec : (i : ℕ) → Dec (Closes z rs i)
  closes-dec i =
      from (is_closed (root_at z rs (suc i))) refl (is_closed (root_at z rs i)) refl (ℕ_discrete (entry_at z rs i).kind 5)
    where
      from : (a : Bool) → is_closed (root_at z rs (suc i)) ≡ a
          → (b : Bool) → is_closed (root_at z rs i) ≡ b → Dec ((entry_at z rs i).kind ≡ 5) → Dec (Closes z rs i)
      from false p b q d = no (λ c. not-both _ c.shut p)
      from true p false q d = yes (record { shut = p; how = inl q })
      from true p true q (yes d) = yes (record { shut = p; how = inr d })
      from true p true q (no d) = no (λ c. elim c.how [ inl x ↦ not-both _ q x | inr x ↦ d x ])

  since-on : (j i : ℕ) → ClosedSince z rs j i
      → (Closes z rs i → ⊥) → 0 < total (root_at z rs (suc i)) → ClosedSince z rs j (suc i)
  since-on j i h n c =
      record {
        before = omega (arith, h.before);
        closes = h.closes;
        latest =
            λ k a b. dec-both (ℕ_discrete k i) (λ e. subst (λ (x : ℕ). Closes z rs x → ⊥) (sym e) n)
            (λ e. h.latest k a (omega arith));
        above =
            λ k a b. dec-both (ℕ_discrete k (suc i)) (λ e. subst (λ (x : ℕ). 0 < total (root_at z rs x)) (sym e) c)
            (λ e. h.above k a (omega arith));
      }

  -- ---- what is known of a thread past its last look: the root is open, or its count is 0, or it closed after that
  -- look

  data Fares (look i : ℕ) : Type 0 where
    wide : is_closed (root_at z rs i) ≡ false → Fares look i
    spent : total (root_at z rs i) ≡ 0 → Fares look i
    since : (closing : ℕ) → look < closing → ClosedSince z rs closing i → Fares look i

  fares-on : (look i : ℕ) → look < i → i < last_row → Fares look i → Fares look (suc i)
  fares-on look i lt l h =
      from (is_closed (root_at z rs (suc i))) refl (dec_lt 0 (total (root_at z rs (suc i)))) (closes-dec i)
    where
      earlier : (Closes z rs i → ⊥)
          → 0 < total (root_at z rs (suc i)) → Shut (root_at z rs i) → Fares look i → Fares look (suc i)
      earlier n c x (wide y) = not-both _ x.0 y
      earlier n c x (spent y) = absurd (omega (arith, x.1))
      earlier n c x (since j a b) = since j a (since-on j i b n c)

      from : (o : Bool) → is_closed (root_at z rs (suc i)) ≡ o
          → Dec (0 < total (root_at z rs (suc i))) → Dec (Closes z rs i) → Fares look (suc i)
      from false p c d = wide p
      from true p (no c) d = spent (omega arith)
      from true p (yes c) (yes d) =
          since i lt (
          record {
            before = le_refl (suc i);
            closes = d;
            latest = λ k a b. absurd (omega arith);
            above = λ k a b. let e : suc i ≡ k = omega arith in subst (λ (x : ℕ). 0 < total (root_at z rs x)) e c;
          }
          )
      from true p (yes c) (no d) =
          elim ((told z range rs i l).written.shuts (p, c)) [
            | inl x ↦ earlier d c x h
            | inr x ↦ absurd (d (record { shut = p; how = x }))
          ]

  -- ---- a call that thread t began in row b

  module _ (t b : ℕ) where
    record Past (i : ℕ) : Type 0 where
      look : ℕ
      last : LastLook z rs t b i look
      fares : Fares look i

    -- what is known of t in state i, by its stage
    abbrev Here : ℕ → Stage → Type 0
    Here i apart = Unit {0}
    Here i (looking n) = Unit {0}
    Here i (climbing n) = Past i
    Here i (after n) = Unit {0}

    -- it stays there, and row i is no look of it
    stay : (i : ℕ) → i < last_row → (LookOf z rs t i → ⊥) → Past i → Past (suc i)
    stay i l f h =
        record {
          look = h.look;
          last =
              record {
                begun = h.last.begun;
                before = omega (arith, h.last.before);
                is = h.last.is;
                last =
                    λ k a b. dec-both (ℕ_discrete k i) (λ e. subst (λ (x : ℕ). LookOf z rs t x → ⊥) (sym e) f)
                    (λ e. h.last.last k a (omega arith));
              };
          fares = fares-on h.look i h.last.before l h.fares;
        }

    stay-if : (i : ℕ) (x : Stage)
        → i < last_row → ((n : ℕ) → x ≡ climbing n → LookOf z rs t i → ⊥) → Here i x → Here (suc i) x
    stay-if i apart l f h = tt
    stay-if i (looking n) l f h = tt
    stay-if i (climbing n) l f h = stay i l (f n refl) h
    stay-if i (after n) l f h = tt

    next : (i : ℕ) (x y : Stage)
        → b < i → i < last_row → stage_at (S i) t ≡ x → RowOf z range rs t i x y → Here i x → Here (suc i) y
    next i x y bl l q (acts by (starts e (reads n o) w)) h = tt
    next i x y bl l q (acts by (starts e (others o) w)) h = tt
    next i x y bl l q (acts by (goes_on e (passes f (stays g)))) h =
        stay-if i g l (λ n k o. no-look _ _ n o.looks (subst (λ (u : ℕ). stage_at (S i) u ≡ g) (sym by) q ∙ k)) h
    next i x y bl l q (acts by (goes_on e (passes f (drops n)))) h = tt
    next i x y bl l q (acts by (goes_on e (passes f (fails n)))) h = tt
    next i x y bl l q (acts by (goes_on e (enters n k o f))) h =
        record {
          look = i;
          last = record {
            begun = bl;
            before = le_refl (suc i);
            is = record { by = by; looks = k };
            last = λ j a b. absurd (omega arith);
          };
          fares = wide o;
        }
    next i x y bl l q (acts by (goes_on e (succeeds n pos r))) h = tt
    next i x y bl l q (waits a e) h = stay-if i a l (λ n k o. e o.by) h

    module _ (by : (row_at z rs b).thread ≡ t) (begins : entry_at z rs b ≡ call_begun) where
      begun : (x y : Stage) → RowOf z range rs t b x y → Here (suc b) y
      begun x y (acts by' (starts e (reads n o) w)) = tt
      begun x y (acts by' (starts e (others o) w)) = tt
      begun x y (acts by' (goes_on e f)) = absurd (e begins)
      begun x y (waits a e) = absurd (e by)

      here : (i : ℕ) → b < i → i ≤ last_row → Here i (stage_at (S i) t)
      here i bl l = kept_from z range rs t (suc b) Here (begun _ _ (row_of z range rs t b (omega arith))) next i bl l

    -- row i raises the count of node n: t is in the tree, and row i leaves the root as it is
    raises : (n i : ℕ) → i < last_row → (row_at z rs i).thread ≡ t
        → 0 < n → (word_at (S i) n).tree < (word_at (S (suc i)) n).tree → Here i (stage_at (S i) t)
        → (is_closed (root_at z rs i) ≡ false) ⊎ Late z rs t b i
    raises n i l e pos up h = from _ _ (row_of z range rs t i l) h
      where
        k : (root_at z rs (suc i) ≡ root_at z rs i) × ((entry_at z rs i).kind ≢ 5)
        k = (told z range rs i l).written.raised n pos up

        -- the count of node n shows at the root
        above : 0 < total (root_at z rs (suc i))
        above = omega (
          arith,
          (inv_at z range rs (suc i)).counts 0,
          up_root z (S (suc i)) (inv_at z range rs (suc i)) n n (le_refl n) pos (omega arith),
        )

        no-close : is_closed (root_at z rs i) ≡ true → Closes z rs i → ⊥
        no-close q c = elim c.how [ inl x ↦ not-both _ q x | inr x ↦ k.1 x ]

        late : (look : ℕ) → LastLook z rs t b i look → (o : Bool)
            → is_closed (root_at z rs i) ≡ o → Fares look i → (is_closed (root_at z rs i) ≡ false) ⊎ Late z rs t b i
        late look a false q f = inl q
        late look a true q (wide x) = inl x
        late look a true q (spent x) = absurd (omega (arith, above, ap total k.0))
        late look a true q (since j c d) =
            inr (record { look = look; closing = j; last = a; after = c; since = since-on j i d (no-close q) above })

        tree : (x : Stage) → Other x n → Here i x → (is_closed (root_at z rs i) ≡ false) ⊎ Late z rs t b i
        tree apart o h = absurd o
        tree (looking m) o h = absurd o
        tree (climbing m) o h = late h.look h.last (is_closed (root_at z rs i)) refl h.fares
        tree (after m) o h = absurd o

        from : (x y : Stage)
            → RowOf z range rs t i x y → Here i x → (is_closed (root_at z rs i) ≡ false) ⊎ Late z rs t b i
        from x y (acts by (starts q g w)) h =
            absurd (omega (arith, up, ap (λ (ws : List Word). (get_or ws n (opened 0 0)).tree) w))
        from x y (acts by (goes_on q (passes f g))) h = tree x (f n pos up) h
        from x y (acts by (goes_on q (enters m v o f))) h = absurd (f n pos up)
        from x y (acts by (goes_on q (succeeds m p r))) h =
            late h.look h.last (is_closed (root_at z rs i)) refl h.fares
        from x y (waits a q) h = absurd (q e)

pub in-time : (z : Sizes) → InRange z → (rs : List Row) → InTime z rs
in-time z range rs t n b i l x =
    let c = x.call in
    raises z range rs t b n i l
    x.by x.tree x.raises (here z range rs t b c.by c.begins i c.before (omega arith))
