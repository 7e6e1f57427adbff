-- The path from a node up to the root, by the fan-out F.
use Rattle.lock.proofs.Library.{ℕ, zero, suc, ◌-◌, ◌≤◌, ◌<◌, zero-le, ◌≡◌, refl, sym, subst, ap, ◌∙◌, ◌⊎◌, inl}
use Rattle.lock.proofs.Library.{inr, ◌≢◌, div-le_self, le_refl, arith, ℕ_discrete, dec_lt, leb, leb-true}
use Rattle.lock.proofs.{Library.leb-false, Choice.if-both}
use Rattle.std.specs.Prelude.{if◌then◌else◌}
use Rattle.lock.specs.{Tree.{parent, toward, toward_in}}

pub parent-lt : (F n : ℕ) → 0 < n → parent F n < n
parent-lt F n h = omega (arith, div-le_self (n - 1) F)

pub parent-le : (F n : ℕ) → parent F n ≤ n
parent-le F n = omega (arith, div-le_self (n - 1) F)

-- w is on the path from n, strictly below c; k is at least n
abbrev pub Below : ℕ → ℕ → ℕ → ℕ → ℕ → Type 0
Below zero F n c w = ⊥
Below (suc k) F n c w = (c < n) × ((w ≡ n) ⊎ Below k F (parent F n) c w)

pub below-dec : (k F n c w : ℕ) → Dec (Below k F n c w)
below-dec zero F n c w = no (λ x. x)
below-dec (suc k) F n c w = here (dec_lt c n) (ℕ_discrete w n) (below-dec k F (parent F n) c w)
  where
    here : Dec (c < n) → Dec (w ≡ n) → Dec (Below k F (parent F n) c w) → Dec (Below (suc k) F n c w)
    here (no a) y z = no (λ x. a x.0)
    here (yes a) (yes b) z = yes (a, inl b)
    here (yes a) (no b) (yes d) = yes (a, inr d)
    here (yes a) (no b) (no d) = no (λ x. elim x.1 [ inl e ↦ b e | inr e ↦ d e ])

pub below_top : (k F n c w : ℕ) → Below k F n c w → c < n
below_top zero F n c w x = absurd x
below_top (suc k) F n c w x = x.0

pub below-lt : (k F n c w : ℕ) → Below k F n c w → c < w
below-lt zero F n c w x = absurd x
below-lt (suc k) F n c w (h, inl e) = omega arith
below-lt (suc k) F n c w (h, inr b) = below-lt k F (parent F n) c w b

pub below-le : (k F n c w : ℕ) → Below k F n c w → w ≤ n
below-le zero F n c w x = absurd x
below-le (suc k) F n c w (h, inl e) = omega arith
below-le (suc k) F n c w (h, inr b) = omega (arith, below-le k F (parent F n) c w b, parent-le F n)

pub below-mono : (k F n c d w : ℕ) → c ≤ d → Below k F n d w → Below k F n c w
below-mono zero F n c d w l x = x
below-mono (suc k) F n c d w l (h, inl e) = (omega arith, inl e)
below-mono (suc k) F n c d w l (h, inr b) = (omega arith, inr (below-mono k F (parent F n) c d w l b))

-- the node that `toward` gives is on the path
toward_in-below : (k F n c : ℕ) → n ≤ k → c < n → Below k F n c (toward_in k F n c)
unfolding toward_in
toward_in-below zero F n c l h = omega arith
toward_in-below (suc k) F n c l h =
    if-both (λ (x : ℕ). Below (suc k) F n c x) (leb (parent F n) c)
    (λ e. (h, inl refl))
    (λ e. (h, inr (toward_in-below k F (parent F n) c (omega (arith, parent-lt F n (omega arith))) (leb-false _ _ e))))

pub toward-below : (F n c : ℕ) → c < n → Below n F n c (toward F n c)
unfolding toward
toward-below F n c h = toward_in-below n F n c (omega arith) h

-- suc c is on the path. Climbing from it to its parent adds no node but itself
pub below-climb : (k F n c w : ℕ)
    → Below k F n c (suc c) → w ≢ suc c → Below k F n (parent F (suc c)) w → Below k F n (suc c) w
below-climb zero F n c w x ne y = y
below-climb (suc k) F n c w (h, inl e) ne (h', inl e') = absurd (ne (omega arith))
below-climb (suc k) F n c w (h, inl e) ne (h', inr b) =
    let l = below_top k F (parent F n) (parent F (suc c)) w b in
    let q = subst (λ (x : ℕ). parent F (suc c) < parent F x) (sym e) l in
    absurd (omega arith)
below-climb (suc k) F n c w (h, inr b) ne (h', inl e) =
    (omega (arith, below-le k F _ _ _ b, parent-lt F n (omega arith)), inl e)
below-climb (suc k) F n c w (h, inr b) ne (h', inr d) =
    (omega (arith, below-le k F _ _ _ b, parent-lt F n (omega arith)), inr (below-climb k F (parent F n) c w b ne d))

-- and its parent suc p is on the path too
pub below_up : (k F n c p : ℕ) → n ≤ k → parent F (suc c) ≡ suc p → Below k F n c (suc c) → Below k F n p (suc p)
below_up zero F n c p l q x = x
below_up (suc k) F n c p l q (h, inl e) =
    (omega (arith, parent-le F (suc c)), inr (top k (omega (arith, q', parent-lt F n (omega arith)))))
  where
    q' : parent F n ≡ suc p
    q' = subst (λ (x : ℕ). parent F x ≡ suc p) e q

    top : (j : ℕ) → suc p ≤ j → Below j F (parent F n) p (suc p)
    top zero h = omega arith
    top (suc j) h = (omega (arith, q'), inl (sym q'))
below_up (suc k) F n c p l q (h, inr b) = (
  omega (arith, parent-le F (suc c)),
  inr (below_up k F (parent F n) c p (omega (arith, parent-lt F n (omega arith))) q b),
)

-- c is on the path from n, or the root
abbrev pub On : ℕ → ℕ → ℕ → Type 0
On F n zero = Unit {0}
On F n (suc c) = Below n F n c (suc c)

pub on-start : (F n : ℕ) → On F n n
on-start F zero = tt
on-start F (suc n) = (omega arith, inl refl)

pub on-parent : (F n c : ℕ) → c ≢ 0 → On F n c → On F n (parent F c)
on-parent F n zero z x = absurd (z refl)
on-parent F n (suc c) z x = from (parent F (suc c)) refl
  where
    from : (p : ℕ) → parent F (suc c) ≡ p → On F n p
    from zero q = tt
    from (suc p) q = below_up n F n c p (omega arith) q x

pub on-climb : (F n c w : ℕ) → c ≢ 0 → On F n c → w ≢ c → Below n F n (parent F c) w → Below n F n c w
on-climb F n zero w z x ne b = absurd (z refl)
on-climb F n (suc c) w z x ne b = below-climb n F n c w x ne b

pub on-le : (F n c : ℕ) → On F n c → c ≤ n
on-le F n zero x = omega arith
on-le F n (suc c) x = below-le n F n c (suc c) x

-- ---- the climb as a recursion on the node number

-- from the root the climb stays there
at-root : (k F n c : ℕ) → n ≡ 0 → toward_in k F n c ≡ n
unfolding toward_in
at-root zero F n c e = refl
at-root (suc k) F n c e =
    if-both (λ (x : ℕ). x ≡ n) (leb (parent F n) c) (λ q. refl)
    (λ q. let h = leb-false (parent F n) c q in omega (arith, parent-le F n))

toward_in-enough : (j k F n c : ℕ) → n ≤ j → n ≤ k → toward_in j F n c ≡ toward_in k F n c
unfolding toward_in
toward_in-enough zero k F n c h l = sym (at-root k F n c (omega arith))
toward_in-enough (suc j) zero F n c h l = at-root (suc j) F n c (omega arith)
toward_in-enough (suc j) (suc k) F zero c h l = at-root (suc j) F 0 c refl ∙ sym (at-root (suc k) F 0 c refl)
toward_in-enough (suc j) (suc k) F (suc n) c h l =
    let q = parent-lt F (suc n) (omega arith) in
    ap (λ (x : ℕ). if leb (parent F (suc n)) c then suc n else x)
    (toward_in-enough j k F (parent F (suc n)) c (omega arith) (omega arith))

pub toward-step : (F n c : ℕ) → toward F n c ≡ (if leb (parent F n) c then n else toward F (parent F n) c)
unfolding toward toward_in
toward-step F zero c =
    if-both (λ (x : ℕ). 0 ≡ x)
    (leb (parent F 0) c) (λ q. refl) (λ q. let h = leb-false (parent F 0) c q in omega (arith, parent-le F 0))
toward-step F (suc n) c =
    let up = parent F (suc n) in
    ap (λ (x : ℕ). if leb up c then suc n else x)
    (toward_in-enough n up F up c (omega (arith, parent-lt F (suc n) (omega arith))) (omega arith))

-- ---- the node below c: its parent is c, and it is on the path

abbrev OnIn : ℕ → ℕ → ℕ → ℕ → Type 0
OnIn k F n zero = Unit {0}
OnIn k F n (suc c) = Below k F n c (suc c)

on_in-above : (k F n c : ℕ) → c < n → OnIn (suc k) F n c → c ≤ parent F n
on_in-above k F n zero h o = zero-le
on_in-above k F n (suc c) h (l, inl e) = omega arith
on_in-above k F n (suc c) h (l, inr b) = below-le k F (parent F n) c (suc c) b

on_in-next : (k F n c : ℕ) → c < n → OnIn (suc k) F n c → OnIn k F (parent F n) c
on_in-next k F n zero h o = tt
on_in-next k F n (suc c) h (l, inl e) = absurd (omega arith)
on_in-next k F n (suc c) h (l, inr b) = b

toward_in-parent : (k F n c : ℕ) → n ≤ k → c < n → OnIn k F n c → parent F (toward_in k F n c) ≡ c
unfolding toward_in
toward_in-parent zero F n c l h o = omega arith
toward_in-parent (suc k) F n c l h o =
    if-both (λ (x : ℕ). parent F x ≡ c) (leb (parent F n) c)
    (λ e. let a = leb-true (parent F n) c e in let b = on_in-above k F n c h o in omega arith)
    (λ e. toward_in-parent k F
    (parent F n) c (omega (arith, parent-lt F n (omega arith))) (leb-false _ _ e) (on_in-next k F n c h o))

pub toward-parent : (F n c : ℕ) → c < n → On F n c → parent F (toward F n c) ≡ c
unfolding toward
toward-parent F n zero h o = toward_in-parent n F n zero (le_refl n) h tt
toward-parent F n (suc c) h o = toward_in-parent n F n (suc c) (le_refl n) h o

below-raise : (k F n c w : ℕ) → Below k F n c (suc w) → Below k F n w (suc w)
below-raise zero F n c w b = b
below-raise (suc k) F n c w (h, inl e) = (omega arith, inl e)
below-raise (suc k) F n c w (h, inr b) =
    (omega (arith, below-le k F (parent F n) c (suc w) b, parent-le F n), inr (below-raise k F (parent F n) c w b))

pub toward-on : (F n c : ℕ) → c < n → On F n (toward F n c)
toward-on F n c h = from (toward F n c) (toward-below F n c h)
  where
    from : (d : ℕ) → Below n F n c d → On F n d
    from zero b = tt
    from (suc d) b = below-raise n F n c d b

pub toward-lt : (F n c : ℕ) → c < n → c < toward F n c
toward-lt F n c h = below-lt n F n c (toward F n c) (toward-below F n c h)
