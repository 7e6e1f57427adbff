-- The checks of a till file, as the code makes them.
use Rattle.lock.proofs.Library.{ℕ, suc, ◌+◌, ◌*◌, ◌-◌, ◌≤◌, ◌<◌, ◌≡◌, refl, sym, ap, ◌∙◌, Bool, true, false, ◌&&◌, List}
use Rattle.lock.proofs.Library.{[], ◌∷◌, arith, eqb, ltb, leb, length, get_or, lt-ltb, le-ltb}
use Rattle.lock.specs.File.{within}
use Rattle.till.specs.Till.{item_at, items_from, till_of, roomed, is_till}
use Rattle.till.proofs.Good.{items-are}

-- ---- the room numbers

-- the items from e on are left to look at, n of all
pub record Looked (b : List ℕ) (R n e : ℕ) : Type 0 where
  pub within : e ≤ n
  pub left : roomed R (till_of b).items ≡ roomed R (items_from b n (n - e) e)

pub looked-none : (b : List ℕ) (R n : ℕ) → n ≡ length (till_of b).items → Looked b R n 0
looked-none b R n h = let k : n ≡ get_or b 1 0 =
    h ∙ items-are b in record { within = omega arith; left = let z : n - 0 ≡ n = omega arith in rw (z, k) }

items_more : (b : List ℕ) (n e : ℕ)
    → e < n → items_from b n (n - e) e ≡ item_at b n e ∷ items_from b n (n - (e + 1)) (e + 1)
items_more b n e h = let k : n - e ≡ suc (n - (e + 1)) = omega arith in let s : suc e ≡ e + 1 = omega arith in rw (k, s)

items-none : (b : List ℕ) (n e : ℕ) → n ≤ e → items_from b n (n - e) e ≡ []
items-none b n e h = let k : n - e ≡ 0 = omega arith in rw k

module _ {b : List ℕ} {R n e : ℕ} (h : Looked b R n e) where
  -- none is left
  pub looked-all : n ≤ e → true ≡ roomed R (till_of b).items
  looked-all k = sym (h.left ∙ ap (roomed R) (items-none b n e k))

  -- item e is looked at: it is of room x
  module _ {x : ℕ} (k : e < n) (is : x ≡ get_or b (2 + e) 0) where
    one : roomed R (till_of b).items ≡ (ltb x R && roomed R (items_from b n (n - (e + 1)) (e + 1)))
    one = rw is (h.left ∙ ap (roomed R) (items_more b n e k))

    pub looked-more : x < R → Looked b R n (e + 1)
    looked-more l = record {
      within = omega arith;
      left = one ∙ ap (λ (c : Bool). c && roomed R (items_from b n (n - (e + 1)) (e + 1))) (lt-ltb x R l);
    }

    pub looked-bad : R ≤ x → false ≡ roomed R (till_of b).items
    looked-bad l = sym (one ∙ ap (λ (c : Bool). c && roomed R (items_from b n (n - (e + 1)) (e + 1))) (le-ltb x R l))

-- ---- the file: its sizes fit, and so do its room numbers

all-four : (p q r s : Bool) → ((p && q && r) && s) ≡ (p && q && r && s)
all-four false q r s = refl
all-four true false r s = refl
all-four true true r s = refl

module _ (b : List ℕ) {R n : ℕ} {p : Bool} (rooms : R ≡ (till_of b).rooms) (items : n ≡ length (till_of b).items)
    (sizes : p ≡ (within 1 32 R && leb n 32 && eqb (length b) (2 + 3 * n))) where
  is-both : {r : Bool} → r ≡ roomed R (till_of b).items → (p && r) ≡ is_till b
  is-both w =
      rw (w, sizes, rooms, items ∙ items-are b)
      (all-four (within 1 32 (get_or b 0 0)) (leb (get_or b 1 0) 32) (eqb (length b) (2 + 3 * get_or b 1 0)) _)

  pub sizes-fit : {r : Bool} → p ≡ true → r ≡ roomed R (till_of b).items → r ≡ is_till b
  sizes-fit {r} h w = ap (λ (q : Bool). q && r) (sym h) ∙ is-both w

  pub sizes-bad : p ≡ false → p ≡ is_till b
  sizes-bad h = h ∙ ap (λ (q : Bool). q && roomed R (till_of b).items) (sym h) ∙ is-both refl
