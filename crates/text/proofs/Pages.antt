-- Laws of text added to a page, each from that of text written into a buffer (proofs/Writing).
use Rattle.lock.proofs.Library.{ℕ, ◌≡◌, refl, sym, ◌∙◌, List, [], ◌++◌, arith, length-append}
use Rattle.text.specs.{declared.Page.Page, Page.{Fits, Adds}, Writing.{Room, Wrote}}
use Rattle.text.proofs.Writing.{wrote_none, room_next, wrote-next}

-- nothing
pub adds-none : {p : Page} {t : List ℕ} → Fits p t → Adds p [] p
adds-none h = record { same = refl; wrote = wrote_none (omega (arith, h.fits)) }

-- the first of two texts has room
pub fits-first : {p : Page} {x : List ℕ} (y : List ℕ) → Fits p (x ++ y) → Fits p x
fits-first y h = record { fits = omega (arith, simp length-append at h.fits) }

module _ {p p' : Page} {x y : List ℕ} (w : Adds p x p') where
  -- the second has room after the first
  pub fits-next : Fits p (x ++ y) → Fits p' y
  fits-next h = record { fits = (room_next w.wrote (record { fits = h.fits })).fits }

  -- one text after the other
  pub adds-next : {q : Page} → Adds p' y q → Adds p (x ++ y) q
  adds-next v = record { same = v.same ∙ w.same; wrote = wrote-next w.wrote v.wrote }

pub ruleset adding = (fits-first, fits-next, adds-next)

-- the same of a text that is two texts by an equation
pub fits-head : {p : Page} {s x : List ℕ} (y : List ℕ) → s ≡ x ++ y → Fits p s → Fits p x
fits-head y is h = fits-first y (rw is at h)

module _ {p p' : Page} {s x y : List ℕ} (is : s ≡ x ++ y) (w : Adds p x p') where
  pub fits-tail : Fits p s → Fits p' y
  fits-tail h = fits-next w (rw is at h)

  pub adds-both : {q : Page} → Adds p' y q → Adds p s q
  adds-both v = rw is (adds-next w v)

-- and of one that is three
module _ {p : Page} {s : List ℕ} where
  pub fits-one : {x : List ℕ} (y w : List ℕ) → s ≡ x ++ y ++ w → Fits p s → Fits p x
  fits-one y w is h = fits-first y (fits-head w is h)

  module _ {p₁ : Page} {x y : List ℕ} (v : Adds p x p₁) where
    pub fits-two : (w : List ℕ) → s ≡ x ++ y ++ w → Fits p s → Fits p₁ y
    fits-two w is h = fits-next v (fits-head w is h)

    module _ {p₂ : Page} {w : List ℕ} (u : Adds p₁ y p₂) (is : s ≡ x ++ y ++ w) where
      pub fits-three : Fits p s → Fits p₂ w
      fits-three h = fits-tail is (adds-next v u) h

      pub adds-three : {q : Page} → Adds p₂ w q → Adds p s q
      adds-three last = adds-both is (adds-next v u) last

-- text by cases: what a test or a match told of a value
module _ {A : Type 0} (f : A → List ℕ) {p : Page} {a b : A} {t : List ℕ} (e : a ≡ b) (is : f b ≡ t) where
  pub fits-case : Fits p (f a) → Fits p t
  fits-case h = rw (← is, ← e) h

  pub adds-case : {q : Page} → Adds p t q → Adds p (f a) q
  adds-case w = rw (e, is) w

-- ---- a page from its first byte to its last

-- what was first added to it stands at the front of its buffer
pub on-front : {p q : Page} {b t : List ℕ} → p.buf.now ≡ b → p.at ≡ 0 → Adds p t q → Wrote b 0 t q.buf.now q.at
on-front e f w = rw (e, f) at w.wrote

-- what was last added to it stands in the buffer that it was lent, once the page is let go
pub let-go : {p q : Page} {t b : List ℕ} → Adds p t q → q.buf.now ≡ b → Wrote p.buf.now p.at t b q.at
let-go w e = rw e at w.wrote

-- a text that has room in the buffer fits the page
pub fits-front : {p : Page} {b t : List ℕ} → p.buf.now ≡ b → p.at ≡ 0 → Room b 0 t → Fits p t
fits-front e f r = record { fits = rw (e, f) r.fits }

-- and the same of a page of which all is one text
pub whole : {p q : Page} {b c t : List ℕ} → p.buf.now ≡ b → p.at ≡ 0 → Adds p t q → q.buf.now ≡ c → Wrote b 0 t c q.at
whole e f w g = rw g at (on-front e f w)

-- the same text by an equation
pub fits-as : {p : Page} {s t : List ℕ} → s ≡ t → Fits p s → Fits p t
fits-as e h = rw e at h

pub adds-as : {p q : Page} {s t : List ℕ} → s ≡ t → Adds p t q → Adds p s q
adds-as e h = rw (sym e) at h
