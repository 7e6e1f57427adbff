-- A fact of a choice, from what its test tells in each branch; facts that do not go together.
use Rattle.lock.proofs.Library.{◌&&◌, ℕ, ◌≡◌, refl, Bool, true, false, none, some, arith}
use Rattle.std.specs.Prelude.{if◌then◌else◌}
use Rattle.lock.specs.{Phase.Standing, Call.{Op, note, refuse, booking}}

pub if-both : {A : Type 0} (P : A → Type 0) (b : Bool) {x y : A}
    → (b ≡ true → P x) → (b ≡ false → P y) → P (if b then x else y)
if-both P true f g = f refl
if-both P false f g = g refl

-- by whether a test passes
pub by-test : {A : Type 0} (b : Bool) → (b ≡ true → A) → (b ≡ false → A) → A
by-test true f g = f refl
by-test false f g = g refl

pub and-false : (b : Bool) → (b && false) ≡ false
and-false true = refl
and-false false = refl

-- anything follows from equations of which no two can hold at once: `cc` gives 0 ≡ 1 from them
pub clash {ℓ} : {A : Type ℓ} → ◌≡◌ {A = ℕ} 0 1 → A
clash e = absurd (omega arith)

pub not-both : {A : Type 0} (b : Bool) → b ≡ true → b ≡ false → A
not-both b p q = clash cc

-- a fact of every standing
pub by-standing : (P : Standing → Type 0) → P Standing.Idle → ((k : ℕ) → P (Standing.Reading k)) → P Standing.Writing
    → P Standing.Calling → P Standing.Asleep → (x : Standing) → P x
by-standing P i r w c a Standing.Idle = i
by-standing P i r w c a (Standing.Reading k) = r k
by-standing P i r w c a Standing.Writing = w
by-standing P i r w c a Standing.Calling = c
by-standing P i r w c a Standing.Asleep = a

-- a fact of a booking, which its thread makes or is refused
pub booking-both : (P : Op → Type 0) (x : Standing) → P note → P (refuse 7) → P (booking x)
booking-both P x n r = by-standing (λ y. P (booking y)) r (λ k. r) n r r x

-- nothing is not something
pub none-some : {A : Type 0} (x : A) → none ≡ some x → ⊥
none-some x e = clash cc

-- what is there was not left out
pub there : {A : Type 0} (b : Bool) {x y : A} → (if b then none else some x) ≡ some y → (b ≡ false) × (x ≡ y)
there true e = clash cc
there false e = (refl, cc)
