-- Two names and the space between them: where they fit, and what stands once all three are written.
use Rattle.lock.proofs.Library.{ℕ, ◌+◌, ◌≤◌, ◌<◌, List, [], ◌∷◌, append_assoc, arith, length, length-append, lt-ltb}
use Rattle.lock.proofs.Library.{ap, le-ltb}
use Rattle.std.specs.Prelude.{None, Some}
use Rattle.text.specs.{Writing.Wrote, Joined.{joined, Joined}}
use Rattle.text.proofs.Writing.{wrote-front, wrote-within, wrote-next}

module _ (x y t : List ℕ) where
  pub no_place : length t ≤ length x + length y → Joined x y t t None
  no_place h =
      let n : length t < length (joined x y) = simp length-append (omega arith) in
      record { buffer = rw (lt-ltb _ _ n); long = rw (lt-ltb _ _ n); within = omega arith }

  pub placed : {t₁ t₂ t₃ : List ℕ} {a b n : ℕ} → length x + length y < length t
      → Wrote t 0 x t₁ a → Wrote t₁ a (32 ∷ []) t₂ b → Wrote t₂ b y t₃ n → Joined x y t t₃ (Some n)
  placed {t₁} {t₂} {t₃} {a} {b} {n} h p q r =
      let k : length (joined x y) ≤ length t = simp length-append (omega arith) in
      let w : Wrote t 0 (joined x y) t₃ n = rw append_assoc at (wrote-next (wrote-next p q) r) in
      record {
        buffer = rw (le-ltb _ _ k) (wrote-front w).1;
        long = rw (le-ltb _ _ k) (ap Some (wrote-front w).0);
        within = wrote-within w;
      }
