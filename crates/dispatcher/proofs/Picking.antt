-- Going round: the turn is that of the thread that is picked.
use Rattle.lock.proofs.Library.{ℕ, ◌≤◌, ◌<◌, ◌^◌, ◌≡◌, ◌≢◌, refl, Option, none, some, [], arith, eqb, eq-eqb, ne_eqb, ℕ_discrete}
use Rattle.std.specs.Prelude.{Some}
use Rattle.std.specs.Prelude.{if◌then◌else◌}
use Rattle.laws.specs.Sleeping.{bit_at}
use Rattle.laws.proofs.Sum.{bit_le}
use Rattle.dispatch_model.specs.{Dispatch.{Offer, behind, turn, round}, Code.{pick}}
use Rattle.dispatch_model.proofs.Round.{Able, picked, nobody}
use Rattle.dispatcher.specs.Choosing.{Chooses}

-- those of a set are offered something
abbrev members : ℕ → ℕ → Option Offer
members able u = if eqb (bit_at able u) 1 then some (record { order = 0; later = [] }) else none

module _ (T able : ℕ) (small : T ≤ 64) (within : able < 2 ^ T) where
  able-members : Able T able (members able)
  able-members =
      record {
        small = small;
        within = within;
        has = λ u l. elim (ℕ_discrete (bit_at able u) 1) [
          | yes e ↦ rw (eq-eqb (bit_at able u) 1 e) e
          | no n ↦ rw (ne_eqb (bit_at able u) 1 n) (omega (arith, n, bit_le u able))
        ];
      }

  pub pick-there : (t : ℕ) → t < T → able ≢ 0 → pick able t < T
  pick-there t l n = (picked T able (members able) able-members t l n).there

pub round-none : (T able c : ℕ) → c < T → able ≡ 0 → (f : ℕ → Option Offer) → Able T able f → turn T f T c ≡ none
round-none T able c l e f h = nobody T able f h c l e

pub round-one : (T able c c' t : ℕ) → c < T → able ≢ 0 → t ≡ pick able c → c' ≡ behind T t
    → Chooses (round T) T able c c' (Some t)
round-one T able c c' t l n e b f h = rw (b, e) (picked T able f h c l n, refl)
