-- What is known of a till that is not refused.
use Rattle.lock.proofs.Library.{ℕ, zero, suc, ◌+◌, ◌*◌, ◌≤◌, ◌<◌, ◌-◌, ◌≡◌, refl, ap, ◌∙◌, Bool, true, false, ◌&&◌}
use Rattle.lock.proofs.Library.{cond, List, [], ◌∷◌, arith, eqb, ltb, leb, length, get_or, ltb-true, leb-true, eqb-true}
use Rattle.lock.proofs.{Choice.{by-test, if-both}, Accepted.both}
use lib.IntN.{ℤ, pos, negsuc, ◌+ℤ◌}
use Rattle.lock.specs.File.{within}
use Rattle.till.specs.Till.{Item, Till, item_at, items_from, till_of, roomed, is_till, till_refusal, signed, amount_at}
use Rattle.till.specs.{Booking.{nothing, item_of, Ledger}, Balanced.{part, sum_of, Balanced}}

-- every item, one out of range too, is of a room
abbrev pub Roomed : Till → Type 0
Roomed i = (e : ℕ) → (item_of i e).room < i.rooms

pub record Good (b : List ℕ) : Type 0 where
  pub rooms : (till_of b).rooms ≤ 32
  pub items : get_or b 1 0 ≤ 32
  pub exact : length b ≡ 2 + 3 * get_or b 1 0
  pub roomed : Roomed (till_of b)

rooms_in : (R : ℕ) (xs : List Item) (e : ℕ) → 0 < R → roomed R xs ≡ true → (get_or xs e nothing).room < R
rooms_in R [] e p h = p
rooms_in R (x ∷ xs) zero p h = ltb-true x.room R (both (ltb x.room R) _ h).0
rooms_in R (x ∷ xs) (suc e) p h = rooms_in R xs e p (both (ltb x.room R) _ h).1

is-till : (b : List ℕ) → till_refusal b ≡ 0 → is_till b ≡ true
is-till b e = by-test (is_till b) (λ h. h) (λ h. let k : ◌≡◌ {A = ℕ} 10 0 = rw h at e in absurd (omega arith))

pub good : (b : List ℕ) → till_refusal b ≡ 0 → Good b
good b h =
    let R = get_or b 0 0 in
    let E = get_or b 1 0 in
    let all =
    both (within 1 32 R && leb E 32 && eqb (length b) (2 + 3 * E)) (roomed R (till_of b).items) (is-till b h) in
    let three = both (within 1 32 R && leb E 32) (eqb (length b) (2 + 3 * E)) all.0 in
    let two = both (within 1 32 R) (leb E 32) three.0 in
    let one = both (leb 1 R) (leb R 32) two.0 in
    record {
      rooms = leb-true R 32 one.1;
      items = leb-true E 32 two.1;
      exact = eqb-true (length b) (2 + 3 * E) three.1;
      roomed = λ e. rooms_in R (till_of b).items e (leb-true 1 R one.0) all.1;
    }

-- ---- the items of a file

items-long : (b : List ℕ) (E k e : ℕ) → length (items_from b E k e) ≡ k
items-long b E zero e = refl
items-long b E (suc k) e = ap suc (items-long b E k (suc e))

-- E of them
pub items-are : (b : List ℕ) → length (till_of b).items ≡ get_or b 1 0
items-are b = items-long b (get_or b 1 0) (get_or b 1 0) 0

item_from : (b : List ℕ) (E k e n : ℕ) → n < k → get_or (items_from b E k e) n nothing ≡ item_at b E (e + n)
item_from b E zero e n h = absurd (omega arith)
item_from b E (suc k) e zero h = let s : e + 0 ≡ e = omega arith in rw s
item_from b E (suc k) e (suc n) h =
    let s : e + suc n ≡ suc e + n = omega arith in rw s (item_from b E k (suc e) n (omega arith))

pub item-is : (b : List ℕ) (e : ℕ) → e < get_or b 1 0 → item_of (till_of b) e ≡ item_at b (get_or b 1 0) e
item-is b e h = let s : 0 + e ≡ e = omega arith in item_from b (get_or b 1 0) (get_or b 1 0) 0 e h ∙ rw s

-- ---- a balance is at most 32 times 32,767

-- a number, 0 where it is below 0
abbrev top : ℤ → ℕ
top (pos n) = n
top (negsuc n) = 0

less-top : (a n : ℕ) → top (cond (ltb a n) (negsuc (n - suc a)) (pos (a - n))) ≤ a
less-top a n =
    elim (ltb a n) as (λ c. top (cond c (negsuc (n - suc a)) (pos (a - n))) ≤ a) [
      | true ↦ omega arith
      | false ↦ omega arith
    ]

add-top : (a b : ℤ) → top (a +ℤ b) ≤ top a + top b
add-top (pos a) (pos b) = omega arith
add-top (pos a) (negsuc b) = omega (arith, less-top a (suc b))
add-top (negsuc a) (pos b) = omega (arith, less-top b (suc a))
add-top (negsuc a) (negsuc b) = omega arith

-- every amount is at most 32,767
abbrev Small : List Item → Type 0
Small [] = Unit {0}
Small (x ∷ xs) = (top x.amount ≤ 32767) × Small xs

signed_top : (v : ℕ) → top (signed v) ≤ 32767
signed_top v =
    if-both (λ (z : ℤ). top z ≤ 32767) (ltb v 32768) (λ h. omega (arith, ltb-true v 32768 h)) (λ h. omega arith)

items-small : (b : List ℕ) (E k e : ℕ) → Small (items_from b E k e)
items-small b E zero e = tt
items-small b E (suc k) e = (signed_top (amount_at b E e), items-small b E k (suc e))

part-top : (q : ℕ) (x : Item) (m : Bool) → top x.amount ≤ 32767 → top (part q x m) ≤ 32767
part-top q x m h = if-both (λ (z : ℤ). top z ≤ 32767) (m && eqb x.room q) (λ y. h) (λ y. omega arith)

sum_top : (q : ℕ) (xs : List Item) (ms : List Bool) → Small xs → top (sum_of q xs ms) ≤ length xs * 32767
sum_top q [] ms s = omega arith
sum_top q (x ∷ xs) [] s = omega arith
sum_top q (x ∷ xs) (m ∷ ms) s =
    omega (arith, add-top (part q x m) (sum_of q xs ms), part-top q x m s.0, sum_top q xs ms s.1)

-- of a till that is not refused: below 2^21
pub balance-below : (b : List ℕ) (l : Ledger)
    → till_refusal b ≡ 0 → Balanced (till_of b) l → (q : ℕ) → q < (till_of b).rooms → get_or l.balances q 0 < 2097152
balance-below b l h a q k =
    let i = till_of b in
    let few : length i.items ≤ 32 = omega (arith, (good b h).items, items-are b) in
    let most = sum_top q i.items l.marks (items-small b (get_or b 1 0) (get_or b 1 0) 0) in
    omega (arith, few, most, ap top (a.adds q k))
