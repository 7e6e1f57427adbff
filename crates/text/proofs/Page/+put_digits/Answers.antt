-- `put_digits`, which calls itself for one digit less: each way is one law of proofs/Decimal and proofs/Pages.
use Rattle.lock.proofs.Library.{◌%◌, [], ◌∷◌, arith}
use Rattle.lock.specs.Text.{digit}
use Rattle.text.proofs.Pages.{adds-none, fits-first, fits-next, adds-next}
use Rattle.text.proofs.Decimal.{digits-none, digits-one, digits_more}
use Rattle.text.proofs.Page.+put_digits.Goals as goal

pub returns-then-k-eq0 : goal.returns-then-k-eq0
returns-then-k-eq0 t c =
    let a = c.args in
    rw (digits-none a.k a.n c.if-k-eq0.true) (adds-none c.requires)

pub put-requires : goal.put-requires
put-requires t c =
    rw (c.last_digit.ensures, ← digits-one c.args.k c.args.n c.if-k-eq0.false (omega arith)) c.requires

pub returns-then-n-lt10 : goal.returns-then-n-lt10
returns-then-n-lt10 t c =
    let a = c.args in
    rw (digits-one a.k a.n c.if-k-eq0.false (omega arith), ← c.last_digit.ensures) c.put.ensures

pub put_digits-requires : goal.put_digits-requires
put_digits-requires t c =
    let split = digits_more c.args.k c.args.n c.if-k-eq0.false (omega arith) in
    (omega arith, fits-first (digit (c.args.n % 10) ∷ []) (rw split at c.requires))

pub put-requires-else-n-lt10 : goal.put-requires-else-n-lt10
put-requires-else-n-lt10 t c =
    let split = digits_more c.args.k c.args.n c.if-k-eq0.false (omega arith) in
    rw c.last_digit-else-n-lt10.ensures (fits-next c.put_digits.ensures (rw split at c.requires))

pub returns-else-n-lt10 : goal.returns-else-n-lt10
returns-else-n-lt10 t c =
    rw (digits_more c.args.k c.args.n c.if-k-eq0.false (omega arith), ← c.last_digit-else-n-lt10.ensures)
    (adds-next c.put_digits.ensures c.put-else-n-lt10.ensures)
