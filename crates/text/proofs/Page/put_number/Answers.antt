-- One digit, two digits, or its ten last digits.
use Rattle.lock.proofs.Library.{rules}
use Rattle.lock.specs.Text.{decimal}
use Rattle.text.proofs.Decimal.{decimal-one, decimal-two}
use Rattle.text.proofs.Pages.{fits-head, fits-tail, adds-both}
use Rattle.text.proofs.Page.put_number.Goals as goal

pub put-requires : goal.put-requires
put-requires c =
    rw (c.last_digit.ensures, ← decimal-one _ c.if-n-lt10.true)
    c.requires

pub returns-then-n-lt10 : goal.returns-then-n-lt10
returns-then-n-lt10 c =
    rw (decimal-one _ c.if-n-lt10.true, ← c.last_digit.ensures) c.put.ensures

pub put-requires-then-n-lt100 : goal.put-requires-then-n-lt100
put-requires-then-n-lt100 c =
    rw c.last_digit-then-n-lt100.ensures
    (fits-head _ (decimal-two _ c.if-n-lt10.false c.if-n-lt100.true) c.requires)

pub put-requires-then-n-lt100-2 : goal.put-requires-then-n-lt100-2
put-requires-then-n-lt100-2 c =
    let tens = rw c.last_digit-then-n-lt100.ensures at c.put-then-n-lt100.ensures in
    rw c.last_digit-then-n-lt100-2.ensures
    (fits-tail (decimal-two _ c.if-n-lt10.false c.if-n-lt100.true) tens c.requires)

pub returns-then-n-lt100 : goal.returns-then-n-lt100
returns-then-n-lt100 c =
    let tens = rw c.last_digit-then-n-lt100.ensures at c.put-then-n-lt100.ensures in
    let ones = rw c.last_digit-then-n-lt100-2.ensures at c.put-then-n-lt100-2.ensures in
    adds-both (decimal-two _ c.if-n-lt10.false c.if-n-lt100.true) tens ones

pub put_digits-requires : goal.put_digits-requires
put_digits-requires c =
    unfold decimal in search rules

pub returns-else-n-lt100 : goal.returns-else-n-lt100
returns-else-n-lt100 c =
    unfold decimal in search rules
