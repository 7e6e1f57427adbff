-- Two stores, one after the other.
use Rattle.lock.proofs.Library.{refl}
use Rattle.rows.proofs.Rows.{comes, stores}
use Rattle.rows.proofs.stores.Goals as goal

pub returns : goal.returns
returns c =
    comes (stores _ _ _ _ _ _ refl) (rw (c.stored_word-root.ensures, c.goes_to.ensures.state) at c.write_word.ensures)
    c.did.ensures
