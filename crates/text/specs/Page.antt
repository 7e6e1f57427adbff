-- A page: a lent buffer, and the place of its next byte.
use Rattle.std.specs.Prelude.{ℕ, ◌+◌, ◌≤◌, ◌≡◌, List, length}
use Rattle.text.specs.declared.Page.{Page}
use Rattle.text.specs.Writing.{Wrote}

-- the text t fits the page from its place on
pub record Fits (p : Page) (t : List ℕ) : Type 0 where
  pub fits : p.at + length t ≤ length p.buf.now

-- t was written at the place of the page p, which is the page p' now, of the same buffer
pub record Adds (p : Page) (t : List ℕ) (p' : Page) : Type 0 where
  pub same : p'.buf.ghost_name ≡ p.buf.ghost_name
  pub wrote : Wrote p.buf.now p.at t p'.buf.now p'.at
