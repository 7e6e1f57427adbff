-- The line of a word, by its number: the root's, or a node's.
use Rattle.lock.proofs.Library.{ℕ, zero, suc, ◌≡◌, refl}
use Rattle.lock.specs.{declared.Word.Word, Sheet.{word_line, root_line, node_line}}
use Rattle.text.specs.{declared.Page.Page, Page.{Fits, Adds}}

module _ {p : Page} (i : ℕ) (v : Word) where
  pub fits-root : i ≡ 0 → Fits p (word_line i v) → Fits p (root_line v)
  unfolding word_line
  fits-root e room = rw e at room

  pub adds-root : {q : Page} → i ≡ 0 → Adds p (root_line v) q → Adds p (word_line i v) q
  unfolding word_line
  adds-root e w = rw e w

pub word-root : (v : Word) → word_line 0 v ≡ root_line v
unfolding word_line
word-root v = refl

pub not_root : (i : ℕ) (v : Word) → (i ≡ 0 → ⊥) → word_line i v ≡ node_line i v
unfolding word_line
not_root zero v n = absurd (n refl)
not_root (suc i) v n = refl

module _ {p : Page} (i : ℕ) (v : Word) (n : i ≡ 0 → ⊥) where
  pub fits-node : Fits p (word_line i v) → Fits p (node_line i v)
  fits-node room = rw (← not_root i v n) room

  pub adds-node : {q : Page} → Adds p (node_line i v) q → Adds p (word_line i v) q
  adds-node w = rw (not_root i v n) w

pub ruleset words = (fits-root, adds-root, fits-node, adds-node)
