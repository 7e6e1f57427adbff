-- The root's line or a node's, by the number.
use Rattle.lines.proofs.Words.{words}
use Rattle.lines.proofs.put_word.Goals as goal

pub put_root-requires : goal.put_root-requires
put_root-requires c =
    search words

pub put_node-requires : goal.put_node-requires
put_node-requires c =
    search words

pub returns-then-i-eq-ROOT : goal.returns-then-i-eq-ROOT
returns-then-i-eq-ROOT c =
    search words

pub returns-else-i-eq-ROOT : goal.returns-else-i-eq-ROOT
returns-else-i-eq-ROOT c =
    search words
