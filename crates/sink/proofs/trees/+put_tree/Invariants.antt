-- A leaf's id; or a brace, the tree below, a comma, the flags' id, a brace. The measure is the depth.
use Rattle.sink.proofs.trees.+put_tree.Given as goal

abbrev pub decreases-put_tree : goal.decreases-put_tree
decreases-put_tree l = l.depth
