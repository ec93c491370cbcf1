-- The code's matches as definitions that compute: a tree of tests for each kind, in the code's order.
-- Assumes nothing.
use mathlib.Core.Bool.{Bool, cond}
use mathlib.Core.List.{List}
use Prim.Native.Nat.{ℕ}
use lib.Dec.{eqb}
use Rattle.spec.specs.Kinds.{Kind, EQU, NOT, AND, OR, other, kind_of}
use Rattle.fire.specs.States.{three}

abbrev out : ℕ → Bool
out state = eqb state 0

abbrev in' : ℕ → Bool
in' state = eqb state 1

-- from three states to three
abbrev pub Step : Type 0
Step = (x y z : ℕ) → List ℕ

abbrev pub equ_tree : Step
equ_tree x y z =
    cond (out x) (cond (in' y) (three 3 3 z) (three x 0 z))
    (cond (in' x) (cond (out y) (three 3 3 z) (three x 1 z))
    (cond (out y) (three 0 y z) (cond (in' y) (three 1 y z) (three x y z))))

abbrev pub not_tree : Step
not_tree x y z =
    cond (out x) (cond (out y) (three 3 3 z) (three x 1 z))
    (cond (in' x) (cond (in' y) (three 3 3 z) (three x 0 z))
    (cond (out y) (three 1 y z) (cond (in' y) (three 0 y z) (three x y z))))

abbrev pub and_tree : Step
and_tree x y z =
    cond (out z)
    (cond (in' x) (cond (in' y) (three 3 3 3) (three x 0 z)) (cond (in' y) (three 0 y z) (three x y z)))
    (cond (in' z) (cond (out x) (three 3 3 3) (cond (out y) (three 3 3 3) (three 1 1 z)))
    (cond (out x) (three x y 0)
    (cond (in' x) (cond (out y) (three x y 0) (cond (in' y) (three x y 1) (three x y z)))
    (cond (out y) (three x y 0) (three x y z)))))

abbrev pub or_tree : Step
or_tree x y z =
    cond (out z) (cond (in' x) (three 3 3 3) (cond (in' y) (three 3 3 3) (three 0 0 z)))
    (cond (in' z)
    (cond (out x) (cond (out y) (three 3 3 3) (three x 1 z)) (cond (out y) (three 1 y z) (three x y z)))
    (cond (out x) (cond (out y) (three x y 0) (cond (in' y) (three x y 1) (three x y z)))
    (cond (in' x) (three x y 1)
    (cond (in' y) (three x y 1) (three x y z)))))

abbrev pub tree_of : Kind → Step
tree_of EQU = equ_tree
tree_of NOT = not_tree
tree_of AND = and_tree
tree_of OR = or_tree
tree_of other = three

abbrev pub tree : ℕ → Step
tree kind = tree_of (kind_of kind)
