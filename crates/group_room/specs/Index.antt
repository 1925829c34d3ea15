-- What is told of the rows of a group's index: the level of its root, and the addresses of the nodes of each row.
-- HDF5 File Format Specification 3.0, III.A.1 and III.B. Cited by what reads a group, and by what plans an edit of it.
use Rattle.std.specs.Prelude.{ℕ, zero, suc, ◌+◌, List, [], ◌∷◌, map}
use Rattle.super_codec.specs.Super.{IsK}
use Rattle.node_codec.specs.declared.snod.SnodEntry.{SnodEntry}
use Rattle.file_model.specs.Index.{Bottom, Node, gather, row}
use Rattle.file_model.specs.Groups.{GroupIndex, Ks}

-- the K values of symbol table nodes and of a group's B-tree are from 1 to 1,024
pub record AreSmall (ks : Ks) : Type 0 where
  pub leaf : IsK ks.leaf
  pub internal : IsK ks.internal

-- the level of the root
abbrev pub level_of : GroupIndex → ℕ
level_of (Bottom s) = 0
level_of (Node n xs) = n.node.level

-- The addresses of the nodes so many levels below the root, and of those of each level between, the lowest first.
abbrev pub rows_below : GroupIndex → (depth : ℕ) → List (List ℕ)
rows_below index zero = []
rows_below index (suc depth) = map (λ n. n.at) (row (suc depth) index) ∷ rows_below index depth

-- the addresses of its symbol table nodes, and all entries, from left to right
abbrev pub leaf_ats : GroupIndex → List ℕ
leaf_ats = gather (λ n. []) (λ s. s.at ∷ [])

abbrev pub entries_in : GroupIndex → List SnodEntry
entries_in = gather (λ n. []) (λ s. s.entries)

-- so many addresses, each a step behind the one before
abbrev pub addresses : (at step n : ℕ) → List ℕ
addresses at step zero = []
addresses at step (suc n) = at ∷ addresses (at + step) step n
