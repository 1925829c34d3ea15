-- What is answered of the nodes that the program keeps, and when a tree of objects stands at one of them.
-- Cited by the functions below `answer`.
use Rattle.std.specs.Prelude.{◌≡◌, ℕ, List, Option, Some, None, Result}
use Rattle.dtype.specs.Types.{size_of}
use Rattle.object_model.specs.declared.answer.Answer.{Answer}
use Rattle.object_model.specs.declared.answer.Answer.TheVariants as answer
use Rattle.object_model.specs.declared.answer.LinkLine.{LinkLine}
use Rattle.object_model.specs.declared.answer.Shown.{Shown}
use Rattle.object_model.specs.declared.answer.Shown.TheVariants as shown
use Rattle.object_model.specs.declared.answer.Code.{Code}
use Rattle.object_model.specs.Tree.{Name, walk, ◌>>=◌}
use Rattle.object_model.specs.Step.{Plain, PlainLinks, links_of}
use Rattle.file_model.specs.Objects.{fill_bytes, max_of}
use Rattle.file_model.specs.Chunks.{chunk_of}
use Rattle.tree_nodes.specs.declared.node.Node.{Node}
use Rattle.tree_nodes.specs.declared.node.Node.TheVariants as node
use Rattle.tree_nodes.specs.declared.node.NodeId.{NodeId}
use Rattle.tree_nodes.specs.declared.node.ChildLink.{ChildLink}
use Rattle.tree_nodes.specs.declared.tree.ObjectTree.{ObjectTree}
use Rattle.tree_nodes.specs.Nodes.{Kept}
use Rattle.tree_nodes.specs.Entries.{entry_of}
use Rattle.tree_nodes.specs.Shown.{Keyed, key_of, AreKept}
use Rattle.tree_answers.specs.Shown.{info_of, ShowsPlain}

-- what `stat` answers of a node with so many links
abbrev pub stat_by : Node → ℕ → Answer
stat_by (node.Group header tree heap) links = answer.Group links
stat_by (node.Dataset header shape elem fill layout filtered) links =
    answer.Dataset elem shape.dims (max_of shape) (chunk_of (info_of shape elem fill layout filtered) layout)
    (fill_bytes (size_of elem) fill) filtered
stat_by (node.Soft text) links = answer.Soft text
stat_by (node.Other header) links = answer.Other

-- what `ls` shows of a link to a node
abbrev pub shown_by : Node → Shown
shown_by (node.Group header tree heap) = shown.Group
shown_by (node.Dataset header shape elem fill layout filtered) = shown.Dataset
shown_by (node.Soft text) = shown.Soft text
shown_by (node.Other header) = shown.Other

abbrev pub shown_in : Option Kept → Shown
shown_in None = shown.Other
shown_in (Some e) = shown_by e.node

-- the line of a link
abbrev pub line_by : ObjectTree → ChildLink → LinkLine
line_by kept l = record { name = l.name; shown = shown_in (entry_of kept l.node.key) }

-- the links of the group that a path leads to
abbrev pub links_behind : Plain → List Name → Result PlainLinks Code
links_behind t p = walk t p >>= links_of

-- From the node on, the tree that is kept is this one.
pub record IsAt (kept : ObjectTree) (id : NodeId) (t : Plain) : Type 0 where
  pub keyed : Keyed
  pub key : key_of keyed ≡ id.key
  pub nodes : AreKept (entry_of kept) keyed
  pub same : ShowsPlain keyed t
