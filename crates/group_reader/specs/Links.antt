-- Which links of the file those of the reader are, and which were kept behind others.
-- Cited by each function that reads links.
use Rattle.std.specs.Prelude.{◌≡◌, ℕ, ◌+◌, List, [], ◌∷◌, ◌++◌, map}
use Rattle.node_codec.specs.declared.snod.SnodEntry.{SnodEntry}
use Rattle.object_model.specs.Tree.{AreOrdered}
use Rattle.file_model.specs.Groups.{Found, Target, Header, Text, AreLinks}
use Rattle.file_model.specs.Limits.{text_bytes}
use Rattle.file_model.specs.RefusedGroups.{names_of}
use Rattle.group_reader.specs.declared.link.FoundLink.{FoundLink}
use Rattle.group_reader.specs.declared.link.LinkTarget.{LinkTarget}
use Rattle.group_reader.specs.declared.link.LinkTarget.TheVariants as target
use Rattle.group_reader.specs.declared.gathered.Gathered.{Gathered}

abbrev pub target_of : LinkTarget → Target
target_of (target.Object at) = Header at
target_of (target.Soft text) = Text text

abbrev pub found_of : FoundLink → Found
found_of link = record { name = link.name; target = target_of link.target }

abbrev pub links_of : List FoundLink → List Found
links_of = map found_of

-- The links are the one that an entry tells, which comes after those that the entries before it tell.
abbrev pub IsTold : List ℕ → (done : List Found) → SnodEntry → List Found → Type 0
IsTold segment done e fs = AreLinks segment (e ∷ []) fs × AreOrdered (names_of (done ++ fs))

-- Links of a part of the group were kept behind the others, in the order of their names, and their texts were taken
-- from the budget.
pub record Adds (before now : Gathered) (Part : List Found → Type 0) : Type 0 where
  pub added : List Found
  pub behind : links_of now.links.items ≡ links_of before.links.items ++ added
  pub spent : text_bytes added + now.texts.left ≡ before.texts.left
  pub ordered : AreOrdered (names_of added)
  pub part : Part added
