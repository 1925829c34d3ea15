-- Laws of what the bytes of a file hold, each the clause of a small public function of this crate.
use Rattle.std.specs.Prelude.{◌≡◌, ℕ, ◌≤◌, List, [], ◌∷◌, ◌++◌, None, Ok, if◌then◌else◌}
use Rattle.outside.specs.Array.{Array, array_of}
use Rattle.empty_file.specs.Empty.{empty_file}
use Rattle.super_codec.specs.Super.{super_len}
use Rattle.super_codec.specs.declared.superblock.Superblock.{Superblock}
use Rattle.h5_base.specs.declared.extent.MemClass.{MemClass}
use Rattle.object_model.specs.Tree.{Group, Leaf, Empty, Link, Name, same_name, walk, edit, insert, remove, replace}
use Rattle.object_model.specs.Step.{Plain, new_group}
use Rattle.outside.specs.Blocks.{Block, Bounds, Agree}
use Rattle.file_model.specs.Groups.{Ks}
use Rattle.file_model.specs.Limits.{IsWithinLimits}
use Rattle.h5_base.specs.declared.refusal.Refusal.{Refusal}
use Rattle.file_model.specs.RefusedTree.{IsFileRefused}
use Rattle.file_model.specs.Holds.{Full, FullLinks, GroupAt, IsHeld, AreHeld, blocks_of, blocks_in, leaf_blocks}
use Rattle.file_model.specs.Holds.{target_of, plain, Holds, HoldsFull, ks_of, founds}
use Rattle.file_model.specs.WellKept.{AreWellKept}

-- what a link leads to is one object
abbrev pub OneObject : Type 0
OneObject = (b : Array) (ks : Ks) (t u : Full) → IsHeld b ks t → IsHeld b ks u → target_of t ≡ target_of u → t ≡ u

-- an array and ends hold at most one tree of places
abbrev pub OneFull : Type 0
OneFull = (b : Array) (e : Bounds) (s r : Superblock) (g h : GroupAt) (ls ks : FullLinks) → HoldsFull b e s g ls
    → HoldsFull b e r h ks → (s ≡ r) × (Group g ls ≡ Group h ks)

-- and one tree
abbrev pub OneTree : Type 0
OneTree = (b : Array) (e : Bounds) (t u : Plain) → Holds b e t → Holds b e u → t ≡ u

-- an object, with all below it, depends on the bytes of its own blocks alone
abbrev pub FrameLaw : Type 0
FrameLaw = (b c : Array) (ks : Ks) (t : Full) → Agree b c (blocks_of t) → IsHeld b ks t → IsHeld c ks t

-- one region from address 0 on, and where it ends; no driver information
abbrev pub one_region : ℕ → Bounds
one_region end = record { starts = λ c. 0; ends = λ c. end; own = None }

-- the bytes of an empty file hold the tree of one group without links
abbrev pub EmptyFile : Type 0
EmptyFile = Holds (array_of empty_file) (one_region 800) new_group

-- and the index of that group is well kept
abbrev pub EmptyKept : Type 0
EmptyKept = (s : Superblock) (g : GroupAt) (ls : FullLinks)
    (h : HoldsFull (array_of empty_file) (one_region 800) s g ls)
    → AreWellKept (array_of empty_file) (ks_of s) g.tree_at g.heap_at (founds ls) h.held.0.index h.held.0.links

-- ---- edits

-- the blocks of a tree beside those of what a path leads to
abbrev mutual
  pub beside : List Name → Full → List Block
  beside [] t = []
  beside (n ∷ ns) (Group g ls) = g.own ++ beside_in n ns ls
  beside (n ∷ ns) (Leaf l) = leaf_blocks l

  pub beside_in : Name → List Name → FullLinks → List Block
  beside_in n ns Empty = []
  beside_in n ns (Link m t rest) = if same_name m n then (beside ns t ++ blocks_in rest) else
      (blocks_of t ++ beside_in n ns rest)

-- where other bytes hold another object with the same target at the end of a path, and the bytes beside it stay, the
-- edited tree is held
abbrev pub EditLaw : Type 0
EditLaw = (b c : Array) (ks : Ks) (p : List Name) (t u v : Full) → walk t p ≡ Ok u → IsHeld b ks t
    → Agree b c (beside p t) → IsHeld c ks v → target_of v ≡ target_of u
    → IsHeld c ks (edit p (λ _. v) t)

-- links that are held, with one more, with one fewer, and with another object behind a name
abbrev pub InsertLaw : Type 0
InsertLaw = (b : Array) (ks : Ks) (ls : FullLinks) (n : Name) (t : Full) → AreHeld b ks ls → IsHeld b ks t
    → AreHeld b ks (insert ls n t)

abbrev pub RemoveLaw : Type 0
RemoveLaw = (b : Array) (ks : Ks) (ls : FullLinks) (n : Name) → AreHeld b ks ls → AreHeld b ks (remove ls n)

abbrev pub ReplaceLaw : Type 0
ReplaceLaw = (b : Array) (ks : Ks) (ls : FullLinks) (n : Name) (t : Full) → AreHeld b ks ls → IsHeld b ks t
    → AreHeld b ks (replace ls n (λ _. t))

-- an edit seen without places is the edit of the plain tree
abbrev pub PlainEdit : Type 0
PlainEdit = (p : List Name) (t v : Full) → plain (edit p (λ _. v) t) ≡ edit p (λ _. plain v) (plain t)

-- ---- ends

-- the regions begin where they began, and end where they ended or later
pub record Rises (e f : Bounds) : Type 0 where
  pub starts : (c : MemClass) → f.starts c ≡ e.starts c
  pub ends : (c : MemClass) → e.ends c ≤ f.ends c
  pub own : f.own ≡ e.own

-- all blocks of a file
abbrev pub all_blocks : Superblock → List Block → Full → List Block
all_blocks s driver t = record { start = 0; len = super_len s.version } ∷ driver ++ blocks_of t

-- where ends rise, and the bytes of all blocks stay, the tree with its places stays held
abbrev pub FileFrame : Type 0
FileFrame = (b c : Array) (e f : Bounds) (s : Superblock) (g : GroupAt) (ls : FullLinks) (h : HoldsFull b e s g ls)
    → Rises e f → Agree b c (all_blocks s h.driver (Group g ls))
    → HoldsFull c f s g ls

-- where ends rise, the tree stays held
abbrev pub RiseLaw : Type 0
RiseLaw = (b : Array) (e f : Bounds) (t : Plain) → Rises e f → Holds b e t → Holds b f t

-- ---- refusals

-- a file whose tree is held within the limits is refused by no line
abbrev pub NotRefused : Type 0
NotRefused = (b : Array) (e : Bounds) (s : Superblock) (g : GroupAt) (ls : FullLinks) (h : HoldsFull b e s g ls)
    (r : Refusal)
    → IsWithinLimits b (all_blocks s h.driver (Group g ls)) (Group g ls) → IsFileRefused b e r → ⊥

-- and a file is refused for one reason
abbrev pub OneRefusal : Type 0
OneRefusal = (b : Array) (e : Bounds) (r q : Refusal) → IsFileRefused b e r → IsFileRefused b e q → r ≡ q
