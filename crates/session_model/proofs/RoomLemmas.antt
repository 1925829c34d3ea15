-- What the first lines over an empty file take.
use Rattle.std.proofs.Common.{◌≡◌, ℕ, ◌<◌, List, [], ◌∷◌, ◌++◌, replicate, Ok, Result, refl}
use Rattle.std.proofs.Common.{◌∙◌, ap, subst, arith, lit≤}
use Rattle.outside.specs.Array.{bytes_of}
use Rattle.outside.specs.Blocks.{Block}
use Rattle.block_space.specs.declared.plan.Take.{Take}
use Rattle.node_codec.specs.declared.heap.HeapHead.{HeapHead}
use Rattle.object_model.specs.declared.answer.Code.{Code}
use Rattle.object_model.specs.Tree.{Group, Empty, Name}
use Rattle.file_model.specs.Groups.{Found, GroupIndex, HasLinks, index_offsets}
use Rattle.file_model.specs.Holds.{GroupAt, Full, FullLinks, founds}
use Rattle.file_model.proofs.NoFault.{no_element}
use Rattle.group_room.specs.Used.{EndBefore, IsUsedLen, segment_takes}
use Rattle.group_room.specs.Room.{Grows, FirstName, LaterName, group_takes, header_take, leaf_take, node_take}
use Rattle.group_room.specs.Room.{TakesName as NameTakes}
use Rattle.session_model.specs.Room.{TakesName, TakesObject}
use Rattle.session_model.specs.GroupFile.{empty_bytes, empty_ks, empty_root, empty_tree, empty_index}
use Rattle.session_model.specs.Examples.{GroupTakes, DataTakes}
use Rattle.session_model.proofs.EmptyFile.{index_blocks, links, head_is, index_is}

abbrev leaf : Take
leaf = leaf_take empty_ks

-- no text of an empty group is in use
none_used : (segment : List ℕ) (n : ℕ) → EndBefore segment (index_offsets empty_index) n
none_used segment n at text has stands = absurd (no_element at has)

eight : (segment : List ℕ) (used : ℕ) → IsUsedLen segment (index_offsets empty_index) used → used ≡ 8
eight segment used h =
    let low = h.some in
    let high = h.least 8 refl (lit≤ tt) (none_used segment 8) in
    omega (arith, low, high)

-- and one symbol table node is taken for a first name
one_leaf : (level leaves nodes : ℕ) → Grows empty_ks empty_index level leaves nodes → (leaves ≡ 1) × (nodes ≡ 0)
one_leaf level leaves nodes (FirstName none one zero_nodes) = (one, zero_nodes)
one_leaf level leaves nodes (LaterName more) = let h : 0 < 0 = more.some in absurd (omega (arith, h))

abbrev name_takes : (used leaves nodes : ℕ) → Name → List Take
name_takes used leaves nodes name =
    segment_takes used 88 name ++ replicate leaves leaf ++ replicate nodes (node_take empty_ks)

made : (used leaves nodes n : ℕ) → used ≡ 8 → leaves ≡ 1 → nodes ≡ 0
    → name_takes used leaves nodes (n ∷ []) ≡ leaf ∷ []
made used leaves nodes n is one none = rw (is, one, none) refl

named : (n level : ℕ) (segment : List ℕ) (ts : List Take)
    → NameTakes empty_ks empty_index level 88 segment (n ∷ []) ts → ts ≡ leaf ∷ []
named n level segment ts x =
    let g = one_leaf level x.leaves x.nodes x.grows in
    x.are ∙ made x.used x.leaves x.nodes n (eight segment x.used x.used_len) g.0 g.1

takes_leaf : (n level : ℕ) (segment : List ℕ) → NameTakes empty_ks empty_index level 88 segment (n ∷ []) (leaf ∷ [])
takes_leaf n level segment = record {
  used = 8;
  used_len = record {
    whole = refl;
    some = lit≤ tt;
    behind = none_used segment 8;
    least = λ m whole some behind. some;
  };
  leaves = 1;
  nodes = 0;
  grows = FirstName refl refl refl;
  are = refl;
}

abbrev okay : Full → Result Full Code
okay t = Ok t

root_is : (g : GroupAt) (ls : FullLinks) → okay empty_tree ≡ okay (Group g ls) → empty_root ≡ g
root_is g ls h = cc

abbrev RootTakes : (n : ℕ) (ts : List Take) (g : GroupAt) (fs : List Found) (bs : List Block)
    → HasLinks empty_bytes empty_ks g.tree_at g.heap_at fs bs → Type 0
RootTakes n ts g fs bs h =
    NameTakes empty_ks h.index h.level h.head.len (bytes_of empty_bytes h.head.segment_at h.head.len) (n ∷ []) ts

at_root : (n : ℕ) (ts : List Take) (fs : List Found) (bs : List Block)
    (h : HasLinks empty_bytes empty_ks 136 680 fs bs) → RootTakes n ts empty_root fs bs h → ts ≡ leaf ∷ []
at_root n ts fs bs h takes =
    let segment = bytes_of empty_bytes h.head.segment_at h.head.len in
    let len : h.head.len ≡ 88 = ap (λ (x : HeapHead). x.len) (head_is fs bs h) in
    named n h.level segment ts
    (subst (λ l. NameTakes empty_ks empty_index h.level l segment (n ∷ []) ts) len
    (subst (λ (i : GroupIndex). NameTakes empty_ks i h.level h.head.len segment (n ∷ []) ts)
    (index_is fs bs h).1 takes))

at_group : (n : ℕ) (ts : List Take) (g : GroupAt) → empty_root ≡ g → (fs : List Found) (bs : List Block)
    (h : HasLinks empty_bytes empty_ks g.tree_at g.heap_at fs bs) → RootTakes n ts g fs bs h → ts ≡ leaf ∷ []
at_group n ts g is = subst
    (λ (x : GroupAt). (fs : List Found) (bs : List Block)
    (h : HasLinks empty_bytes empty_ks x.tree_at x.heap_at fs bs) → RootTakes n ts x fs bs h → ts ≡ leaf ∷ [])
    is (at_root n ts)

-- a name more in the root
name_is : (n : ℕ) (ts : List Take) → TakesName empty_bytes empty_ks empty_tree ((n ∷ []) ∷ []) ts → ts ≡ leaf ∷ []
name_is n ts x =
    at_group n ts x.group (root_is x.group x.links x.parent) (founds x.links) x.blocks x.has x.takes

takes_name : (n : ℕ) → TakesName empty_bytes empty_ks empty_tree ((n ∷ []) ∷ []) (leaf ∷ [])
unfolding links
takes_name n = record {
  group = empty_root;
  links = Empty;
  parent = refl;
  blocks = index_blocks;
  has = links;
  takes = takes_leaf n 0 (bytes_of empty_bytes 712 88);
}

-- an object more under the root
object_takes : (n : ℕ) (own ts : List Take) → TakesObject empty_bytes empty_ks empty_tree ((n ∷ []) ∷ []) own ts
    → ts ≡ own ++ leaf ∷ []
object_takes n own ts x = x.are ∙ ap (λ (more : List Take). own ++ more) (name_is n x.name x.takes_name)

takes_object : (n : ℕ) (own ts : List Take) → ts ≡ own ++ leaf ∷ []
    → TakesObject empty_bytes empty_ks empty_tree ((n ∷ []) ∷ []) own ts
takes_object n own ts h = record { name = leaf ∷ []; takes_name = takes_name n; are = h }

pub group_takes_lem : GroupTakes
group_takes_lem ts =
    (λ x. object_takes 103 (group_takes empty_ks) ts x, λ h. takes_object 103 (group_takes empty_ks) ts h)

pub data_takes_lem : DataTakes
data_takes_lem ts =
    (λ x. object_takes 99 (header_take 112 ∷ []) ts x, λ h. takes_object 99 (header_take 112 ∷ []) ts h)
