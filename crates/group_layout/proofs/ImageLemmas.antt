-- Images of nodes, and what they tell where they stand.
use Rattle.std.proofs.Common.{◌≤◌, arith, ◌≡◌, ℕ, ◌+◌, ◌-◌, ◌*◌, ◌<◌, min, List, [], ◌∷◌, ◌++◌, length, take, drop, subst}
use Rattle.std.proofs.Common.{get_or, sym, ◌∙◌, ap}
use Rattle.std.proofs.lemmas.List.{drop_more, drop_all, length-take}
use Rattle.std.proofs.lemmas.List.Elements.{All-take, All-drop}
use Rattle.std.specs.List.{All}
use Rattle.outside.specs.Array.{Array, bytes_of}
use Rattle.outside.specs.Blocks.{Block}
use Rattle.node_codec.specs.Snod.{SpellsSnod, FitsSnod, IsCache, snod_len}
use Rattle.node_codec.specs.GroupNodes.{SpellsGroupNode, group_node_len}
use Rattle.node_codec.specs.declared.snod.SnodEntry.{SnodEntry}
use Rattle.node_codec.specs.declared.group_node.GroupNode.{GroupNode}
use Rattle.file_model.specs.Groups.{Ks, leaf_block, node_block}
use Rattle.plan_pieces.specs.Images.{HaveImages, image_block}
use Rattle.plan_pieces.specs.declared.image.Image.{Image}
use Rattle.group_layout.specs.Leaves.{AreLeavesSpelled}
use Rattle.group_layout.specs.Nodes.{AreNodesSpelled}
use Rattle.group_layout.specs.Placing.{IsNodeImage, IsLeafImage}
use Rattle.group_layout.proofs.Parts.{part_rest, part_is}

pub images_left : (b : Array) (xs ys : List Image) → HaveImages b (xs ++ ys) → HaveImages b xs
images_left b [] ys h = tt
images_left b (x ∷ xs) ys h = (h.0, images_left b xs ys h.1)

pub images_right : (b : Array) (xs ys : List Image) → HaveImages b (xs ++ ys) → HaveImages b ys
images_right b [] ys h = h
images_right b (x ∷ xs) ys h = images_right b xs ys h.1

pub images_join : (b : Array) (xs ys : List Image) → HaveImages b xs → HaveImages b ys → HaveImages b (xs ++ ys)
images_join b [] ys h g = g
images_join b (x ∷ xs) ys h g = (h.0, images_join b xs ys h.1 g)

-- where an image of this address and length stands, its bytes do
stands : (b : Array) (at len : ℕ) (image : Image) → image.at ≡ at → length image.bytes ≡ len
    → HaveImages b (image ∷ []) → image.bytes ≡ bytes_of b at len
stands b at len image address long h =
    sym h.0 ∙ ap (λ (n : ℕ). bytes_of b image.at n) long ∙ ap (λ (n : ℕ). bytes_of b n len) address

-- ---- B-tree nodes

pub node_image_block : (ks : Ks) (at : ℕ) (n : GroupNode) (image : Image) → IsNodeImage ks.internal at n image
    → image_block image ≡ node_block ks at
node_image_block ks at n image is =
    let block : ℕ → ℕ → Block = λ a l. record { start = a; len = l } in
    ap (λ (l : ℕ). block image.at l) is.spelled.block.len
    ∙ ap (λ (a : ℕ). block a (group_node_len ks.internal)) is.address

nodes_push : (b : Array) (ks : Ks) (ats : List ℕ) (ns : List GroupNode) (at : ℕ) (n : GroupNode)
    → AreNodesSpelled b ks ats ns → SpellsGroupNode ks.internal n (bytes_of b at (group_node_len ks.internal))
    → AreNodesSpelled b ks (ats ++ at ∷ []) (ns ++ n ∷ [])
nodes_push b ks [] [] at n h s = (s, tt)
nodes_push b ks [] (m ∷ ns) at n h s = absurd h
nodes_push b ks (a ∷ ats) [] at n h s = absurd h
nodes_push b ks (a ∷ ats) (m ∷ ns) at n h s = (h.0, nodes_push b ks ats ns at n h.1 s)

pub node_image_more : (b : Array) (ks : Ks) (images : List Image) (ats : List ℕ) (ns : List GroupNode) (at : ℕ)
    (n : GroupNode) (image : Image) → IsNodeImage ks.internal at n image
    → (HaveImages b images → AreNodesSpelled b ks ats ns) → HaveImages b (images ++ image ∷ [])
    → AreNodesSpelled b ks (ats ++ at ∷ []) (ns ++ n ∷ [])
node_image_more b ks images ats ns at n image is before h =
    let len : ℕ = group_node_len ks.internal in
    let here = stands b at len image is.address is.spelled.block.len (images_right b images (image ∷ []) h) in
    nodes_push b ks ats ns at n (before (images_left b images (image ∷ []) h))
    (subst (λ (l : List ℕ). SpellsGroupNode ks.internal n l) here is.spelled)

-- ---- symbol table nodes

pub leaf_image_block : (ks : Ks) (at : ℕ) (es : List SnodEntry) (image : Image) → IsLeafImage ks.leaf at es image
    → image_block image ≡ leaf_block ks at
leaf_image_block ks at es image is =
    let block : ℕ → ℕ → Block = λ a l. record { start = a; len = l } in
    ap (λ (l : ℕ). block image.at l) is.spelled.block.len
    ∙ ap (λ (a : ℕ). block a (snod_len ks.leaf)) is.address

pub leaf_image_more : (b : Array) (ks : Ks) (images : List Image) (ats : List ℕ) (es : List SnodEntry)
    (i from to : ℕ) (image : Image) → i < length ats → to ≡ from + min (2 * ks.leaf) (length es - from)
    → IsLeafImage ks.leaf (get_or ats i 0) (take (to - from) (drop from es)) image
    → (HaveImages b images → AreLeavesSpelled b ks (drop i ats) (drop from es) → AreLeavesSpelled b ks ats es)
    → HaveImages b (images ++ image ∷ []) → AreLeavesSpelled b ks (drop (i + 1) ats) (drop to es)
    → AreLeavesSpelled b ks ats es
leaf_image_more b ks images ats es i from to image lt is told before h later =
    let room : ℕ = 2 * ks.leaf in
    let len : ℕ = snod_len ks.leaf in
    let at : ℕ = get_or ats i 0 in
    let here = stands b at len image told.address told.spelled.block.len (images_right b images (image ∷ []) h) in
    let own = subst (λ (l : List ℕ). SpellsSnod ks.leaf (take (to - from) (drop from es)) l) here told.spelled in
    let whole = subst (λ (l : List SnodEntry). SpellsSnod ks.leaf l (bytes_of b at len)) (part_is room from to es is) own in
    let behind = subst (λ (l : List SnodEntry). AreLeavesSpelled b ks (drop (i + 1) ats) l)
    (ap (λ (n : ℕ). drop n es) is ∙ sym (part_rest room from es)) later in
    before (images_left b images (image ∷ []) h)
    (subst (λ (l : List ℕ). AreLeavesSpelled b ks l (drop from es)) (sym (drop_more ats i 0 lt)) (whole, behind))

-- a part of the entries fits a node
pub part_fits : (k from to : ℕ) (es : List SnodEntry) → All IsCache es → to ≡ from + min (2 * k) (length es - from)
    → FitsSnod k (take (to - from) (drop from es))
part_fits k from to es caches is = record {
  room = omega (arith, length-take (to - from) (drop from es), is);
  caches = All-take IsCache (to - from) (drop from es) (All-drop IsCache from es caches);
}

-- where no node is left, all are spelled
pub none_left : (b : Array) (ks : Ks) (ats : List ℕ) (es : List SnodEntry) (i from : ℕ) → length ats ≤ i
    → (AreLeavesSpelled b ks (drop i ats) (drop from es) → AreLeavesSpelled b ks ats es) → AreLeavesSpelled b ks ats es
none_left b ks ats es i from le so =
    so (subst (λ (l : List ℕ). AreLeavesSpelled b ks l (drop from es)) (sym (drop_all i ats le)) tt)
