-- One node that was read.
use Rattle.std.proofs.Common.{◌≡◌, ℕ, ◌+◌, List, [], ◌∷◌, ◌++◌, length, Option, sym, ◌∙◌, ap, subst, arith}
use Rattle.std.specs.List.{flat_map}
use Rattle.std.proofs.lemmas.List.{append-nil}
use Rattle.outside.specs.Array.{Array, bytes_of}
use Rattle.node_codec.specs.GroupNodes.{SpellsGroupNode, group_node_len, group_node_of}
use Rattle.node_codec.specs.Snod.{SpellsSnod, snod_len}
use Rattle.node_codec.specs.declared.group_node.GroupNode.{GroupNode}
use Rattle.node_codec.specs.declared.snod.SnodEntry.{SnodEntry}
use Rattle.file_model.specs.Groups.{key_offsets, entry_offsets}
use Rattle.plan_pieces.specs.declared.image.Image.{Image}
use Rattle.group_rows.specs.declared.gathered.Gathered.{Gathered}
use Rattle.group_heap.specs.Greatest.{IsGreatest}
use Rattle.group_rows.specs.Rows.{node_at, entries_at, node_image, leaf_image, head_image}
use Rattle.group_rows.specs.Gathering.{Adds, AddsNodes, AddsLeaves}

-- a node that its bytes spell
pub node_is : (b : Array) (k at : ℕ) (n : GroupNode) (bytes : List ℕ) → bytes ≡ bytes_of b at (group_node_len k)
    → SpellsGroupNode k n bytes → n ≡ node_at b k at
unfolding node_at
node_is b k at n bytes read spelled = spelled.value ∙ ap group_node_of read

pub entries_are : (b : Array) (k at : ℕ) (es : List SnodEntry) (bytes : List ℕ) → bytes ≡ bytes_of b at (snod_len k)
    → SpellsSnod k es bytes → es ≡ entries_at b k at
unfolding entries_at
entries_are b k at es bytes read spelled =
    (subst (SpellsSnod k es) read spelled).value

-- one image more, and the offsets of one node more
pub record OneMore (image : Image) (offsets : List ℕ) (named : ℕ) (old new : Gathered) : Type 0 where
  pub images : new.images.items ≡ old.images.items ++ image ∷ []
  pub mine : Option ℕ
  pub greatest : IsGreatest offsets mine
  pub last : (os ps : List ℕ) → IsGreatest os old.last → IsGreatest ps mine → IsGreatest (os ++ ps) new.last
  pub left : named + new.left ≡ old.left

pub one_more : (image : Image) (offsets : List ℕ) (named : ℕ) (old new : Gathered) → OneMore image offsets named old new
    → Adds (image ∷ []) offsets named old new
one_more image offsets named old new h = record {
  images = h.images;
  last = λ os g. h.last os offsets g h.greatest;
  left = h.left;
}

pub adds_node : (b : Array) (k at : ℕ) (n : GroupNode) (bytes : List ℕ) (old new : Gathered) → n ≡ node_at b k at
    → bytes ≡ bytes_of b at (group_node_len k)
    → OneMore (record { at = at; bytes = bytes }) (key_offsets n) (length n.children) old new
    → AddsNodes b k (at ∷ []) old new
unfolding node_image
adds_node b k at n bytes old new is read h =
    let one = one_more (record { at = at; bytes = bytes }) (key_offsets n) (length n.children) old new h in
    let image = subst (λ (bs : List ℕ). Adds (record { at = at; bytes = bs } ∷ []) (key_offsets n) (length n.children)
    old new) read one in
    let node = subst (λ (m : GroupNode). Adds (node_image b k at ∷ []) (key_offsets m) (length m.children) old new) is
    image in
    let offsets = subst (λ (l : List ℕ). Adds (node_image b k at ∷ []) l (length (node_at b k at).children) old new)
    (sym (append-nil (key_offsets (node_at b k at)))) node in
    subst (λ (l : List ℕ). Adds (node_image b k at ∷ []) (key_offsets (node_at b k at) ++ []) (length l) old new)
    (sym (append-nil (node_at b k at).children)) offsets

pub adds_leaf : (b : Array) (k at : ℕ) (es : List SnodEntry) (bytes : List ℕ) (old new : Gathered)
    → es ≡ entries_at b k at → bytes ≡ bytes_of b at (snod_len k)
    → OneMore (record { at = at; bytes = bytes }) (flat_map entry_offsets es) 0 old new
    → AddsLeaves b k (at ∷ []) old new
unfolding leaf_image
adds_leaf b k at es bytes old new is read h =
    let one = one_more (record { at = at; bytes = bytes }) (flat_map entry_offsets es) 0 old new h in
    let image = subst (λ (bs : List ℕ). Adds (record { at = at; bytes = bs } ∷ []) (flat_map entry_offsets es) 0
    old new) read one in
    let whole = is ∙ sym (append-nil (entries_at b k at)) in
    subst (λ (l : List SnodEntry). Adds (leaf_image b k at ∷ []) (flat_map entry_offsets l) 0 old new) whole image

pub adds_head : (b : Array) (at : ℕ) (bytes : List ℕ) (old new : Gathered) → bytes ≡ bytes_of b at 32
    → new.images.items ≡ old.images.items ++ record { at = at; bytes = bytes } ∷ [] → new.last ≡ old.last
    → new.left ≡ old.left → Adds (head_image b at ∷ []) [] 0 old new
unfolding head_image
adds_head b at bytes old new read images last left = record {
  images = images ∙ ap (λ (bs : List ℕ). old.images.items ++ record { at = at; bytes = bs } ∷ []) read;
  last = λ os h. subst (λ (l : List ℕ). IsGreatest l new.last) (sym (append-nil os))
      (subst (IsGreatest os) (sym last) h);
  left = omega (arith, left);
}
