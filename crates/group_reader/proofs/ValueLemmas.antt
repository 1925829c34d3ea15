-- The index as a value, from what is read of it node by node.
use Rattle.std.proofs.Common.{◌≡◌, ℕ, suc, List, [], ◌∷◌, ◌++◌, refl, sym, ◌∙◌, ap, subst}
use Rattle.outside.specs.Array.{Array}
use Rattle.outside.specs.Blocks.{Block}
use Rattle.node_codec.specs.declared.group_node.GroupNode.{GroupNode}
use Rattle.node_codec.specs.declared.snod.SnodEntry.{SnodEntry}
use Rattle.file_model.specs.Index.{Bottom, Node, NoMore, Next, each}
use Rattle.file_model.specs.Groups.{Ks, Found, GroupIndexes, IsLeaf, AreIndexes, AreKeyed, AreBetween, StandsAt}
use Rattle.file_model.specs.Groups.{address_of, links_within, blocks_within, leaf_block, node_block}
use Rattle.group_reader.specs.Reading.{AreChildren, IsNodeAt}

-- children that were read, as values
pub record AreTold (b : Array) (ks : Ks) (s : List ℕ) (height : ℕ) (keys children : List ℕ) (fs : List Found)
    (bs : List Block) : Type 0 where
  pub indexes : GroupIndexes
  pub stand : AreIndexes b ks s height indexes
  pub keyed : AreKeyed s keys indexes
  pub addresses : each address_of indexes ≡ children
  pub links : fs ≡ links_within indexes
  pub blocks : bs ≡ blocks_within ks indexes

pub are_told : (b : Array) (ks : Ks) (s : List ℕ) (height : ℕ) (keys children : List ℕ) (fs : List Found)
    (bs : List Block) → AreChildren s (StandsAt b ks s height) keys children fs bs
    → AreTold b ks s height keys children fs bs
are_told b ks s height keys [] fs bs h =
    record { indexes = NoMore; stand = tt; keyed = tt; addresses = refl; links = h.0; blocks = h.1 }
are_told b ks s height [] (c ∷ cs) fs bs h = absurd h
are_told b ks s height (k ∷ []) (c ∷ cs) fs bs h = absurd h
are_told b ks s height (k ∷ l ∷ keys) (c ∷ cs) fs bs
    (low, high, here, later, own, more, at_low, at_high, child, between, rest, links, blocks) =
    let t = are_told b ks s height (l ∷ keys) cs later more rest in
    record {
      indexes = Next child.index t.indexes;
      stand = (child.stands, t.stand);
      keyed = (low, high, at_low, at_high, subst (AreBetween low high) child.links between, t.keyed);
      addresses = λ j. child.address j ∷ t.addresses j;
      links = links ∙ (λ j. child.links j ++ t.links j);
      blocks = blocks ∙ (λ j. child.blocks j ++ t.blocks j);
    }

-- a node stands with what stands under it
pub node_stands : (b : Array) (ks : Ks) (s : List ℕ) (level at : ℕ) (node : GroupNode) (fs : List Found)
    (bs : List Block) → IsNodeAt b ks at node → node.level ≡ level
    → AreChildren s (StandsAt b ks s level) node.keys node.children fs bs
    → StandsAt b ks s (suc level) at fs (node_block ks at ∷ bs)
node_stands b ks s level at node fs bs spelled is h =
    let t = are_told b ks s level node.keys node.children fs bs h in
    record {
      index = Node (record { at = at; node = node }) t.indexes;
      stands = (record { spelled = spelled; level_is = is; children_are = sym t.addresses }, t.stand, t.keyed);
      address = refl;
      links = t.links;
      blocks = ap (λ (l : List Block). node_block ks at ∷ l) t.blocks;
    }

-- a symbol table node stands
pub leaf_stands : (b : Array) (ks : Ks) (s : List ℕ) (at : ℕ) (es : List SnodEntry) (fs : List Found)
    → IsLeaf b ks s (record { at = at; entries = es; links = fs }) → StandsAt b ks s 0 at fs (leaf_block ks at ∷ [])
leaf_stands b ks s at es fs leaf = record {
  index = Bottom (record { at = at; entries = es; links = fs });
  stands = leaf;
  address = refl;
  links = refl;
  blocks = refl;
}
