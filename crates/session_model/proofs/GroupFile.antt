-- The file with one new group holds that group, in these places.
use Rattle.std.proofs.Common.{◌≡◌, ◌≢◌, List, [], ◌∷◌, refl, inl, inr, lit≤, lit<}
use Rattle.std.proofs.lemmas.List.Elements.{All-nil, All-cons}
use Rattle.h5_base.specs.declared.extent.MemClass.TheVariants as class
use Rattle.h5_base.specs.Fields.{u16_at, u32_at, u64_at}
use Rattle.empty_file.specs.Empty.{zeros}
use Rattle.super_codec.specs.Super.{Spells}
use Rattle.header_codec.specs.declared.types.Prefix.{Prefix}
use Rattle.node_codec.specs.GroupNodes.{SpellsGroupNode}
use Rattle.node_codec.specs.Snod.{SpellsSnod, IsCache}
use Rattle.node_codec.specs.Heap.{SpellsHeap}
use Rattle.node_codec.specs.declared.heap.HeapHead.{HeapHead}
use Rattle.outside.specs.Array.{bytes_of}
use Rattle.outside.specs.Blocks.{Block}
use Rattle.file_model.specs.Headers.{Met, Part, IsMet, IsHeader}
use Rattle.file_model.specs.Index.{Node, NoMore}
use Rattle.file_model.specs.Groups.{HasText, HasLinks}
use Rattle.file_model.specs.Holds.{IsGroup, HoldsFull, super_bytes_of}
use Rattle.file_model.specs.Laws.{one_region, all_blocks}
use Rattle.file_model.proofs.MetLaws.{met_of_drawn, counted_of}
use Rattle.session_model.specs.State.{full_of}
use Rattle.session_model.specs.GroupFile.{empty_ks, empty_super, bare_node, group_file, group_bytes}
use Rattle.session_model.specs.GroupFile.{group_entry, group_found, full_node, group_index, group_root, new_root}
use Rattle.session_model.specs.GroupFile.{group_links, group_state}

super_is : Spells empty_super (super_bytes_of group_bytes (one_region 1832))
unfolding empty_super group_file zeros u16_at u32_at u64_at
super_is = record {
  block = record {
    signed = refl;
    version = lit≤ tt;
    whole = lit≤ tt;
    free_space_version = refl;
    root_version = refl;
    shared_version = refl;
    offsets = refl;
    lengths = refl;
    base = refl;
    leaf_k = (lit≤ tt, lit≤ tt);
    internal_k = (lit≤ tt, lit≤ tt);
    chunk_k = (lit≤ tt, lit≤ tt);
  };
  value = refl;
}

prefix : Prefix
prefix = record { messages = 1; links = 1; size = 24 }

-- ---- the root

root_table : Met
root_table = record {
  kind = 0x11;
  flags = 0;
  at = 120;
  body = 136 ∷ 0 ∷ 0 ∷ 0 ∷ 0 ∷ 0 ∷ 0 ∷ 0 ∷ 168 ∷ 2 ∷ 0 ∷ 0 ∷ 0 ∷ 0 ∷ 0 ∷ 0 ∷ [];
}

root_part : Part
root_part = record { block = record { start = 112; len = 24 }; messages = root_table ∷ [] }

root_parts : List Part
unfolding root_part
root_parts = root_part ∷ []

root_read : IsMet group_bytes root_part
unfolding root_part root_table group_file zeros u16_at u32_at u64_at
root_read = record {
  stand = (
    record { message = record { head = lit≤ tt; multiple = refl; whole = lit≤ tt }; value = refl },
    refl,
    refl,
    tt,
  );
  whole = (λ kind. lit≤ tt, tt);
}

root_header : IsHeader group_bytes 96 prefix root_parts
unfolding prefix root_table root_part root_parts group_file zeros u16_at u32_at u64_at
root_header = record {
  spelled = record { prefix = record { whole = lit≤ tt; version = refl }; value = refl };
  unread = [];
  met = met_of_drawn group_bytes (record { start = 112; len = 24 }) root_parts [] ([], refl, refl)
      (All-cons (IsMet group_bytes) root_part [] root_read (All-nil (IsMet group_bytes)));
  counted = counted_of group_bytes 1 root_parts (lit≤ tt) refl;
}

root_head : HeapHead
root_head = record { len = 88; free = 16; segment_at = 712 }

root_heap : SpellsHeap root_head (bytes_of group_bytes 680 32)
unfolding root_head group_file zeros u16_at u32_at u64_at
root_heap = record { block = record { len = refl; signature = refl; version = refl }; value = refl }

root_node_is : SpellsGroupNode 16 full_node (bytes_of group_bytes 136 544)
unfolding group_file zeros u16_at u32_at u64_at
root_node_is = record { block = record { len = refl; signature = refl; kind = refl; room = lit≤ tt }; value = refl }

names_are : SpellsSnod 4 (group_entry ∷ []) (bytes_of group_bytes 1504 328)
unfolding group_file zeros u16_at u32_at u64_at
names_are = record {
  block = record { len = refl; signature = refl; version = refl; room = lit≤ tt };
  value = refl;
  caches = All-cons IsCache _ [] (lit≤ tt) (All-nil IsCache);
}

pub empty_text : HasText (bytes_of group_bytes 712 88) 0 []
unfolding group_file zeros
empty_text = record { inside = lit< tt; stands = refl; ended = refl; no_nul = All-nil _ }

pub g_text : HasText (bytes_of group_bytes 712 88) 8 (103 ∷ [])
unfolding group_file zeros
g_text = record {
  inside = lit< tt;
  stands = refl;
  ended = refl;
  no_nul = All-cons (λ c. c ≢ 0) 103 [] (λ h. cc) (All-nil _);
}

abbrev root_blocks : List Block
root_blocks = record { start = 680; len = 32 } ∷ record { start = 712; len = 88 } ∷ record { start = 136; len = 544 }
    ∷ record { start = 1504; len = 328 } ∷ []

root_links : HasLinks group_bytes empty_ks 136 680 (group_found ∷ []) root_blocks
unfolding root_head
root_links = record {
  head = root_head;
  spelled = root_heap;
  level = 0;
  index = group_index;
  root = refl;
  stands = (
    record { spelled = root_node_is; level_is = refl; children_are = refl },
    (record { spelled = names_are; links = (g_text, (lit≤ tt, refl), tt); ordered = (tt, tt) }, tt),
    ([], 103 ∷ [], empty_text, g_text, ((refl, refl), tt), tt),
  );
  links = refl;
  ordered = (tt, tt);
  blocks = refl;
}

root_is : IsGroup group_bytes empty_ks group_root (group_found ∷ [])
unfolding group_root prefix root_part root_parts root_table u64_at
root_is = record {
  prefix = prefix;
  parts = root_parts;
  header = root_header;
  table = record { table = root_table; first = refl; tree_at = refl; heap_at = refl };
  index = root_blocks;
  links = root_links;
  blocks = refl;
}

-- ---- the new group

new_table : Met
new_table = record {
  kind = 0x11;
  flags = 0;
  at = 824;
  body = 72 ∷ 3 ∷ 0 ∷ 0 ∷ 0 ∷ 0 ∷ 0 ∷ 0 ∷ 104 ∷ 5 ∷ 0 ∷ 0 ∷ 0 ∷ 0 ∷ 0 ∷ 0 ∷ [];
}

new_part : Part
new_part = record { block = record { start = 816; len = 24 }; messages = new_table ∷ [] }

new_parts : List Part
unfolding new_part
new_parts = new_part ∷ []

new_read : IsMet group_bytes new_part
unfolding new_part new_table group_file zeros u16_at u32_at u64_at
new_read = record {
  stand = (
    record { message = record { head = lit≤ tt; multiple = refl; whole = lit≤ tt }; value = refl },
    refl,
    refl,
    tt,
  );
  whole = (λ kind. lit≤ tt, tt);
}

new_header : IsHeader group_bytes 800 prefix new_parts
unfolding prefix new_table new_part new_parts group_file zeros u16_at u32_at u64_at
new_header = record {
  spelled = record { prefix = record { whole = lit≤ tt; version = refl }; value = refl };
  unread = [];
  met = met_of_drawn group_bytes (record { start = 816; len = 24 }) new_parts [] ([], refl, refl)
      (All-cons (IsMet group_bytes) new_part [] new_read (All-nil (IsMet group_bytes)));
  counted = counted_of group_bytes 1 new_parts (lit≤ tt) refl;
}

new_head : HeapHead
new_head = record { len = 88; free = 8; segment_at = 1416 }

new_heap : SpellsHeap new_head (bytes_of group_bytes 1384 32)
unfolding new_head group_file zeros u16_at u32_at u64_at
new_heap = record { block = record { len = refl; signature = refl; version = refl }; value = refl }

new_node_is : SpellsGroupNode 16 bare_node (bytes_of group_bytes 840 544)
unfolding group_file zeros u16_at u32_at u64_at
new_node_is = record { block = record { len = refl; signature = refl; kind = refl; room = lit≤ tt }; value = refl }

abbrev new_blocks : List Block
new_blocks = record { start = 1384; len = 32 } ∷ record { start = 1416; len = 88 }
    ∷ record { start = 840; len = 544 } ∷ []

new_links : HasLinks group_bytes empty_ks 840 1384 [] new_blocks
unfolding new_head
new_links = record {
  head = new_head;
  spelled = new_heap;
  level = 0;
  index = Node (record { at = 840; node = bare_node }) NoMore;
  root = refl;
  stands = (record { spelled = new_node_is; level_is = refl; children_are = refl }, tt, tt);
  links = refl;
  ordered = tt;
  blocks = refl;
}

new_is : IsGroup group_bytes empty_ks new_root []
unfolding new_root prefix new_part new_parts new_table u64_at
new_is = record {
  prefix = prefix;
  parts = new_parts;
  header = new_header;
  table = record { table = new_table; first = refl; tree_at = refl; heap_at = refl };
  index = new_blocks;
  links = new_links;
  blocks = refl;
}

-- ---- the file

pub group_full : HoldsFull group_bytes (one_region 1832) empty_super group_root group_links
unfolding empty_super group_root new_root
group_full = record {
  super = super_is;
  driver = [];
  driver_is = refl;
  root = refl;
  held = (root_is, ((new_is, tt), tt));
  kept = record {
    some = (
      lit≤ tt,
      (
        lit≤ tt,
        (lit≤ tt, (lit≤ tt, (lit≤ tt, (lit≤ tt, (lit≤ tt, (lit≤ tt, (lit≤ tt, (lit≤ tt, tt)))))))),
      ),
    );
    apart = (
      (
        inl (lit≤ tt),
        (
          inl (lit≤ tt),
          (
            inl (lit≤ tt),
            (
              inl (lit≤ tt),
              (inl (lit≤ tt), (inl (lit≤ tt), (inl (lit≤ tt), (inl (lit≤ tt), (inl (lit≤ tt), tt))))),
            ),
          ),
        ),
      ),
      (
        (
          inl (lit≤ tt),
          (
            inl (lit≤ tt),
            (inl (lit≤ tt), (inl (lit≤ tt), (inl (lit≤ tt), (inl (lit≤ tt), (inl (lit≤ tt), (inl (lit≤ tt), tt)))))),
          ),
        ),
        (
          (
            inl (lit≤ tt),
            (
              inr (lit≤ tt),
              (inl (lit≤ tt), (inl (lit≤ tt), (inl (lit≤ tt), (inl (lit≤ tt), (inl (lit≤ tt), tt))))),
            ),
          ),
          (
            (inr (lit≤ tt), (inl (lit≤ tt), (inl (lit≤ tt), (inl (lit≤ tt), (inl (lit≤ tt), (inl (lit≤ tt), tt)))))),
            (
              (inl (lit≤ tt), (inl (lit≤ tt), (inl (lit≤ tt), (inl (lit≤ tt), (inl (lit≤ tt), tt))))),
              (
                (inr (lit≤ tt), (inr (lit≤ tt), (inr (lit≤ tt), (inr (lit≤ tt), tt)))),
                (
                  (inl (lit≤ tt), (inl (lit≤ tt), (inl (lit≤ tt), tt))),
                  ((inl (lit≤ tt), (inr (lit≤ tt), tt)), ((inr (lit≤ tt), tt), (tt, tt))),
                ),
              ),
            ),
          ),
        ),
      ),
    );
    inside = (
      (class.Super, lit≤ tt, lit≤ tt),
      (
        (class.Super, lit≤ tt, lit≤ tt),
        (
          (class.Super, lit≤ tt, lit≤ tt),
          (
            (class.Super, lit≤ tt, lit≤ tt),
            (
              (class.Super, lit≤ tt, lit≤ tt),
              (
                (class.Super, lit≤ tt, lit≤ tt),
                (
                  (class.Super, lit≤ tt, lit≤ tt),
                  (
                    (class.Super, lit≤ tt, lit≤ tt),
                    ((class.Super, lit≤ tt, lit≤ tt), ((class.Super, lit≤ tt, lit≤ tt), tt)),
                  ),
                ),
              ),
            ),
          ),
        ),
      ),
    );
  };
}

-- all its blocks
abbrev pub all : List Block
all = record { start = 0; len = 96 } ∷ record { start = 96; len = 40 } ∷ record { start = 680; len = 32 }
    ∷ record { start = 712; len = 88 } ∷ record { start = 136; len = 544 } ∷ record { start = 1504; len = 328 }
    ∷ record { start = 800; len = 40 } ∷ record { start = 1384; len = 32 } ∷ record { start = 1416; len = 88 }
    ∷ record { start = 840; len = 544 } ∷ []

pub all_are : all ≡ all_blocks empty_super group_full.driver (full_of group_state)
unfolding empty_super group_root new_root
all_are = rw group_full.driver_is refl
