-- Blocks of a level that are added, those of nodes that are there and those that are taken.
use Rattle.std.proofs.Common.{◌≡◌, ℕ, List, [], ◌∷◌, ◌++◌, length, take, drop, map, refl, subst, sym, ◌∙◌, ap}
use Rattle.std.proofs.lemmas.List.{append_assoc, append-nil, map-append, take-map, drop-map, take_at, drop_at}
use Rattle.std.proofs.lemmas.List.{take-append-drop}
use Rattle.outside.specs.Array.{Array}
use Rattle.outside.specs.Blocks.{Block}
use Rattle.h5_base.specs.declared.extent.MemClass.TheVariants as class
use Rattle.h5_base.specs.declared.kinds.BlockKind.{BlockKind}
use Rattle.block_space.specs.declared.plan.Take.{Take}
use Rattle.plan_pieces.specs.Images.{HaveImages, image_block, image_blocks, images_of, take_of, takes_of}
use Rattle.plan_pieces.specs.declared.image.Image.{Image}
use Rattle.plan_pieces.specs.declared.image.NewBlock.{NewBlock}
use Rattle.group_layout.specs.Laying.{ats_of}
use Rattle.group_layout.specs.Placing.{Adds, IsPlaced, filled, laid_images}
use Rattle.group_layout.specs.declared.row.Row.{Row}
use Rattle.group_layout.specs.declared.row.Laid.{Laid}
use Rattle.group_layout.proofs.ImageLemmas.{images_left, images_right, images_join}

abbrev pub long_block : (len at : ℕ) → Block
long_block len at = record { start = at; len = len }

abbrev pub long_take : (kind : BlockKind) (len : ℕ) → Take
long_take kind len = record { class = class.Tree; len = len; kind = kind }

filled_images : (kind : BlockKind) (xs : List Image) → images_of (map (filled kind) xs) ≡ xs
filled_images kind [] = refl
filled_images kind (x ∷ xs) = ap (λ (l : List Image). x ∷ l) (filled_images kind xs)

-- they are taken with the lengths of their blocks
filled_takes : (kind : BlockKind) (xs : List Image)
    → takes_of (map (filled kind) xs) ≡ map (λ (b : Block). long_take kind b.len) (image_blocks xs)
filled_takes kind [] = refl
filled_takes kind (x ∷ xs) = ap (λ (l : List Take). long_take kind (length x.bytes) ∷ l) (filled_takes kind xs)

same_takes : (kind : BlockKind) (len : ℕ) (ats : List ℕ)
    → map (λ (b : Block). long_take kind b.len) (map (long_block len) ats) ≡ map (λ (a : ℕ). long_take kind len) ats
same_takes kind len [] = refl
same_takes kind len (at ∷ ats) = ap (λ (l : List Take). long_take kind len ∷ l) (same_takes kind len ats)

-- the bytes of what was there before, and of what is added
record Parted (b : Array) (old new : List Image) (olds news : List NewBlock) : Type 0 where
  before : HaveImages b (old ++ images_of olds)
  added : HaveImages b (new ++ images_of news)

parted : (b : Array) (old new : List Image) (olds news : List NewBlock)
    → HaveImages b ((old ++ new) ++ images_of (olds ++ news)) → Parted b old new olds news
parted b old new olds news h =
    let writes = images_left b (old ++ new) (images_of (olds ++ news)) h in
    let both = images_right b (old ++ new) (images_of (olds ++ news)) h in
    let fills = subst (HaveImages b) (map-append (λ (n : NewBlock). n.image) olds news) both in
    record {
      before = images_join b old (images_of olds) (images_left b old new writes)
          (images_left b (images_of olds) (images_of news) fills);
      added = images_join b new (images_of news) (images_right b old new writes)
          (images_right b (images_of olds) (images_of news) fills);
    }

whole_laid : (kind : BlockKind) (count : ℕ) (images : List Image) (before after : Laid)
    → IsPlaced kind count images before after
    → laid_images after ≡ (before.writes.items ++ take count images)
    ++ images_of (before.fills.items ++ map (filled kind) (drop count images))
whole_laid kind count images before after is =
    ap (λ (l : List Image). l ++ images_of after.fills.items) is.writes
    ∙ ap (λ (l : List NewBlock). (before.writes.items ++ take count images) ++ images_of l) is.fills

-- the images stand where all do
pub placed_stand : (b : Array) (kind : BlockKind) (count : ℕ) (images : List Image) (before after : Laid)
    → IsPlaced kind count images before after → HaveImages b (laid_images after) → HaveImages b images
placed_stand b kind count images before after is h =
    let whole = subst (HaveImages b) (whole_laid kind count images before after is) h in
    let parts = parted b before.writes.items (take count images) before.fills.items (map (filled kind) (drop count images))
    whole in
    subst (HaveImages b) (ap (λ (l : List Image). take count images ++ l) (filled_images kind (drop count images))
    ∙ take-append-drop count images) parts.added

-- the blocks of some images, as their addresses are split
split_blocks : (len : ℕ) (row : Row) (images : List Image) → image_blocks images ≡ map (long_block len) (ats_of row)
    → (image_blocks (take (length row.old) images) ≡ map (long_block len) row.old)
    × (image_blocks (drop (length row.old) images) ≡ map (long_block len) row.new)
split_blocks len row images are =
    let n = length row.old in
    let block = long_block len in (
      sym (take-map image_block n images) ∙ ap (take n) are ∙ take-map block n (ats_of row)
          ∙ ap (map block) (take_at row.old row.new n refl),
      sym (drop-map image_block n images) ∙ ap (drop n) are ∙ drop-map block n (ats_of row)
          ∙ ap (map block) (drop_at row.old row.new n refl),
    )

pub placed_adds : (kind : BlockKind) (len : ℕ) (row : Row) (images : List Image) (before after : Laid)
    → image_blocks images ≡ map (long_block len) (ats_of row) → IsPlaced kind (length row.old) images before after
    → Adds before after (map (long_block len) row.old) (map (long_block len) row.new)
    (map (λ (a : ℕ). long_take kind len) row.new)
placed_adds kind len row images before after are is =
    let n = length row.old in
    let fills = map (filled kind) (drop n images) in
    let olds = before.fills.items in
    let blocks = split_blocks len row images are in
    record {
      writes = ap image_blocks is.writes ∙ map-append image_block before.writes.items (take n images)
          ∙ ap (λ (l : List Block). image_blocks before.writes.items ++ l) blocks.0;
      blocks = ap (λ (l : List NewBlock). image_blocks (images_of l)) is.fills
          ∙ ap image_blocks (map-append (λ (x : NewBlock). x.image) olds fills)
          ∙ map-append image_block (images_of olds) (images_of fills)
          ∙ ap (λ (l : List Image). image_blocks (images_of olds) ++ image_blocks l) (filled_images kind (drop n images))
          ∙ ap (λ (l : List Block). image_blocks (images_of olds) ++ l) blocks.1;
      takes = ap takes_of is.fills ∙ map-append take_of olds fills
          ∙ ap (λ (l : List Take). takes_of olds ++ l) (filled_takes kind (drop n images)
          ∙ ap (map (λ (b : Block). long_take kind b.len)) blocks.1 ∙ same_takes kind len row.new);
      keeps = λ b h.
          (parted b before.writes.items (take n images) olds fills
          (subst (HaveImages b) (whole_laid kind n images before after is) h)).before;
    }

-- ---- level after level

pub adds_none : (l : Laid) → Adds l l [] [] []
adds_none l = record {
  writes = sym (append-nil (image_blocks l.writes.items));
  blocks = sym (append-nil (image_blocks (images_of l.fills.items)));
  takes = sym (append-nil (takes_of l.fills.items));
  keeps = λ b h. h;
}

pub adds_more : (x y z : Laid) (there those taken others : List Block) (ts us : List Take) → Adds x y there taken ts
    → Adds y z those others us → Adds x z (there ++ those) (taken ++ others) (ts ++ us)
adds_more x y z there those taken others ts us a c = record {
  writes = c.writes ∙ ap (λ (l : List Block). l ++ those) a.writes ∙ append_assoc _ there those;
  blocks = c.blocks ∙ ap (λ (l : List Block). l ++ others) a.blocks ∙ append_assoc _ taken others;
  takes = c.takes ∙ ap (λ (l : List Take). l ++ us) a.takes ∙ append_assoc _ ts us;
  keeps = λ b h. a.keeps b (c.keeps b h);
}
