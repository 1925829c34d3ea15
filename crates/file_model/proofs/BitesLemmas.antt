-- What no bytes hold.
use Rattle.std.proofs.Common.{◌≡◌, ℕ, ◌+◌, ◌<◌, ◌≤◌, true, false, ◌==◌, List, [], ◌∷◌, ◌++◌, map, refl, sym, ◌∙◌, ap}
use Rattle.std.proofs.Common.{subst, arith, inl, inr}
use Rattle.std.specs.List.{flat_map}
use Rattle.std.proofs.lemmas.Bool.Decides.{nat_tests}
use Rattle.h5_base.specs.Fields.{u64_at}
use Rattle.object_model.specs.Tree.{name_lt, AreOrdered}
use Rattle.outside.specs.Blocks.{Block, AreApart, AreKept}
use Rattle.file_model.specs.Headers.{Met, continued, messages_of}
use Rattle.file_model.specs.Groups.{Found, AreBetween}
use Rattle.file_model.specs.Chunks.{AreMultiples}
use Rattle.file_model.specs.Bites.{DisorderInNode, DisorderInGroup, NameBelowKey, NameAboveKey, KeyOutside, SharedByte}
use Rattle.file_model.specs.Bites.{PastEnd, OwnContinuation, LooseChunk, HugeSpace, PlaceInChunk}
use Rattle.file_model.proofs.UniqueGroups.{text_same}

pub disorder_in_node : DisorderInNode
disorder_in_node b ks segment s f g fs wrong are h =
    let right = (subst (λ (l : List Found). AreOrdered (map (λ f. f.name) l)) are h.ordered).0 in cc

pub disorder_in_group : DisorderInGroup
disorder_in_group b ks tree heap f g fs bs wrong h = let right = h.ordered.0 in cc

pub name_below_key : NameBelowKey
name_below_key segment [] low k f here x xs text wrong are h = h
name_below_key segment (l ∷ keys) low k f here x xs text wrong are h =
    let same : h.0 ≡ low = text_same segment k h.0 low h.2 text in
    let between = subst (λ (fs : List Found). AreBetween h.0 h.1 fs) are h.4 in
    let right : name_lt low f.name ≡ true = ap (λ (n : List ℕ). name_lt n f.name) (sym same) ∙ between.0.0 in
    cc

pub name_above_key : NameAboveKey
name_above_key segment keys high k l f here x xs text wrong are h =
    let same : h.1 ≡ high = text_same segment l h.1 high h.3 text in
    let between = subst (λ (fs : List Found). AreBetween h.0 h.1 fs) are h.4 in
    wrong (ap (λ (n : List ℕ). name_lt n f.name) (sym same) ∙ between.0.1)

pub key_outside : KeyOutside
key_outside segment keys k l x xs (inl past) h = let inside = h.2.inside in omega arith
key_outside segment keys k l x xs (inr past) h = let inside = h.3.inside in omega arith

shared : (x y : Block) (address : ℕ) → x.start ≤ address → address < x.start + x.len → y.start ≤ address
    → address < y.start + y.len → AreApart x y → ⊥
shared x y address a b c d (inl before) = omega arith
shared x y address a b c d (inr behind) = omega arith

pub shared_byte : SharedByte
shared_byte e x y blocks address a b c d kept = shared x y address a b c d kept.apart.0.0

pub past_end : PastEnd
past_end e x blocks past kept = let inside = kept.inside.0 in omega (arith, past inside.0, inside.2)

pub own_continuation : OwnContinuation
own_continuation e at prefix p parts m ms blocks first kind low some high kept =
    let some_bytes : (u64_at m.body 8 == 0) ≡ false = grind (arith, nat_tests) in
    let named : continued m ≡ record { start = u64_at m.body 0; len = u64_at m.body 8 } ∷ [] = rw (kind, some_bytes) refl in
    let head : Block = record { start = at; len = 16 + prefix.size } in
    let told : AreKept e ((head ∷ flat_map continued ((m ∷ ms) ++ messages_of parts)) ++ blocks) =
    subst (λ (l : List Met). AreKept e ((head ∷ flat_map continued (l ++ messages_of parts)) ++ blocks)) first kept in
    let both : AreKept e ((head ∷ ((record { start = u64_at m.body 0; len = u64_at m.body 8 } ∷ []) ++ flat_map continued (ms ++ messages_of parts))) ++ blocks) =
    subst (λ (l : List Block). AreKept e ((head ∷ (l ++ flat_map continued (ms ++ messages_of parts))) ++ blocks)) named told in
    shared head (record { start = u64_at m.body 0; len = u64_at m.body 8 }) (u64_at m.body 0) low (omega arith) (omega arith) (omega arith) both.apart.0.0

pub loose_chunk : LooseChunk
loose_chunk size element n c offset loose h = loose (subst (AreMultiples (size ∷ [])) offset h.multiples).0

pub huge_space : HugeSpace
huge_space ms i huge h = let fits = h.fits in omega arith

pub place_in_chunk : PlaceInChunk
place_in_chunk i dims size = (rw (dims, size) refl, rw (dims, size) refl)
