-- What is held of a file whose end field is written.
use Rattle.std.proofs.Common.{◌≡◌, inl, inr, ℕ, List, ◌++◌, refl, sym, ap, arith}
use Rattle.std.specs.Prelude.{Some, None}
use Rattle.outside.specs.Array.{Array, SameOutside}
use Rattle.outside.specs.Blocks.{Agree, Block, Bounds}
use Rattle.outside.specs.Space.{bounds_of}
use Rattle.super_codec.specs.Super.{Spells, super_len}
use Rattle.object_model.specs.Tree.{Group}
use Rattle.file_model.specs.EditLaws.{beside_end, end_place}
use Rattle.file_model.specs.Holds.{blocks_of, ks_of, super_bytes_of}
use Rattle.file_model.specs.Laws.{Rises, all_blocks}
use Rattle.file_model.proofs.BlockOrder.{agree_apart}
use Rattle.file_model.proofs.EditFull.{driver_same, end_full}
use Rattle.file_model.proofs.EndWritten.{end_written}
use Rattle.file_model.proofs.FrameBytes.{agree_left, agree_right}
use Rattle.tree_places.proofs.Fits.{fits_frame}
use Rattle.block_space.proofs.Apart.{contains_head}
use Rattle.session_model.specs.EndFields.{number_at}
use Rattle.end_fields.specs.Laws.{BlocksStay, EndHeld, FieldBeside, FieldInSuper, FieldsTold, LimitsStay}

pub field_inside : FieldInSuper
field_inside b e s g ls h =
    (record { start = 0; len = super_len s.version }, contains_head _ _, omega arith, omega arith)

-- what stays outside the field stays outside the superblock
wider : (version : ℕ) (b c : Array) → SameOutside (end_place version) 8 b c → SameOutside 0 (super_len version) b c
wider version b c same a (inl before) = absurd (omega (arith, before))
wider version b c same a (inr behind) = same a (inr (omega arith))

pub field_beside : FieldBeside
field_beside b c e s g ls h same =
    agree_apart b c (record { start = 0; len = super_len s.version }) (h.driver ++ blocks_of (Group g ls))
    (wider s.version b c same) h.kept.apart.0

beside_field : (version : ℕ) (b c : Array) → SameOutside (end_place version) 8 b c → Agree b c (beside_end version)
beside_field version b c same = (
  λ i low high. sym (same i (inl (omega arith))),
  (λ i low high. sym (same i (inr (omega arith))), tt),
)

itself : (e : Bounds) → Rises e e
itself e = record { starts = λ c. refl; ends = λ c. omega arith; own = refl }

pub end_held : EndHeld
end_held v w own s g ls h tells =
    let e = bounds_of v own in
    let n = number_at w.array (end_place s.version) in
    let spelled : Spells (record s { end_at = n }) (super_bytes_of w.array e) =
    end_written v.array w.array e e s n tells.spelled.small h.super (omega arith)
    (beside_field s.version v.array w.array tells.stays) tells.spelled.bytes in
    end_full v.array w.array e e s n g ls h (itself e) spelled
    (field_beside v.array w.array e s g ls h tells.stays)

pub fields_told : FieldsTold
fields_told v w s tells = record { end = tells.told; members = λ its. absurd (no_own its.own_is) }
  where
    no_own : {own : List ℕ} → None ≡ Some own → ⊥
    no_own h = cc

pub blocks_stay : BlocksStay
blocks_stay b c e s n g ls h k same =
    let rest = agree_left b c h.driver (blocks_of (Group g ls)) (field_beside b c e s g ls h same) in
    ap (λ (driver : List Block). all_blocks s driver (Group g ls))
    (driver_same b c e e s (record s { end_at = n }) g g ls ls h k (itself e) refl rest)

pub limits_stay : LimitsStay
limits_stay b c e s g ls blocks h same within =
    let rest = agree_right b c h.driver (blocks_of (Group g ls)) (field_beside b c e s g ls h same) in
    record {
      depth = within.depth;
      objects = within.objects;
      block_count = within.block_count;
      parts = fits_frame b c (ks_of s) (Group g ls) h.held rest within.parts;
    }
