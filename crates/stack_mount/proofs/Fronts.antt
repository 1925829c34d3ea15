-- What is judged, at the bytes and the end that are equal to those of a space; and the bytes of a superblock as they are read.
use Rattle.std.proofs.Common.{ℕ, ◌≡◌, ◌<◌, min, List, length, take, sym, ◌∙◌, ap, subst, arith, refl}
use Rattle.std.proofs.lemmas.List.{length-take}
use Rattle.outside.specs.Array.{Array, bytes_of}
use Rattle.super_codec.specs.Super.{Spells, stop_of}
use Rattle.super_codec.specs.declared.superblock.Superblock.{Superblock}
use Rattle.super_codec.specs.declared.superblock.SuperStop.{SuperStop}
use Rattle.file_model.specs.Holds.{super_bytes_of}
use Rattle.file_model.specs.Laws.{one_region}
use Rattle.file_model.specs.RefusedTree.{of_super}
use Rattle.stack_mount.specs.Mounted.{IsRefused, ShortFile, IsAdmitted, LacksSuper}
use Rattle.h5_base.specs.declared.refusal.Refusal.{Refusal}
use Rattle.h5_base.specs.declared.refusal.Refusal.TheVariants as why

-- the bytes that were read are those that a superblock is looked for in
pub front_read : (b : Array) (end m : ℕ) (buffer front : List ℕ) → m ≡ min end 100 → length buffer ≡ 100 → front ≡ bytes_of b 0 (length (take m buffer))
    → front ≡ super_bytes_of b (one_region end)
front_read b end m buffer front most size read = read ∙ ap (λ (n : ℕ). bytes_of b 0 n) (omega (arith, most, size, length-take m buffer))

pub spelled_front : (b : Array) (end : ℕ) (front : List ℕ) (s : Superblock) → front ≡ super_bytes_of b (one_region end) → Spells s front → Spells s (super_bytes_of b (one_region end))
spelled_front b end front s same spelled = let Spelled : List ℕ → Type 0 = λ bytes. Spells s bytes in subst Spelled same spelled

pub lacking_front : (b : Array) (end : ℕ) (front : List ℕ) (e : SuperStop) → front ≡ super_bytes_of b (one_region end) → ((s : Superblock) → Spells s front → ⊥) → e ≡ stop_of front
    → LacksSuper b end (of_super e)
lacking_front b end front e same none stop = record {
  none = λ s spelled. let Spelled : List ℕ → Type 0 = λ bytes. Spells s bytes in none s (subst Spelled (sym same) spelled);
  line = ap of_super (stop ∙ ap stop_of same);
}

pub short_file : (b : Array) (m n : ℕ) (s : Superblock) → m ≡ n → Spells s (super_bytes_of b (one_region m)) → m < s.end_at → IsRefused b n (why.Truncated m s.end_at)
short_file b m n s same spelled short = let Refused : ℕ → Type 0 = λ k. IsRefused b k (why.Truncated m s.end_at) in subst Refused same (ShortFile s spelled short refl)

pub admitted_at : (b c : Array) (m n : ℕ) → b ≡ c → m ≡ n → IsAdmitted b m → IsAdmitted c n
admitted_at b c m n array end admitted =
    let AtArray : Array → Type 0 = λ a. IsAdmitted a n in
    let AtEnd : ℕ → Type 0 = λ k. IsAdmitted b k in
    subst AtArray array (subst AtEnd end admitted)

pub refused_at : (b c : Array) (m n : ℕ) (f : Refusal) → b ≡ c → m ≡ n → IsRefused b m f → IsRefused c n f
refused_at b c m n f array end refused =
    let AtArray : Array → Type 0 = λ a. IsRefused a n f in
    let AtEnd : ℕ → Type 0 = λ k. IsRefused b k f in
    subst AtArray array (subst AtEnd end refused)
