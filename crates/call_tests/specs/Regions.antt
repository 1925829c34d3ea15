-- What a space of two regions tells.
-- Cited by `TwoRegions`.
use Rattle.std.specs.Prelude.{ℕ, Bool, true, false, List, [], None, if◌then◌else◌}
use Rattle.h5_base.specs.declared.extent.MemClass.{MemClass}
use Rattle.h5_base.specs.declared.extent.MemClass.TheVariants.{Super, Tree, Raw, GlobalHeap, LocalHeap, Header}
use Rattle.h5_base.specs.declared.extent.Region.{Region}
use Rattle.outside.specs.Space.{SpaceView}
use Rattle.h5_base.specs.declared.extent.Extent.{Extent}

-- the region of a class is the second
abbrev pub is_high : MemClass → Bool
is_high Super = false
is_high Tree = false
is_high Raw = true
is_high GlobalHeap = true
is_high LocalHeap = false
is_high Header = false

-- the two regions
abbrev pub region_at : Bool → Region
region_at high = if high then (record { start = 1048576; limit = 1048640 }) else (record { start = 0; limit = 1000 })

-- and their ends
abbrev pub end_at : (low high : ℕ) → Bool → ℕ
end_at low high second = if second then high else low

-- what it tells
abbrev pub told : (low high : ℕ) → List Extent → SpaceView
told low high prepared = record {
  array = λ address. 0;
  ends = λ class. end_at low high (is_high class);
  regions = λ class. region_at (is_high class);
  writable = true;
  prepared = prepared;
  committed = None;
  history = record { revisions = []; origin = λ class. 0 };
}
