pub mod NameOrder
pub mod RowLemmas
pub mod RowsLemmas
pub mod LeafLemmas
pub mod BlockLemmas
pub mod OffsetLemmas
pub mod GroupLemmas
pub mod GrowthLemmas
pub mod NodeLemmas
mod Parts
mod RowNodes
mod ImageLemmas
mod PlaceLemmas
mod LaidLemmas
mod WidenLemmas
