pub mod BoxLemmas
pub mod DataLemmas
pub mod TreeLemmas
pub mod OrderLemmas
pub mod StepLemmas
