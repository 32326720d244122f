pub mod RowLemmas
pub mod SeedLemmas
pub mod SpanLemmas
pub mod TagLemmas
