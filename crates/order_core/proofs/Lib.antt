mod Rows
pub mod SetAtLemmas
pub mod Total
pub mod CanonicalLemmas
pub mod Clearing
pub mod Merging
pub mod Giving
pub mod Sleeping
pub mod MarkedLemmas
pub mod LegalLemmas
pub mod CanonicalLaws
pub mod Stepping
pub mod HistoryLaws
pub mod Queue
pub mod Steps
pub mod Rest
pub mod Made
