pub mod LeftLemmas
pub mod RunLemmas
pub mod DigitLemmas
pub mod WriteLemmas
pub mod DifferenceLemmas
mod Rows
pub mod MatchLemmas
pub mod KindLemmas
pub mod KindLaws
pub mod ReadLemmas
pub mod SplitLemmas
pub mod OrderLaws
pub mod BackLemmas
pub mod LineBack
pub mod ReadLaws
