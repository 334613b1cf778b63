pub mod CellLaws
pub mod ChainLaws
pub mod EntryLaws
pub mod FollowLaws
pub mod MatchLaws
pub mod PassLaws
pub mod RowLaws
