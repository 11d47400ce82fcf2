pub mod Examples
pub mod Pairs
pub mod RankLaws
pub mod Ranks
pub mod SeniorLaws
