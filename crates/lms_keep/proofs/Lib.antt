pub mod KeyLaws
pub mod KindLaws
pub mod Knowns
pub mod NewKeys
pub mod Signings
