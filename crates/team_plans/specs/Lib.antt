pub mod OwingLaws
pub mod PlanLaws
pub mod PlanRows
pub mod Plans
pub mod Renaming
pub mod Touching
