pub mod DebtLaws
pub mod ReachLaws
pub mod TaintLaws
