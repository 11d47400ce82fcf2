pub mod Noted
pub mod RemovalLaws
pub mod RemovalRows
