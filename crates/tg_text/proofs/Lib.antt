pub mod Base64
pub mod FieldLaws
pub mod FieldLines
pub mod HexDigits
pub mod KeyTexts
pub mod Lists
pub mod Splits
