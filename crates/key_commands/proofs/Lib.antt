pub mod Foundings
pub mod KnownKeys
mod Left
pub mod MadeBytes
pub mod MadeTeams
mod MadeTexts
