pub mod Print
pub mod BodyLines
pub mod Document
pub mod Laws
