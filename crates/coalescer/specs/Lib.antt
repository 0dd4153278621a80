pub mod Coalescing
pub mod Asked
pub mod QuietInstrs
pub mod QuietLaws
