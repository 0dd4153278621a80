mod Examples
pub mod Choosing
pub mod Clashing
pub mod Domains
pub mod Evicted
pub mod Firsts
pub mod Hinted
pub mod Known
pub mod Points
pub mod Ranked
pub mod Spots
pub mod Tops
pub mod Uses
