pub mod Physical
pub mod Head
pub mod Holders
pub mod LiveUnits
pub mod Rewritten
pub mod Laws
