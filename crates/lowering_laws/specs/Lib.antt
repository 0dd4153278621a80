pub mod Blocks
pub mod Form
pub mod Laws
pub mod Shapes
pub mod Named
