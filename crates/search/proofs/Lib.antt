pub mod Going
pub mod Plans
