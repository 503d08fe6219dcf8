pub mod Input
pub mod Response
