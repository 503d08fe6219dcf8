-- the class of an item's first byte
pub mod Classes
