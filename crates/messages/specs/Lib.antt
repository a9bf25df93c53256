pub mod Grammar
pub mod Reading
pub mod Checking
pub mod Framing
pub mod Pieces
pub mod Replies
pub mod Equality
pub mod Lending
