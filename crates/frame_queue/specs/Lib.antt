pub use Rattle.req_book.specs.Requests
pub use Rattle.req_book.specs.Refusals
pub mod Frames
pub mod Like
pub mod Places
pub use Rattle.req_book.specs.Alike
