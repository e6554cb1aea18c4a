-- What a reader must believe of what a log's items do.
pub mod Book
