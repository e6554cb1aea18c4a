-- What a reader must believe of a log's lines.
pub mod Lines
