pub mod TestRows
