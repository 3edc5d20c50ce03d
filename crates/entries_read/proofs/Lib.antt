-- what the loop needs of its count
pub mod Reading
