-- what the loop needs of its length
pub mod Writing
