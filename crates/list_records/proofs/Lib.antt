-- bytes put part by part
pub mod Parts
