-- what the checks decide
pub mod Checked
