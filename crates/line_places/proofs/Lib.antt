pub mod Cuts
pub mod ListedLines
pub mod Parts
pub mod WithoutWeather
pub mod Words
