-- What our own program `places` answers and prints, not of document 01: definitions, and what is known of them.
pub mod Air
pub mod Answers
pub mod Program
pub mod Listed
pub mod Room
-- laws
pub mod AcceptedAir
pub mod Entries
pub mod Lengths
pub mod Lines
pub mod WorkedEntries
pub mod ShortLines
pub mod ListedLines
pub mod Printed
pub mod Cuts
pub mod OneToOne
pub mod Commands
pub mod WithoutWeather
pub mod PlacesSample
pub mod NoAngleSample
pub mod AirSample
