-- What is known of the rules where a must-fail edit of specs/ breaks what it stands on: proved as ever, and outside specs/,
-- so that the edit is refused at the fact that it breaks.
pub mod Angles
pub mod SampleNight
pub mod SamplePlace
pub mod SampleNoAngle
pub mod SampleObserved
pub mod ArcSeries
pub mod Octant
pub mod Reading
pub mod NeverFold
pub mod Night
pub mod Turn3
pub mod Return3
pub mod Turning
pub mod Place
pub mod Marks
pub mod WayBack
pub mod WeatherOfC
