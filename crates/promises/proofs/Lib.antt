-- Of the reading room: theorems that rest on what a must-fail edit of specs/ changes, each file beside its namesake there.
pub mod Demand1
pub mod Demand2Answers
pub mod NeverFold
pub mod NeverFoldOfFunctions
pub mod NoAnglePrinted
pub mod OnlyOne
pub mod ProgramDates
pub mod ProgramLines
pub mod ProgramTimes
pub mod RoundTrips
