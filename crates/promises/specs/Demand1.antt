-- Demand 1: no entry point relies on its caller, and bad input gets its refusal's number and noughts, with lent memory
-- as it was. Of each entry point:
--   `-checked`   its answer is the first refusal of its checks that is given, and the rule's where none is
--   `-refused`   it is a refusal exactly when that is the first of its checks that is given
--   `-answer`    the same in the paper's number and values
--   `-content`   what it leaves in lent memory; `-kept`: as it was, where a refusal is given
--   `-tells`     the same of the function itself, by its contract (`Functions`, `FunctionsForC`); what it answers where
--                nothing is refused is `ByContract`, `ByContractForC`
--   `-not-13`    13 is never its answer (`Thirteen`)
pub mod Checks
pub mod InOrder
pub mod Asks
pub mod AsksForTests
pub mod Dates
pub mod Clocks
pub mod Instants
pub mod Turns
pub mod Places
pub mod Weather
pub mod Lists
pub mod Writing
pub mod NightList
pub mod Boundary
pub mod WeatherBoundary
pub mod Thirteen
pub mod Functions
pub mod FunctionsForC
pub mod ThirteenByContract
pub mod ThirteenForC
