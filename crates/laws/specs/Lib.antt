-- What is known of the rules, free of machine words. A file has the name of the rules it is about.
-- Endings: -neg odd, -near error, -le size, -one no second, -nearest and -root meet the relation, -of-H from H.
pub mod PassedUp
pub mod RefusalNumbers
pub mod Refusals
pub mod PlaceAnswers
pub mod Units
pub mod Rounding
pub mod Nearest
pub mod Product
pub mod Root
pub mod ManualRoot
pub mod Modulo
pub mod Directions
pub mod LengthNear
pub mod Length
-- sine and cosine: ranges and nearness, the series, the pair, the laws of angles
pub mod UpTo
pub mod Near
pub mod RoundedStages
pub mod Series
pub mod Circle
pub mod Quarters
pub mod Folding
pub mod CircleSquares
pub mod CircleLength
pub mod CircleToHalf
pub mod Angles
pub mod Neighbours
-- the reading: near the arc, ranges, its promises
pub mod Arc
pub mod Certificates
pub mod ArcSeries
pub mod HalfQuarterLess
pub mod AdditionFormulas
pub mod ReadingRange
pub mod Heights
pub mod NoAngle
pub mod ArcNotNought
pub mod Poles
pub mod ReadingParts
pub mod Across
-- turns, and the angles of an instant
pub mod Accepted
pub mod Turn3
pub mod Return3
pub mod Turning
pub mod WayBack
pub mod Aberration
pub mod Instant
pub mod Polynomials
pub mod Nutation
pub mod Sun
pub mod Sidereal
pub mod Night
pub mod Place
pub mod Marks
-- refraction: floats and their tenths, the weather record, the lift, the observed altitude
pub mod FloatComparison
pub mod Floats
pub mod FloatParts
pub mod Tenths
pub mod Weather
pub mod WeatherAnswers
pub mod WeatherOfC
pub mod Sines
pub mod RefractionArgument
pub mod Refraction
pub mod Air
pub mod ObservedAltitude
-- the order of observed altitudes: how sine, cosine and lift step
pub mod SineSteps
pub mod LengthSteps
pub mod PairSteps
pub mod QuarterSteps
pub mod LiftSteps
pub mod StandardSteps
pub mod Order
pub mod OrderLeast
-- a night, two places and an observed altitude worked out
pub mod SampleNight
pub mod SamplePlace
pub mod SampleNoAngle
pub mod SampleObserved
-- tests: computed at each number below a bound; of ranges
pub mod Every
pub mod Ranges
pub mod Checks
-- dates: spans laid end to end, the calendar
pub mod Rows
pub mod Calendar
pub mod DayCounts
pub mod DayNumbers
pub mod DayAndDate
pub mod FindingDates
pub mod Seconds
pub mod TimeOfDay
pub mod Dates
pub mod Instants
pub mod OfNumbers
-- UTC of a TT: the days laid end to end, accepted UTC times in their order, the stretch, the way back
pub mod Days
pub mod Clocks
pub mod ClockOrder
pub mod Stretch
pub mod Utc
pub mod NeverFold
pub mod Bytes
pub mod FileParts
pub mod ByteByByte
pub mod Records
pub mod FileLength
pub mod FileTests
pub mod ListFile
pub mod ListWriting
pub mod StarWidths
pub mod FileAgain
pub mod RoundTrip
pub mod NumbersRoundTrip
-- lines of `times`
pub mod Lines
pub mod Decimal
pub mod PuttingBytes
pub mod LinesWithEnds
pub mod Times
pub mod TimesSample
