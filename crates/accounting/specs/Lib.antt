-- What is claimed of money beside the rules: quantities that no settlement changes, any pairing of lots. Assumes nothing.
pub mod DayLegs
pub mod Pairing
pub mod Shape
pub mod Money
pub mod Books
