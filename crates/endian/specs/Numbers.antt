-- Numbers of two, four and eight bytes, the lowest byte first, and signed ones in eight. How the bytes are read stands in
-- rules/specs/DayFile. Assumes nothing.
use Rattle.std.specs.Prelude.{List, [], ◌∷◌, ◌++◌, ℕ, ◌-◌, ◌/◌, ◌%◌, ltb, ℤ, pos, negsuc}
use Rattle.laws.specs.Choice.{pick}

unfoldable pub two : ℕ → List ℕ
two n = n % 256 ∷ n / 256 ∷ []

unfoldable pub four : ℕ → List ℕ
four n = two (n % 65_536) ++ two (n / 65_536)

unfoldable pub eight : ℕ → List ℕ
eight n = four (n % 4_294_967_296) ++ four (n / 4_294_967_296)

-- ---- a signed number as its eight bytes hold it

-- the most that eight bytes hold: 2^64 - 1
abbrev pub eight_most : ℕ
eight_most = 18_446_744_073_709_551_615

-- below zero, what it is above -2^64
unfoldable pub unsigned : ℤ → ℕ
unsigned (pos n) = n
unsigned (negsuc n) = eight_most - n

-- where the numbers below zero begin among eight bytes: 2^63. From there on a number is what it is above -2^64
abbrev pub sign_end : ℕ
sign_end = 9_223_372_036_854_775_808

unfoldable pub signed_of : ℕ → ℤ
signed_of n = pick (ltb n sign_end) (pos n) (negsuc (eight_most - n))
