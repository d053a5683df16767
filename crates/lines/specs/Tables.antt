-- How many bytes a line may have, and the lines of a settlement's two tables, one contract's and one account's. Assumes nothing.
use Rattle.std.specs.Prelude.{List, [], ◌∷◌, ℕ, ◌+◌, ◌*◌, ℤ}
use Rattle.rules.specs.Lines.{decimal, letter_b, letter_p, line, signed, digits_most}

-- ---- how many bytes each part of a line may have: a field is a space and at most twenty digits, a signed one a sign more; a line a
-- letter, its fields and a newline

abbrev pub field_most : ℕ
field_most = 1 + digits_most

abbrev pub signed_most : ℕ
signed_most = 1 + digits_most

abbrev pub signed_field_most : ℕ
signed_field_most = 1 + signed_most

abbrev pub answer_line_most : ℕ
answer_line_most = 1 + 5 * field_most + 1

abbrev pub trade_line_most : ℕ
trade_line_most = 1 + 6 * field_most + 1

abbrev pub price_line_most : ℕ
price_line_most = 1 + 2 * field_most + 1

abbrev pub account_line_most : ℕ
account_line_most = 1 + 2 * field_most + 3 * signed_field_most + 1

abbrev pub broken_line_most : ℕ
broken_line_most = 1 + field_most + 1

-- ---- the lines

-- contract c's P line, c being its place
abbrev pub price_line : ℕ → ℕ → List ℕ
price_line c price = line letter_p (decimal (c + 1) ∷ decimal price ∷ [])

-- account a's B line, a being its place
abbrev pub account_line : ℕ → ℤ → ℤ → ℤ → ℕ → List ℕ
account_line a closing holding balance charged =
    line letter_b (decimal (a + 1) ∷ signed closing ∷ signed holding ∷ signed balance ∷ decimal charged ∷ [])
