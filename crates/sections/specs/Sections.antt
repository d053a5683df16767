-- What the bytes of client statements and of saved states share (document 02, tickets 9 and 10): sections, each after its count, and what
-- accounts hold. Assumes nothing.
use Rattle.std.specs.Prelude.{List, [], ◌++◌, ℕ, zero, suc, get_or}
use Rattle.rules.specs.Exchange.{holding_at, no_holding}
use Rattle.rules.specs.declared.Account.{Account}
use Rattle.rules.specs.declared.Holding.{Holding}
use Rattle.endian.specs.Numbers.{four}

-- one after the other: f 0, f 1, .., up to n of them, in a row
unfoldable pub in_row : ℕ → (ℕ → List ℕ) → List ℕ
in_row zero f = []
in_row (suc n) f = in_row n f ++ f n

-- "sections in a fixed order, each after its count"; "section counts take 4 bytes"
abbrev pub section : ℕ → List ℕ → List ℕ
section count bytes = four count ++ bytes

-- "holdings (long 4, short 4, by account then contract)"; in a statement the accounts are the clients
unfoldable pub holding_bytes : Holding → List ℕ
holding_bytes h = four h.long ++ four h.short

abbrev pub holding_width : ℕ
holding_width = 8

unfoldable pub holdings_bytes : List Account → ℕ → ℕ → List ℕ
holdings_bytes accounts count contracts = in_row count (λ k. in_row contracts (λ c. holding_bytes (holding_at accounts k c)))

-- and of one account, as it lies in its array
abbrev pub account_holdings : Account → ℕ → List ℕ
account_holdings a contracts = in_row contracts (λ c. holding_bytes (get_or a.holdings c no_holding))
