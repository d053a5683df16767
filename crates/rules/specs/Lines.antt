-- The lines that the day runner prints, as bytes (document 01, "Examples"). Assumes nothing.
use Rattle.std.specs.Prelude.{◌&&◌, List, [], ◌∷◌, ◌++◌, ℕ, zero, suc, ◌+◌, ◌/◌, ◌%◌, ltb, eqb, ℤ, pos, negsuc, length, drop}
use Rattle.laws.specs.Choice.{pick}
use Rattle.rules.specs.Command.{is_settle}
use Rattle.rules.specs.DayFile.{sound, opening, commands_of}
use Rattle.rules.specs.Exchange.{Exchange, holder_at}
use Rattle.rules.specs.Kinds.{code_of, decide, step}
use Rattle.rules.specs.Margin.{charged}
use Rattle.rules.specs.Settlement.{settlement_price, closing_profit, holding_profit}
use Rattle.rules.specs.declared.Answer.{Answer}
use Rattle.rules.specs.declared.Trade.{Trade}
use Rattle.rules.specs.declared.Command.{Command}

-- ---- letters and signs

abbrev pub letter_c : ℕ
letter_c = 67

abbrev pub letter_t : ℕ
letter_t = 84

abbrev pub letter_p : ℕ
letter_p = 80

abbrev pub letter_b : ℕ
letter_b = 66

abbrev pub letter_x : ℕ
letter_x = 88

abbrev pub space : ℕ
space = 32

abbrev pub minus : ℕ
minus = 45

abbrev pub newline : ℕ
newline = 10

-- the digit 0; the others follow it
abbrev pub digit_zero : ℕ
digit_zero = 48

-- ---- numbers

-- the digits of n, at most `places` of them
unfoldable pub digits : ℕ → ℕ → List ℕ
digits zero n = []
digits (suc places) n = pick (ltb n 10) ((digit_zero + n) ∷ []) (digits places (n / 10) ++ ((digit_zero + n % 10) ∷ []))

-- twenty digits hold every number of 64 bits
abbrev pub digits_most : ℕ
digits_most = 20

unfoldable pub decimal : ℕ → List ℕ
decimal n = digits digits_most n

unfoldable pub signed : ℤ → List ℕ
signed (pos n) = decimal n
signed (negsuc n) = minus ∷ decimal (suc n)

-- a letter, the fields with a space before each, a newline
unfoldable pub fields_of : List (List ℕ) → List ℕ
fields_of [] = newline ∷ []
fields_of (f ∷ fs) = space ∷ (f ++ fields_of fs)

abbrev pub line : ℕ → List (List ℕ) → List ℕ
line letter fields = letter ∷ fields_of fields

-- ---- "C: command, code, order, traded, rested or removed."
unfoldable pub answer_line : ℕ → Answer → List ℕ
answer_line k a =
    line letter_c (decimal k ∷ decimal a.code ∷ decimal a.number ∷ decimal a.traded ∷ decimal a.lots ∷ [])

-- "T: trade of the day, contract, price, lots, buy order, sell order."
unfoldable pub trade_line : ℕ → Trade → List ℕ
trade_line k t =
    line letter_t (decimal k ∷ decimal (t.contract + 1) ∷ decimal t.price ∷ decimal t.lots ∷ decimal t.buyorder ∷ decimal t.sellorder ∷ [])

-- the trades in turn, the first of them number k of the day
unfoldable pub trade_lines : ℕ → List Trade → List ℕ
trade_lines k [] = []
trade_lines k (t ∷ ts) = trade_line k t ++ trade_lines (k + 1) ts

-- "P: contract, settlement price."
unfoldable pub price_lines : Exchange → ℕ → List ℕ
price_lines x zero = []
price_lines x (suc c) = price_lines x c ++ line letter_p (decimal (c + 1) ∷ decimal (settlement_price x c) ∷ [])

-- "B: account, closing and holding profit, balance, charged margin": profit of the day settled, balance and margin after it
unfoldable pub account_lines : Exchange → Exchange → ℕ → List ℕ
account_lines x after zero = []
account_lines x after (suc a) =
    account_lines x after a
    ++ line letter_b (decimal (a + 1) ∷ signed (closing_profit x a) ∷ signed (holding_profit x a) ∷ signed (holder_at after a).balance ∷ decimal (charged after a) ∷ [])

-- "After an accepted settlement come all P, then all B, by number."
unfoldable pub settlement_lines : Exchange → Command → List ℕ
settlement_lines x command =
    pick (is_settle command && eqb (code_of x command) 0)
    (price_lines x (length x.listings) ++ account_lines x (step x command) (length x.accounts))
    []

-- the trades that a command added to the day's
unfoldable pub new_trades : Exchange → Command → List Trade
new_trades x command = drop (length x.trades) (step x command).trades

-- command k's lines
unfoldable pub step_lines : ℕ → Exchange → Command → List ℕ
step_lines k x command =
    answer_line k (decide x command).answer
    ++ (trade_lines (length x.trades + 1) (new_trades x command) ++ settlement_lines x command)

-- ---- the whole output: the commands in turn, each on the state that the last one left

unfoldable pub run_lines : ℕ → Exchange → List Command → List ℕ
run_lines k x [] = []
run_lines k x (c ∷ cs) = step_lines k x c ++ run_lines (k + 1) (step x c) cs

-- "A broken file prints `X 20`."
abbrev pub broken_line : List ℕ
broken_line = letter_x ∷ space ∷ (digit_zero + 2) ∷ digit_zero ∷ newline ∷ []

unfoldable pub output : List ℕ → List ℕ
output file = pick (sound file) (run_lines 1 (opening file) (commands_of file)) broken_line
