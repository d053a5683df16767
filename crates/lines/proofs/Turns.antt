-- The lines that a loop prints, one more a turn: what stands after the turn is what stood before it and the new line.
-- Assumes nothing.
use Rattle.laws.specs.Logic.{List, [], ◌∷◌, ◌++◌, append-nil, append_assoc, ◌≡◌, sym}
use Rattle.laws.specs.Numbers.{ℕ, suc, ◌+◌, add-zero, arith, length}
use Rattle.rules.specs.Lines.{trade_line, trade_lines}
use Rattle.rules.specs.declared.Trade.{Trade}

pub trade_turn : (k : ℕ) (ts : List Trade) (t : Trade) → trade_lines k (ts ++ (t ∷ [])) ≡ trade_lines k ts ++ trade_line (k + length ts) t
unfolding trade_lines
trade_turn k [] t = rw (add-zero k) (append-nil (trade_line k t))
trade_turn k (s ∷ ts) t =
    let e : k + 1 + length ts ≡ k + suc (length ts) = omega arith in
    rw (
      trade_turn (k + 1) ts t,
      e,
    ) (sym (append_assoc (trade_line k s) (trade_lines (k + 1) ts) (trade_line (k + suc (length ts)) t)))
