-- A loop that makes trades: what stands after those made and those still to come, and a trade that passes from these to those.
-- Assumes nothing.
use Rattle.laws.specs.Logic.{List, [], ◌∷◌, ◌≡◌, sym, ap, ◌∙◌}
use Rattle.laws.specs.Numbers.{ℕ, suc, ◌+◌, ◌*◌, ◌≤◌, arith, length}
use Rattle.areas.specs.Records.{store}
use Rattle.areas.proofs.Records.{store_nil, store_append}
use Rattle.rules.specs.Holdings.{book_trade, book_trades}
use Rattle.rules.specs.Matching.{traded_lots, last_price}
use Rattle.rules.specs.Memory.{trade_words, trade_stride}
use Rattle.rules.specs.declared.{Account.Account, Trade.Trade}
use Rattle.theory.proofs.Codecs.{trade_codec}
use Rattle.theory.proofs.Fillable.{traded_nil, traded_cons}
use Rattle.book.specs.Trading.{AllBooked}

-- lots traded, trades of the day, the last price, the accounts and the trade area
pub record Booked : Type 0 where
  pub traded : ℕ
  pub made : ℕ
  pub last : ℕ
  pub accounts : List Account
  pub area : List ℕ

-- so many lots traded and trades made, a last price, accounts and the trade area as they are, and trades still to come
unfoldable pub booked : ℕ → ℕ → ℕ → List Account → List ℕ → List Trade → Booked
booked done made last held area ts =
    record {
      traded = done + traded_lots ts;
      made = made + length ts;
      last = last_price last ts;
      accounts = book_trades held ts;
      area = store trade_words area (trade_stride * made) ts;
    }

-- a trade passes from what is to come to what is done
pub booked_trade : (done made last : ℕ) (held : List Account) (area : List ℕ) (tr : Trade) (ts : List Trade) → trade_stride * made ≤ length area
    → booked done made last held area (tr ∷ ts) ≡ booked (done + tr.lots) (made + 1) tr.price (book_trade held tr) (store trade_words area (trade_stride * made) (tr ∷ [])) ts
unfolding booked last_price book_trades
booked_trade done made last held area tr ts room =
    let t : done + traded_lots (tr ∷ ts) ≡ done + tr.lots + traded_lots ts = omega (arith, traded_cons tr ts) in
    let m : made + suc (length ts) ≡ made + 1 + length ts = omega arith in
    let w : trade_stride * made + trade_stride * 1 ≡ trade_stride * (made + 1) = omega arith in
    let a : store trade_words area (trade_stride * made) (tr ∷ ts) ≡ store trade_words (store trade_words area (trade_stride * made) (tr ∷ [])) (trade_stride * (made + 1)) ts
    = store_append trade_codec area (trade_stride * made) (tr ∷ []) ts room ∙ ap (λ (k : ℕ). store trade_words (store trade_words area (trade_stride * made) (tr ∷ [])) k ts) w in
    λ i. record { traded = t i; made = m i; last = last_price tr.price ts; accounts = book_trades (book_trade held tr) ts; area = a i }

-- nothing is to come: all of these trades are made
pub all_booked : (ts : List Trade) {before last₀ : ℕ} {held₀ : List Account} {area₀ : List ℕ} {done made last : ℕ} {held : List Account} {area : List ℕ}
    → booked done made last held area [] ≡ booked 0 before last₀ held₀ area₀ ts → AllBooked ts before last₀ held₀ area₀ done made last held area
unfolding booked last_price book_trades
all_booked ts {made = made} {area = area} e =
    record {
      traded = omega (arith, traded_nil, ap (λ b. b.traded) e);
      made = omega (arith, ap (λ b. b.made) e);
      last = ap (λ b. b.last) e;
      accounts = ap (λ b. b.accounts) e;
      trades = sym (store_nil trade_codec area (trade_stride * made)) ∙ ap (λ b. b.area) e;
    }

-- how many are to come
pub still_made : (done made last : ℕ) (held : List Account) (area : List ℕ) (ts : List Trade) → (booked done made last held area ts).made ≡ made + length ts
unfolding booked
still_made done made last held area ts = omega arith
