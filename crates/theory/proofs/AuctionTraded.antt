-- What an auction's match trades: the volume of its price, taken from the front of both queues, so that of one side nothing is left
-- that reaches the price. Assumes nothing.
use Rattle.laws.specs.Logic.{true, false, true≢false, List, [], ◌∷◌, ◌≡◌, refl, sym, ◌∙◌}
use Rattle.laws.specs.Numbers.{ℕ, ◌+◌, ◌≤◌, arith, ltb-true, ltb-false, ltb}
use Rattle.laws.specs.Choice.{true_both, by_test}
use Rattle.rules.specs.Auction.{lots_reaching, match_at, paired, reaches, trade_at, volume}
use Rattle.rules.specs.Matching.{traded_lots}
use Rattle.rules.specs.WellFormed.{sorted}
use Rattle.rules.specs.declared.{Order.Order, Trade.Trade}
use Rattle.theory.proofs.AuctionTaken.{reaching_nil, first_reaches, reaching_less, less_sorted, Taken, taken_none, taken_first, taken_more}
use Rattle.theory.proofs.AuctionTurns.{Apart, match_ind}
use Rattle.theory.proofs.Fillable.{traded_nil, traded_cons}

pub at_lots : (contract price lots : ℕ) (b s : Order) → (trade_at contract price lots b s).lots ≡ lots
unfolding trade_at
at_lots contract price lots b s = refl

-- the lots of a trade and of those behind it
traded_turn : (contract price lots : ℕ) (b s : Order) (ts : List Trade) → traded_lots (trade_at contract price lots b s ∷ ts) ≡ lots + traded_lots ts
traded_turn contract price lots b s ts = omega (arith, traded_cons (trade_at contract price lots b s) ts, at_lots contract price lots b s)

-- ---- the volume of a price

pub volume_at_most : (bs ss : List Order) (price : ℕ) → (volume bs ss price ≤ lots_reaching false price bs) × (volume bs ss price ≤ lots_reaching true price ss)
unfolding volume
volume_at_most bs ss price = (omega arith, omega arith)

-- two sorted queues whose best orders do not both reach the price have no volume there
apart_none : (price : ℕ) (bs ss : List Order) → sorted false bs ≡ true → sorted true ss ≡ true → Apart price bs ss → volume bs ss price ≡ 0
apart_none price [] ss x y a = omega (arith, reaching_nil false price, (volume_at_most [] ss price).0)
apart_none price (b ∷ bs) [] x y a = omega (arith, reaching_nil true price, (volume_at_most (b ∷ bs) [] price).1)
apart_none price (b ∷ bs) (s ∷ ss) x y a =
    by_test (ltb 0 (volume (b ∷ bs) (s ∷ ss) price))
    (λ e. let l = ltb-true 0 (volume (b ∷ bs) (s ∷ ss) price) e in
    let v = volume_at_most (b ∷ bs) (s ∷ ss) price in
    let f = first_reaches false price b bs x (omega arith) in
    let g = first_reaches true price s ss y (omega arith) in
    absurd (true≢false (sym (true_both (reaches false price b) (reaches true price s) f g) ∙ a)))
    (λ e. omega (arith, ltb-false 0 (volume (b ∷ bs) (s ∷ ss) price) e))

-- lots taken from both sides are taken from it
volume_less : (bs ss bs' ss' : List Order) (price n : ℕ) → lots_reaching false price bs ≡ n + lots_reaching false price bs'
    → lots_reaching true price ss ≡ n + lots_reaching true price ss' → volume bs ss price ≡ n + volume bs' ss' price
unfolding volume
volume_less bs ss bs' ss' price n h k = omega arith

-- ---- the lots traded, and the lots left

-- THE TRADED LOTS ARE THE VOLUME OF THE PRICE
pub match_volume : (contract price : ℕ) (bs ss : List Order) → sorted false bs ≡ true → sorted true ss ≡ true
    → traded_lots (match_at contract price bs ss).trades ≡ volume bs ss price
match_volume contract price =
    match_ind contract price (λ bs ss m. sorted false bs ≡ true → sorted true ss ≡ true → traded_lots m.trades ≡ volume bs ss price)
    (λ bs ss a x y. omega (arith, traded_nil, apart_none price bs ss x y a))
    (λ b bs s ss m f g ih x y.
    let n = paired b s in
    let v = volume_less (b ∷ bs) (s ∷ ss) _ _ price n (reaching_less false price n b bs (omega arith) f) (reaching_less true price n s ss (omega arith) g) in
    omega (arith, traded_turn contract price n b s m.trades, ih (less_sorted false n b bs x) (less_sorted true n s ss y)))

-- no volume is left at the price: of one side nothing that reaches it
pub match_filled : (contract price : ℕ) (bs ss : List Order) → sorted false bs ≡ true → sorted true ss ≡ true
    → volume (match_at contract price bs ss).buys (match_at contract price bs ss).sells price ≡ 0
match_filled contract price =
    match_ind contract price (λ bs ss m. sorted false bs ≡ true → sorted true ss ≡ true → volume m.buys m.sells price ≡ 0)
    (λ bs ss a x y. apart_none price bs ss x y a)
    (λ b bs s ss m f g ih x y. ih (less_sorted false (paired b s) b bs x) (less_sorted true (paired b s) s ss y))

-- the queues left: the traded lots are taken from the front of each
pub match_taken : (contract price : ℕ) (bs ss : List Order) → sorted false bs ≡ true → sorted true ss ≡ true
    → Taken false (traded_lots (match_at contract price bs ss).trades) bs (match_at contract price bs ss).buys
    × Taken true (traded_lots (match_at contract price bs ss).trades) ss (match_at contract price bs ss).sells
match_taken contract price =
    match_ind contract price
    (λ bs ss m. sorted false bs ≡ true → sorted true ss ≡ true → Taken false (traded_lots m.trades) bs m.buys × Taken true (traded_lots m.trades) ss m.sells)
    (λ bs ss a x y. rw traded_nil (taken_none false bs x, taken_none true ss y))
    (λ b bs s ss m f g ih x y.
    let n = paired b s in
    let i = ih (less_sorted false n b bs x) (less_sorted true n s ss y) in
    rw (traded_turn contract price n b s m.trades)
    (taken_more false n (traded_lots m.trades) _ _ _ (taken_first false b bs x n (omega arith)) i.0, taken_more true n (traded_lots m.trades) _ _ _ (taken_first true s ss y n (omega arith)) i.1))
