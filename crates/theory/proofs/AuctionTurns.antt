-- The auction's match turn by turn, and an induction by which a theorem about every match is two short cases. Assumes nothing.
use Rattle.laws.specs.Logic.{Bool, true, false, ◌&&◌, List, [], ◌∷◌, ◌≡◌, refl, ap, ◌∙◌}
use Rattle.laws.specs.Numbers.{ℕ, zero, suc, ◌+◌, ◌-◌, ◌<◌, ◌≤◌, arith, ltb-true, ltb-false, ltb, length}
use Rattle.laws.specs.Choice.{pick, pick_true, pick_false, both_true, true_both, by_test}
use Rattle.rules.specs.Auction.{Matched, after_match, less_first, match_at, match_in, paired, reaches, trade_at, unmatched}
use Rattle.rules.specs.Matching.{with_lots}
use Rattle.rules.specs.declared.{Order.Order, Trade.Trade}
use Rattle.theory.proofs.Sweep.{stays_none, stays_some}

-- ---- a queue whose first order has traded

pub less_filled : (n : ℕ) (o : Order) (os : List Order) → o.lots ≤ n → less_first n o os ≡ os
less_filled n o os h = rw (stays_none o (o.lots - n) (omega arith))

pub less_part : (n : ℕ) (o : Order) (os : List Order) → n < o.lots → less_first n o os ≡ with_lots o (o.lots - n) ∷ os
less_part n o os h = rw (stays_some o (o.lots - n) (omega arith))

pub length_less : (n : ℕ) (o : Order) (os : List Order) → length (less_first n o os) ≤ suc (length os)
length_less n o os =
    by_test (ltb n o.lots) (λ e. rw (less_part n o os (ltb-true n o.lots e)) (omega arith))
    (λ e. rw (less_filled n o os (ltb-false n o.lots e)) (omega arith))

-- ---- one turn

-- the two best orders do not both reach the price, or there are no two
abbrev pub Apart : ℕ → List Order → List Order → Type 0
Apart price [] ss = Unit {0}
Apart price (b ∷ bs) [] = Unit {0}
Apart price (b ∷ bs) (s ∷ ss) = (reaches false price b && reaches true price s) ≡ false

match_apart : (turns contract price : ℕ) (bs ss : List Order) → Apart price bs ss → match_in turns contract price bs ss ≡ unmatched bs ss
unfolding match_in
match_apart zero contract price bs ss a = refl
match_apart (suc turns) contract price [] ss a = refl
match_apart (suc turns) contract price (b ∷ bs) [] a = refl
match_apart (suc turns) contract price (b ∷ bs) (s ∷ ss) a = pick_false (reaches false price b && reaches true price s) _ _ a

match_turn : (turns contract price : ℕ) (b : Order) (bs : List Order) (s : Order) (ss : List Order)
    → (reaches false price b && reaches true price s) ≡ true → match_in (suc turns) contract price (b ∷ bs) (s ∷ ss)
    ≡ after_match (trade_at contract price (paired b s) b s) (match_in turns contract price (less_first (paired b s) b bs) (less_first (paired b s) s ss))
unfolding match_in
match_turn turns contract price b bs s ss met = pick_true (reaches false price b && reaches true price s) _ _ met

-- every turn fills an order
fills_one : (turns : ℕ) (b : Order) (bs : List Order) (s : Order) (ss : List Order) → suc (length bs) + suc (length ss) ≤ suc turns
    → length (less_first (paired b s) b bs) + length (less_first (paired b s) s ss) ≤ turns
fills_one turns b bs s ss h =
    by_test (ltb (paired b s) b.lots)
    (λ e. let l = ltb-true (paired b s) b.lots e in
    let k = length_less (paired b s) b bs in
    rw (less_filled (paired b s) s ss (omega arith)) (omega arith))
    (λ e. let k = length_less (paired b s) s ss in
    rw (less_filled (paired b s) b bs (ltb-false (paired b s) b.lots e)) (omega arith))

-- a trade a turn at most
match_in_trades : (turns contract price : ℕ) (bs ss : List Order) → length (match_in turns contract price bs ss).trades ≤ turns
unfolding match_in
match_in_trades zero contract price bs ss = omega arith
match_in_trades (suc turns) contract price [] ss = omega arith
match_in_trades (suc turns) contract price (b ∷ bs) [] = omega arith
match_in_trades (suc turns) contract price (b ∷ bs) (s ∷ ss) =
    let n = paired b s in
    cases (reaches false price b && reaches true price s) (trade_at contract price n b s) (match_in turns contract price (less_first n b bs) (less_first n s ss))
    (match_in_trades turns contract price (less_first n b bs) (less_first n s ss))
  where
    cases : (met : Bool) (t : Trade) (m : Matched) → length m.trades ≤ turns → length (pick met (after_match t m) (unmatched (b ∷ bs) (s ∷ ss))).trades ≤ suc turns
    cases true t m h = omega arith
    cases false t m h = omega arith

-- there are no more trades than orders
pub match_count : (contract price : ℕ) (bs ss : List Order) → length (match_at contract price bs ss).trades ≤ length bs + length ss
unfolding match_at
match_count contract price bs ss = match_in_trades (length bs + length ss) contract price bs ss

-- ---- induction over a match

-- What holds of two queues that are left as they are, since their best orders do not both reach the price; and of two whose
-- first orders trade, given that it holds of what they leave: holds of every match.
module _ (contract price : ℕ) (P : List Order → List Order → Matched → Type 0)
    (stop : (bs ss : List Order) → Apart price bs ss → P bs ss (unmatched bs ss))
    (turn : (b : Order) (bs : List Order) (s : Order) (ss : List Order) (m : Matched)
    → reaches false price b ≡ true → reaches true price s ≡ true → P (less_first (paired b s) b bs) (less_first (paired b s) s ss) m
    → P (b ∷ bs) (s ∷ ss) (after_match (trade_at contract price (paired b s) b s) m)) where
  ended : (turns : ℕ) (bs ss : List Order) → Apart price bs ss → P bs ss (match_in turns contract price bs ss)
  ended turns bs ss a = rw (match_apart turns contract price bs ss a) (stop bs ss a)

  two : (turns : ℕ) (b : Order) (bs : List Order) (s : Order) (ss : List Order) (met : Bool) → (reaches false price b && reaches true price s) ≡ met
      → P (less_first (paired b s) b bs) (less_first (paired b s) s ss) (match_in turns contract price (less_first (paired b s) b bs) (less_first (paired b s) s ss))
      → P (b ∷ bs) (s ∷ ss) (match_in (suc turns) contract price (b ∷ bs) (s ∷ ss))
  two turns b bs s ss false e ih = ended (suc turns) (b ∷ bs) (s ∷ ss) e
  two turns b bs s ss true e ih =
      let r = both_true (reaches false price b) (reaches true price s) e in
      rw (match_turn turns contract price b bs s ss e) (turn b bs s ss _ r.0 r.1 ih)

  match_in_ind : (turns : ℕ) (bs ss : List Order) → length bs + length ss ≤ turns → P bs ss (match_in turns contract price bs ss)
  match_in_ind zero [] ss h = ended zero [] ss tt
  match_in_ind zero (b ∷ bs) ss h = absurd (omega arith)
  match_in_ind (suc turns) [] ss h = ended (suc turns) [] ss tt
  match_in_ind (suc turns) (b ∷ bs) [] h = ended (suc turns) (b ∷ bs) [] tt
  match_in_ind (suc turns) (b ∷ bs) (s ∷ ss) h = two turns b bs s ss _ refl (match_in_ind turns _ _ (fills_one turns b bs s ss h))

  pub match_ind : (bs ss : List Order) → P bs ss (match_at contract price bs ss)
  unfolding match_at
  match_ind bs ss = match_in_ind (length bs + length ss) bs ss (omega arith)

-- ---- the turns of `match_at`, for a loop that makes them

module _ (contract price : ℕ) where
  stops : (bs ss : List Order) → Apart price bs ss → (turns : ℕ) → length bs + length ss ≤ turns → match_in turns contract price bs ss ≡ unmatched bs ss
  stops bs ss a turns h = match_apart turns contract price bs ss a

  goes_on : (b : Order) (bs : List Order) (s : Order) (ss : List Order) (m : Matched) → reaches false price b ≡ true → reaches true price s ≡ true
      → ((turns : ℕ) → length (less_first (paired b s) b bs) + length (less_first (paired b s) s ss) ≤ turns
      → match_in turns contract price (less_first (paired b s) b bs) (less_first (paired b s) s ss) ≡ m)
      → (turns : ℕ) → length (b ∷ bs) + length (s ∷ ss) ≤ turns
      → match_in turns contract price (b ∷ bs) (s ∷ ss) ≡ after_match (trade_at contract price (paired b s) b s) m
  goes_on b bs s ss m f g ih zero h = absurd (omega arith)
  goes_on b bs s ss m f g ih (suc turns) h =
      match_turn turns contract price b bs s ss (true_both (reaches false price b) (reaches true price s) f g)
      ∙ ap (after_match (trade_at contract price (paired b s) b s)) (ih turns (fills_one turns b bs s ss h))

  -- a match in any number of turns that is enough
  match_enough : (bs ss : List Order) (turns : ℕ) → length bs + length ss ≤ turns → match_in turns contract price bs ss ≡ match_at contract price bs ss
  match_enough =
      match_ind contract price (λ bs ss m. (turns : ℕ) → length bs + length ss ≤ turns → match_in turns contract price bs ss ≡ m) stops goes_on

  -- it stops
  pub match_at_stop : (bs ss : List Order) → Apart price bs ss → match_at contract price bs ss ≡ unmatched bs ss
  unfolding match_at
  match_at_stop bs ss a = match_apart (length bs + length ss) contract price bs ss a

  -- or the two best orders trade, and it goes on behind them
  pub match_at_turn : (b : Order) (bs : List Order) (s : Order) (ss : List Order)
      → reaches false price b ≡ true → reaches true price s ≡ true → match_at contract price (b ∷ bs) (s ∷ ss)
      ≡ after_match (trade_at contract price (paired b s) b s) (match_at contract price (less_first (paired b s) b bs) (less_first (paired b s) s ss))
  unfolding match_at
  match_at_turn b bs s ss f g =
      goes_on b bs s ss _ f g (match_enough (less_first (paired b s) b bs) (less_first (paired b s) s ss)) (length (b ∷ bs) + length (s ∷ ss)) (omega arith)
