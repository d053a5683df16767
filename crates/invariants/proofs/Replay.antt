-- The replay of a day's trades depends on lots alone: two lists of accounts with the same lots book the same trades to the same
-- lots. Assumes nothing.
use lib.IntN.{pos}
use Rattle.laws.specs.Logic.{Bool, true, false, false≢true, List, [], ◌∷◌, map, ◌≡◌, refl, sym, ap, ap₂, ◌∙◌}
use Rattle.laws.specs.Numbers.{ℕ, ◌+◌, ◌-◌, arith, eqb-true, eq-eqb, eqb, length, get_or, set, drop, List·getD-map}
use Rattle.laws.specs.Choice.{pick, both_true, true_both}
use Rattle.laws.specs.Lists.{map_set}
use Rattle.laws.specs.Chains.{all_passed, join}
use Rattle.rules.specs.Exchange.{account_at, holding_at, no_account, no_holding}
use Rattle.rules.specs.Holdings.{with_long, with_short, after_leg, book_leg, book_buyer, book_seller, book_trade, book_trades, leg_covered, never_below_zero, same_lots, same_holdings}
use Rattle.rules.specs.declared.{Account.Account, Holding.Holding, Trade.Trade}

-- ---- lots now, and nothing else

abbrev pub now_only : Holding → Holding
now_only h = record { long = h.long; short = h.short; startlong = 0; startshort = 0 }

abbrev pub lots_of : Account → Account
lots_of a = record { balance = pos 0; maker = 0; holdings = map now_only a.holdings }

unfoldable pub lots_only : List Account → List Account
lots_only accounts = map lots_of accounts

same_now : (h k : Holding) → h.long ≡ k.long → h.short ≡ k.short → now_only h ≡ now_only k
same_now h k p q = λ i. record { long = p i; short = q i; startlong = 0; startshort = 0 }

same_lots_lem : (hs ks : List Holding) → same_lots hs ks ≡ true → map now_only hs ≡ map now_only ks
unfolding same_lots
same_lots_lem [] [] e = refl
same_lots_lem [] (k ∷ ks) e = absurd (false≢true e)
same_lots_lem (h ∷ hs) [] e = absurd (false≢true e)
same_lots_lem (h ∷ hs) (k ∷ ks) e =
    let p = all_passed (eqb h.long k.long) (eqb h.short k.short ∷ same_lots hs ks ∷ []) e in
    ap₂ (λ (j : Holding) (js : List Holding). j ∷ js)
    (same_now h k (eqb-true h.long k.long p.0) (eqb-true h.short k.short p.1.0)) (same_lots_lem hs ks p.1.1)

lots_same : (hs ks : List Holding) → map now_only hs ≡ map now_only ks → same_lots hs ks ≡ true
unfolding same_lots
lots_same [] [] e = refl
lots_same [] (k ∷ ks) e = absurd (omega (arith, ap length e))
lots_same (h ∷ hs) [] e = absurd (omega (arith, ap length e))
lots_same (h ∷ hs) (k ∷ ks) e =
    join (eqb h.long k.long) (eqb h.short k.short ∷ same_lots hs ks ∷ []) (
      eq-eqb _ _ (ap (λ (l : List Holding). (get_or l 0 no_holding).long) e),
      (eq-eqb _ _ (ap (λ (l : List Holding). (get_or l 0 no_holding).short) e), lots_same hs ks (ap (λ (l : List Holding). drop 1 l) e)),
    )

pub same_holdings_lem : (as' bs : List Account) → same_holdings as' bs ≡ true → lots_only as' ≡ lots_only bs
unfolding same_holdings lots_only
same_holdings_lem [] [] e = refl
same_holdings_lem [] (b ∷ bs) e = absurd (false≢true e)
same_holdings_lem (a ∷ as') [] e = absurd (false≢true e)
same_holdings_lem (a ∷ as') (b ∷ bs) e =
    let p = both_true (same_lots a.holdings b.holdings) (same_holdings as' bs) e in
    ap₂ (λ (hs : List Holding) (ls : List Account). record { balance = pos 0; maker = 0; holdings = hs } ∷ ls)
    (same_lots_lem a.holdings b.holdings p.0) (same_holdings_lem as' bs p.1)

pub holdings_same : (as' bs : List Account) → lots_only as' ≡ lots_only bs → same_holdings as' bs ≡ true
unfolding same_holdings lots_only
holdings_same [] [] e = refl
holdings_same [] (b ∷ bs) e = absurd (omega (arith, ap length e))
holdings_same (a ∷ as') [] e = absurd (omega (arith, ap length e))
holdings_same (a ∷ as') (b ∷ bs) e =
    true_both (same_lots a.holdings b.holdings) (same_holdings as' bs)
    (lots_same a.holdings b.holdings (ap (λ (l : List Account). (get_or l 0 no_account).holdings) e))
    (holdings_same as' bs (ap (λ (l : List Account). drop 1 l) e))

-- ---- booking goes by lots

holding_lots : (accounts : List Account) (a c : ℕ) → holding_at (lots_only accounts) a c ≡ now_only (holding_at accounts a c)
unfolding holding_at account_at lots_only
holding_lots accounts a c = rw (List·getD-map lots_of accounts a no_account) (List·getD-map now_only (account_at accounts a).holdings c no_holding)

leg_lots : (h : Holding) (sell : Bool) (close lots : ℕ) → now_only (after_leg h sell close lots) ≡ after_leg (now_only h) sell close lots
unfolding after_leg
leg_lots h sell close lots = by_leg sell (eqb close 0)
  where
    by_leg : (s o : Bool) → now_only (pick s (pick o (with_short h (h.short + lots)) (with_long h (h.long - lots)))
        (pick o (with_long h (h.long + lots)) (with_short h (h.short - lots))))
        ≡ pick s (pick o (with_short (now_only h) (h.short + lots)) (with_long (now_only h) (h.long - lots)))
        (pick o (with_long (now_only h) (h.long + lots)) (with_short (now_only h) (h.short - lots)))
    by_leg false false = refl
    by_leg false true = refl
    by_leg true false = refl
    by_leg true true = refl

module _ (accounts : List Account) (a c : ℕ) (sell : Bool) (close lots : ℕ) where
  book_lots : lots_only (book_leg accounts a c sell close lots) ≡ book_leg (lots_only accounts) a c sell close lots
  unfolding book_leg lots_only account_at
  book_lots =
      map_set lots_of accounts a _
      ∙ rw (List·getD-map lots_of accounts a no_account, holding_lots accounts a c, ← leg_lots (holding_at accounts a c) sell close lots)
      (ap (λ (hs : List Holding). set (map lots_of accounts) a (record { balance = pos 0; maker = 0; holdings = hs }))
      (map_set now_only (account_at accounts a).holdings c (after_leg (holding_at accounts a c) sell close lots)))

  covered_lots : leg_covered (lots_only accounts) a c sell close lots ≡ leg_covered accounts a c sell close lots
  unfolding leg_covered
  covered_lots = rw (holding_lots accounts a c)

trade_lots : (accounts : List Account) (t : Trade) → lots_only (book_trade accounts t) ≡ book_trade (lots_only accounts) t
unfolding book_trade
trade_lots accounts t =
    book_lots (book_buyer accounts t) t.seller t.contract true t.sellclose t.lots
    ∙ ap (λ (l : List Account). book_seller l t) (book_lots accounts t.buyer t.contract false t.buyclose t.lots)

trades_lots : (accounts : List Account) (ts : List Trade) → lots_only (book_trades accounts ts) ≡ book_trades (lots_only accounts) ts
unfolding book_trades
trades_lots accounts [] = refl
trades_lots accounts (t ∷ ts) = trades_lots (book_trade accounts t) ts ∙ ap (λ (l : List Account). book_trades l ts) (trade_lots accounts t)

never_lots : (accounts : List Account) (ts : List Trade) → never_below_zero (lots_only accounts) ts ≡ never_below_zero accounts ts
unfolding never_below_zero
never_lots accounts [] = refl
never_lots accounts (t ∷ ts) =
    rw (
      covered_lots accounts t.buyer t.contract false t.buyclose t.lots,
      ← book_lots accounts t.buyer t.contract false
          t.buyclose t.lots,
      covered_lots (book_buyer accounts t) t.seller t.contract true t.sellclose t.lots,
      ← trade_lots accounts t,
      never_lots (book_trade accounts t) ts,
    )

module _ (as' bs : List Account) (same : lots_only as' ≡ lots_only bs) (ts : List Trade) where
  pub book_same : lots_only (book_trades as' ts) ≡ lots_only (book_trades bs ts)
  book_same = trades_lots as' ts ∙ ap (λ (l : List Account). book_trades l ts) same ∙ sym (trades_lots bs ts)

  pub never_same : never_below_zero as' ts ≡ never_below_zero bs ts
  never_same = sym (never_lots as' ts) ∙ ap (λ (l : List Account). never_below_zero l ts) same ∙ never_lots bs ts
