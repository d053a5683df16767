-- CONDITION 3: marking to market never makes or loses money. Proved of the rules for every list of commands, from every memory
-- without recorded trades whose long and short totals are equal and whose arrays have the places of their types, well formed or
-- not; an opening without holdings is the case of nothing held. What the holdings were marked at is taken off the balance to give
-- the cash, and no settlement changes cash and position (Books.antt). It rests on the two facts that Runs.antt rests on. Assumes
-- nothing else.
use mathlib.Core.Bool.{Bool, true, false}
use mathlib.Core.List.{List, []}
use mathlib.Core.Path.{◌≡◌, refl, sym, ap, ap₂, ◌∙◌}
use Prim.Native.Nat.{ℕ, ◌<◌}
use native.Mathlib.Omega.{arith}
use lib.IntN.{ℤ, pos, neg_ℤ, ◌+ℤ◌, ◌-ℤ◌, ◌*ℤ◌, +ℤ_assoc, +ℤ_idl, +ℤ_idr}
use Rattle.laws.specs.Ring.{split, d_eq, ring, *ℤ-add}
use Rattle.laws.specs.Sums.{sum_to, sum_to_ext, sum_to_add, sum_to_zero}
use Rattle.rules.specs.Condition3.{run, move_of, moves_of, paid_in, paid_out, trades_made, sales, costs, net_holding, balance_in, accounts_of, contracts_of, holding_in, net_in, multiplier_in, reference_in, Start, opened, Opening, loaded_worth, loaded, Loaded, sold_for, cost_of, at_prices, settled_at, EndsSettled, Condition3, MoneyKept}
use Rattle.rules.specs.Exchange.{Exchange}
use Rattle.rules.specs.Kinds.{settles, kind_of, step}
use Rattle.rules.specs.Memory.{Memory, exchange_of, Declared, well_formed_memory, respond}
use Rattle.rules.specs.Settlement.{settlement_price}
use Rattle.rules.specs.declared.Trade.{Trade}
use Rattle.rules.specs.declared.Command.{Command}
use Rattle.rules.specs.declared.Command.TheVariants.{Settle}
use Rattle.accounting.specs.Books.{Books, books_of, after, Same, Reached, paid, cash, position, brought, Level}
use Rattle.accounting.specs.Money.{proceeds, net_at_start, net_now}
use Rattle.accounting.proofs.BooksLaws.{reached_cash, reached_position, reached_total, reached_multiplier, balance_is}
use Rattle.accounting.proofs.Runs.{Sound, formed_sound, paid_is, made_is, run_last, run_stays, none_accepted, nothing_paid_in, nothing_paid_out, nothing_traded, one_move, end_declared, end_shape, end_sound, end_reached}
use Rattle.accounting.proofs.Trades.{sum_to_sub, net_holding_nil}

-- ---- integers

pub itself : (x : ℤ) → x -ℤ x ≡ pos 0
itself x = rw (split x) (simp ring (d_eq _ _ _ _ (omega arith)))

-- what stands beside a sum is its whole less the other part
other_part : (b c w : ℤ) → b ≡ c +ℤ w → c ≡ b -ℤ w
other_part b c w e = rw e (apart c w)
  where
    apart : (c w : ℤ) → c ≡ c +ℤ w -ℤ w
    apart c w = rw (split c, split w) (simp ring (d_eq _ _ _ _ (omega arith)))

regroup : (b : ℤ) (i o : ℕ) (s c w : ℤ) → b +ℤ (pos i -ℤ pos o +ℤ (s -ℤ c)) +ℤ w ≡ b +ℤ pos i -ℤ pos o +ℤ s -ℤ c +ℤ w
regroup b i o s c w = rw (split b, split s, split c, split w) (simp ring (d_eq _ _ _ _ (omega arith)))

*ℤ-sub : (x y z : ℤ) → x *ℤ (y -ℤ z) ≡ x *ℤ y -ℤ x *ℤ z
*ℤ-sub x y z = rw (split x, split y, split z) (simp ring (d_eq _ _ _ _ (omega arith)))

-- what trades bring in is what they sold for less what they cost
pub brought_is : (m : Memory) (a : ℕ) (ts : List Trade) →
    brought (contracts_of m) (books_of (exchange_of m)) a ts ≡ sold_for m a ts -ℤ cost_of m a ts
unfolding brought books_of proceeds sold_for cost_of
brought_is m a ts =
    sum_to_ext (contracts_of m) _ _ (λ c k. *ℤ-sub (pos (multiplier_in m c)) (pos (sales a c ts)) (pos (costs a c ts)))
    ∙ sum_to_sub (contracts_of m) (λ c. pos (multiplier_in m c) *ℤ pos (sales a c ts)) (λ c. pos (multiplier_in m c) *ℤ pos (costs a c ts))

-- ---- where the list starts: without trades the start of the day is the net holding now

module _ (m : Memory) (o : Loaded m) (s : Sound (exchange_of m)) where
  loaded_position : (a c : ℕ) → a < accounts_of m → c < contracts_of m → position (books_of (exchange_of m)) a c ≡ net_in m a c
  unfolding net_now
  loaded_position a c l k = sym (s.net a c l k)

  loaded_start : (a c : ℕ) → a < accounts_of m → c < contracts_of m → (books_of (exchange_of m)).start a c ≡ net_in m a c
  unfolding position books_of
  loaded_start a c l k =
      sym (ap (λ (ts : List Trade). net_at_start (exchange_of m) a c +ℤ net_holding a c ts) o.no_trades
      ∙ ap (λ (z : ℤ). net_at_start (exchange_of m) a c +ℤ z) (net_holding_nil a c)
      ∙ +ℤ_idr (net_at_start (exchange_of m) a c))
      ∙ loaded_position a c l k

  loaded_level : Level (accounts_of m) (contracts_of m) (books_of (exchange_of m))
  unfolding Level
  loaded_level c k =
      sum_to_ext (accounts_of m) _ (net_of c) (λ a l. loaded_start a c l k)
      ∙ sum_to_sub (accounts_of m) (λ a. pos (holding_in m a c).long) (λ a. pos (holding_in m a c).short)
      ∙ ap (λ (z : ℤ). z -ℤ sum_to (accounts_of m) (λ a. pos (holding_in m a c).short)) (o.totals c k)
      ∙ itself (sum_to (accounts_of m) (λ a. pos (holding_in m a c).short))
    where
      net_of : ℕ → ℕ → ℤ
      net_of c a = net_in m a c

  -- the cash is the balance without the net holding at the reference
  pub loaded_cash : (a : ℕ) → a < accounts_of m → cash (contracts_of m) (books_of (exchange_of m)) a ≡ balance_in m a -ℤ loaded_worth m a
  unfolding books_of loaded_worth at_prices
  loaded_cash a l =
      other_part (balance_in m a) (cash (contracts_of m) (books_of (exchange_of m)) a) (loaded_worth m a)
      (balance_is (contracts_of m) (books_of (exchange_of m)) a o.no_trades
      ∙ ap (λ (z : ℤ). cash (contracts_of m) (books_of (exchange_of m)) a +ℤ z)
      (sum_to_ext (contracts_of m) _ _ (λ c k. ap (λ (z : ℤ). pos (multiplier_in m c) *ℤ (pos (reference_in m c) *ℤ z)) (loaded_start a c l k))))

-- ---- the run

module _
    (kept : (m : Memory) (c : Command) → well_formed_memory m ≡ true → well_formed_memory (respond m c).memory ≡ true)
    (read_back : (m : Memory) (c : Command) → well_formed_memory m ≡ true → exchange_of (respond m c).memory ≡ step (exchange_of m) c) where
  module _ (m : Memory) (d : Declared m.state) (o : Loaded m) (s : Sound (exchange_of m)) (cs : List Command) where
    first : Books
    first = books_of (exchange_of m)

    last : Books
    last = books_of (exchange_of (run m cs))

    reached : Reached (accounts_of m) (contracts_of m) first (moves_of m cs) last
    unfolding first last
    reached = end_reached kept read_back (accounts_of m) (contracts_of m) m cs refl refl d s

    -- "all balances together equal money paid in minus money paid out, opening money counted as paid in"
    together :
        sum_to (accounts_of m) (balance_in (run m cs))
        ≡ (sum_to (accounts_of m) (balance_in m) +ℤ sum_to (accounts_of m) (λ a. pos (paid_in a m cs))) -ℤ sum_to (accounts_of m) (λ a. pos (paid_out a m cs))
    unfolding first last books_of
    together =
        reached_total (accounts_of m) (contracts_of m) reached (loaded_level m o s)
        ∙ ap (λ (z : ℤ). sum_to (accounts_of m) (balance_in m) +ℤ z)
        (sum_to_ext (accounts_of m) (λ a. paid a (moves_of m cs)) (λ a. pos (paid_in a m cs) -ℤ pos (paid_out a m cs)) (λ a l. paid_is a m cs)
        ∙ sum_to_sub (accounts_of m) (λ a. pos (paid_in a m cs)) (λ a. pos (paid_out a m cs)))
        ∙ sym (+ℤ_assoc (sum_to (accounts_of m) (balance_in m)) (sum_to (accounts_of m) (λ a. pos (paid_in a m cs))) (neg_ℤ (sum_to (accounts_of m) (λ a. pos (paid_out a m cs)))))

    -- the net holding at the end: the one at the start, and what the trades bought less what they sold
    end_net : ℕ → ℕ → ℤ
    end_net a c = net_in m a c +ℤ net_holding a c (trades_made m cs)

    end_position : (a c : ℕ) → a < accounts_of m → c < contracts_of m → position last a c ≡ end_net a c
    unfolding first end_net
    end_position a c l k =
        reached_position (accounts_of m) (contracts_of m) reached a c l k
        ∙ ap₂ (λ (u : ℤ) (ts : List Trade). u +ℤ net_holding a c ts) (loaded_position m o s a c l k) (made_is m cs)

    -- "it equals the engine's long less short"
    net : (a c : ℕ) → a < accounts_of m → c < contracts_of m → net_in (run m cs) a c ≡ end_net a c
    unfolding net_now last
    net a c l k =
        let h = end_shape kept read_back m cs d in
        (end_sound kept read_back m cs d s).net a c (rw h.accounts l) (rw h.listings k)
        ∙ end_position a c l k

    -- ---- a list that ends with an accepted settlement

    module _ (before : List Command) (e : EndsSettled m cs before) where
      -- the state that the settlement finds, and its prices
      found : Exchange
      found = exchange_of (run m before)

      price : ℕ → ℕ
      price = settlement_price found

      settlement_moves : move_of (run m before) Settle ≡ settles price
      unfolding move_of price found kind_of
      settlement_moves = rw e.accepted

      last_settled : Same (accounts_of m) (contracts_of m) (after (contracts_of m) (books_of found) (settles price)) last
      unfolding found last
      last_settled =
          let h = end_shape kept read_back m before d in
          rw (settlement_moves, h.accounts, h.listings, ← (run_last m before Settle), ← e.ends)
          at (one_move kept read_back (run m before) Settle (end_declared kept read_back m before d))

      no_trades : last.trades ≡ []
      unfolding after
      no_trades = sym last_settled.trades

      -- at the end each contract is marked at its settlement price, and the start of the next day is the position
      last_reference : (c : ℕ) → c < contracts_of m → last.reference c ≡ price c
      unfolding after
      last_reference c k = sym (last_settled.reference c k)

      last_start : (a c : ℕ) → a < accounts_of m → c < contracts_of m → last.start a c ≡ end_net a c
      unfolding position
      last_start a c l k =
          sym (ap (λ (ts : List Trade). last.start a c +ℤ net_holding a c ts) no_trades
          ∙ ap (λ (z : ℤ). last.start a c +ℤ z) (net_holding_nil a c)
          ∙ +ℤ_idr (last.start a c))
          ∙ end_position a c l k

      last_marked : (a : ℕ) → a < accounts_of m →
          sum_to (contracts_of m) (λ c. pos (last.multiplier c) *ℤ (pos (last.reference c) *ℤ last.start a c))
          ≡ sum_to (contracts_of m) (λ c. pos (first.multiplier c) *ℤ (pos (price c) *ℤ end_net a c))
      last_marked a l =
          sum_to_ext (contracts_of m) _ _
          (λ c k. rw (reached_multiplier (accounts_of m) (contracts_of m) reached c k, last_reference c k, last_start a c l k))

      last_cash : (a : ℕ) → a < accounts_of m →
          cash (contracts_of m) last a
          ≡ balance_in m a -ℤ loaded_worth m a +ℤ (pos (paid_in a m cs) -ℤ pos (paid_out a m cs) +ℤ brought (contracts_of m) first a (trades_made m cs))
      unfolding first
      last_cash a l =
          reached_cash (accounts_of m) (contracts_of m) reached a l
          ∙ ap₂ (λ (u v : ℤ). u +ℤ v) (loaded_cash m o s a l)
          (ap₂ (λ (u : ℤ) (ts : List Trade). u +ℤ brought (contracts_of m) first a ts) (paid_is a m cs) (made_is m cs))

      -- "each account's balance equals opening money + accepted deposits - accepted withdrawals + what its trades sold for - what
      -- they cost + its net holding at that day's settlement price"
      each : (a : ℕ) → a < accounts_of m →
          balance_in (run m cs) a
          ≡ balance_in m a -ℤ loaded_worth m a +ℤ pos (paid_in a m cs) -ℤ pos (paid_out a m cs)
          +ℤ sold_for m a (trades_made m cs) -ℤ cost_of m a (trades_made m cs)
          +ℤ at_prices m (settled_at m before) (λ c. net_in m a c +ℤ net_holding a c (trades_made m cs))
      unfolding first last books_of found price end_net at_prices
      each a l =
          balance_is (contracts_of m) last a no_trades
          ∙ ap₂ (λ (u v : ℤ). u +ℤ v) (last_cash a l) (last_marked a l)
          ∙ ap (λ (z : ℤ). balance_in m a -ℤ loaded_worth m a +ℤ (pos (paid_in a m cs) -ℤ pos (paid_out a m cs) +ℤ z) +ℤ marked a)
          (brought_is m a (trades_made m cs))
          ∙ regroup (balance_in m a -ℤ loaded_worth m a) (paid_in a m cs) (paid_out a m cs) (sold_for m a (trades_made m cs)) (cost_of m a (trades_made m cs))
          (marked a)
        where
          marked : ℕ → ℤ
          marked a = sum_to (contracts_of m) (λ c. pos (first.multiplier c) *ℤ (pos (price c) *ℤ end_net a c))

  sound_kept : (m : Memory) → Declared m.state → Loaded m → Sound (exchange_of m) → (cs : List Command) → Condition3 (loaded m) m cs (run m cs)
  unfolding end_net
  sound_kept m d o s cs = record {
    together = together m d o s cs;
    each = λ before e a l. each m d o s cs before e a l;
    net = net m d o s cs;
  }

  -- ---- a state that is not well formed

  nothing_moved : (m : Memory) → well_formed_memory m ≡ false → (cs : List Command) → Condition3 (loaded m) m cs (run m cs)
  nothing_moved m w cs = record {
    together =
        ap (λ (k : Memory). sum_to (accounts_of m) (balance_in k)) (run_stays m w cs)
        ∙ sym (ap₂ (λ (u v : ℤ). (total +ℤ u) -ℤ v)
        (sum_to_ext (accounts_of m) _ _ (λ a l. ap pos (nothing_paid_in m w a cs)) ∙ sum_to_zero (accounts_of m))
        (sum_to_ext (accounts_of m) _ _ (λ a l. ap pos (nothing_paid_out m w a cs)) ∙ sum_to_zero (accounts_of m))
        ∙ +ℤ_idr (total +ℤ pos 0) ∙ +ℤ_idr total);
    each = λ before e a l. absurd (none_accepted m w before Settle e.accepted);
    net = λ a c l k.
        ap (λ (k : Memory). net_in k a c) (run_stays m w cs)
        ∙ sym (ap (λ (ts : List Trade). net_in m a c +ℤ net_holding a c ts) (nothing_traded m w cs)
        ∙ ap (λ (z : ℤ). net_in m a c +ℤ z) (net_holding_nil a c)
        ∙ +ℤ_idr (net_in m a c));
  }
    where
      total : ℤ
      total = sum_to (accounts_of m) (balance_in m)

  -- FROM A LOADED STATE
  from_loaded : (m : Memory) → Declared m.state → Loaded m → (cs : List Command) → Condition3 (loaded m) m cs (run m cs)
  from_loaded m d o cs = whether (well_formed_memory m) refl
    where
      whether : (w : Bool) → well_formed_memory m ≡ w → Condition3 (loaded m) m cs (run m cs)
      whether true w = sound_kept m d o (formed_sound m d w) cs
      whether false w = nothing_moved m w cs

-- ---- an opening is the loaded state whose holdings are nothing

nothing_worth : (k n : ℕ) → pos k *ℤ (pos n *ℤ pos 0) ≡ pos 0
nothing_worth k n = simp ring (d_eq _ _ _ _ (omega arith))

module _ (m : Memory) (o : Opening m) where
  pub opening_loaded : Loaded m
  opening_loaded = record {
    no_trades = o.no_trades;
    totals = λ c k. sum_to_ext (accounts_of m) _ _ (λ a l. ap pos (o.no_long a c l k ∙ sym (o.no_short a c l k)));
  }

  opening_net : (a c : ℕ) → a < accounts_of m → c < contracts_of m → net_in m a c ≡ pos 0
  opening_net a c l k = rw (o.no_long a c l k, o.no_short a c l k)

  opening_worth : (a : ℕ) → a < accounts_of m → loaded_worth m a ≡ pos 0
  unfolding loaded_worth at_prices
  opening_worth a l =
      sum_to_ext (contracts_of m) _ (λ c. pos 0)
      (λ c k. ap (λ (z : ℤ). pos (multiplier_in m c) *ℤ (pos (reference_in m c) *ℤ z)) (opening_net a c l k) ∙ nothing_worth (multiplier_in m c) (reference_in m c))
      ∙ sum_to_zero (contracts_of m)

  opening_money : (a : ℕ) → a < accounts_of m → (loaded m).money a ≡ (opened m).money a
  opening_money a l = ap (λ (z : ℤ). balance_in m a -ℤ z) (opening_worth a l) ∙ +ℤ_idr (balance_in m a)

  opening_after : (a c : ℕ) (ts : List Trade) → a < accounts_of m → c < contracts_of m → (loaded m).net_after a c ts ≡ (opened m).net_after a c ts
  opening_after a c ts l k = ap (λ (z : ℤ). z +ℤ net_holding a c ts) (opening_net a c l k) ∙ +ℤ_idl (net_holding a c ts)

-- two starts that agree on the accounts and contracts in use give the same claim
module _ (m : Memory) (s t : Start) (money : (a : ℕ) → a < accounts_of m → s.money a ≡ t.money a)
    (after : (a c : ℕ) (ts : List Trade) → a < accounts_of m → c < contracts_of m → s.net_after a c ts ≡ t.net_after a c ts) where
  marked_as : (price : ℕ → ℕ) (a : ℕ) (ts : List Trade) → a < accounts_of m →
      at_prices m price (λ c. s.net_after a c ts) ≡ at_prices m price (λ c. t.net_after a c ts)
  unfolding at_prices
  marked_as price a ts l =
      sum_to_ext (contracts_of m) _ _ (λ c k. ap (λ (z : ℤ). pos (multiplier_in m c) *ℤ (pos (price c) *ℤ z)) (after a c ts l k))

  start_as : (cs : List Command) (m' : Memory) → Condition3 s m cs m' → Condition3 t m cs m'
  start_as cs m' claim = record {
    together = claim.together;
    each = λ before e a l.
        claim.each before e a l
        ∙ ap₂ (λ (u v : ℤ). u +ℤ pos (paid_in a m cs) -ℤ pos (paid_out a m cs) +ℤ sold_for m a (trades_made m cs) -ℤ cost_of m a (trades_made m cs) +ℤ v) (money a l)
        (marked_as (settled_at m before) a (trades_made m cs) l);
    net = λ a c l k. claim.net a c l k ∙ after a c (trades_made m cs) l k;
  }

-- so its claim is that of the loaded state, and the other way round
module _ (m : Memory) (o : Opening m) (cs : List Command) (m' : Memory) where
  pub as_opened : Condition3 (loaded m) m cs m' → Condition3 (opened m) m cs m'
  as_opened = start_as m (loaded m) (opened m) (opening_money m o) (opening_after m o) cs m'

  pub as_loaded : Condition3 (opened m) m cs m' → Condition3 (loaded m) m cs m'
  as_loaded = start_as m (opened m) (loaded m) (λ a l. sym (opening_money m o a l)) (λ a c ts l k. sym (opening_after m o a c ts l k)) cs m'

-- THE CLAIM
module _
    (kept : (m : Memory) (c : Command) → well_formed_memory m ≡ true → well_formed_memory (respond m c).memory ≡ true)
    (read_back : (m : Memory) (c : Command) → well_formed_memory m ≡ true → exchange_of (respond m c).memory ≡ step (exchange_of m) c) where
  pub condition3 : (m : Memory) → Declared m.state → (cs : List Command) → MoneyKept m cs (run m cs)
  condition3 m d cs = record {
    from_nothing = λ o. as_opened m o cs (run m cs) (from_loaded kept read_back m d (opening_loaded m o) cs);
    from_loaded = λ o. from_loaded kept read_back m d o cs;
  }
