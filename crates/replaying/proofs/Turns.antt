-- The replay of a day's trades over accounts: what a loop over the trades keeps, and what it answers. Assumes nothing.
use Rattle.std.specs.Prelude.{Some, None}
use Rattle.laws.specs.Logic.{Bool, true, false, ◌&&◌, List, [], ◌∷◌, ◌≡◌, refl, sym, ap, subst, ◌∙◌}
use Rattle.laws.specs.Numbers.{ℕ, zero, suc, ◌+◌, ◌-◌, ◌*◌, ◌<◌, ◌≤◌, arith, eqb, length, get_or, set, drop, length-set}
use Rattle.laws.specs.Choice.{pick}
use Rattle.rules.specs.Bounds.{max_trades}
use Rattle.rules.specs.Exchange.{account_at, holding_at, no_account, no_holding, no_trade}
use Rattle.rules.specs.Holdings.{after_leg, book_buyer, book_leg, book_seller, book_trade, book_trades, leg_covered, never_below_zero, with_holding, with_long, with_short}
use Rattle.rules.specs.Memory.{recorded_trades, trade_from, used, trade_stride}
use Rattle.rules.specs.declared.{Account.Account, Holding.Holding, Trade.Trade}
use Rattle.theory.proofs.Codecs.{trade_at_lem}
use Rattle.holdings.specs.Bounds.{HoldingWithin, booked_most}
use Rattle.replaying.specs.Parts.{Booked, ReplayIs}
use Rattle.replaying.proofs.Trades.{next_trade, no_trades}
use Rattle.replaying.proofs.UsedLegs.{leg_booked, leg_read, one_leg}

-- ---- bounds: a buy leg lifts only long, a sell leg only short

-- what the accounts and contracts in use hold
pub record HeldTo (k n long short : ℕ) (l : List Account) : Type 0 where
  pub each : (a c : ℕ) → a < n → c < k → ((holding_at l a c).long ≤ long) × ((holding_at l a c).short ≤ short)

-- what holds of every element, and of what is stored, holds after the store
all_set : {A : Type 0} (P : ℕ → A → Type 0) (d : A) (l : List A) (i : ℕ) (v : A) → ((j : ℕ) → P j (get_or l j d)) → P i v → (j : ℕ) → P j (get_or (set l i v) j d)
all_set P d [] i v h hv j = h j
all_set P d (x ∷ xs) zero v h hv zero = hv
all_set P d (x ∷ xs) zero v h hv (suc j) = h (suc j)
all_set P d (x ∷ xs) (suc i) v h hv zero = h zero
all_set P d (x ∷ xs) (suc i) v h hv (suc j) = all_set (λ m. P (suc m)) d xs i v (λ m. h (suc m)) hv j

-- a holding after a leg
long_lifted : (h : Holding) (close lots long short : ℕ) → lots ≤ 1_000 → (h.long ≤ long) × (h.short ≤ short)
    → ((after_leg h false close lots).long ≤ long + 1_000) × ((after_leg h false close lots).short ≤ short)
unfolding after_leg
long_lifted h close lots long short few w = by_close (eqb close 0)
  where
    by_close : (o : Bool) → ((pick o (with_long h (h.long + lots)) (with_short h (h.short - lots))).long ≤ long + 1_000)
        × ((pick o (with_long h (h.long + lots)) (with_short h (h.short - lots))).short ≤ short)
    by_close true = (omega arith, omega arith)
    by_close false = (omega arith, omega arith)

short_lifted : (h : Holding) (close lots long short : ℕ) → lots ≤ 1_000 → (h.long ≤ long) × (h.short ≤ short)
    → ((after_leg h true close lots).long ≤ long) × ((after_leg h true close lots).short ≤ short + 1_000)
unfolding after_leg
short_lifted h close lots long short few w = by_close (eqb close 0)
  where
    by_close : (o : Bool) → ((pick o (with_short h (h.short + lots)) (with_long h (h.long - lots))).long ≤ long)
        × ((pick o (with_short h (h.short + lots)) (with_long h (h.long - lots))).short ≤ short + 1_000)
    by_close true = (omega arith, omega arith)
    by_close false = (omega arith, omega arith)

module _ {k n long short : ℕ} (l : List Account) (w : HeldTo k n long short l) where
  -- a new holding within higher bounds, at one place
  place_held : (long' short' a c : ℕ) (h : Holding) → long ≤ long' → short ≤ short' → (a < n → c < k → (h.long ≤ long') × (h.short ≤ short'))
      → HeldTo k n long' short' (set l a (with_holding (account_at l a) c h))
  unfolding holding_at account_at
  place_held long' short' a c h ml ms new =
      let more : (x y : ℕ) → x < n → y < k → ((get_or (get_or l x no_account).holdings y no_holding).long ≤ long') × ((get_or (get_or l x no_account).holdings y no_holding).short ≤ short')
      = λ x y hx hy. let q = w.each x y hx hy in (omega arith, omega arith) in
      record {
        each = λ x y hx hy.
            all_set (λ x v. x < n → (y : ℕ) → y < k → ((get_or v.holdings y no_holding).long ≤ long') × ((get_or v.holdings y no_holding).short ≤ short')) no_account l a _
            (λ x hx y hy. more x y hx hy)
            (λ ha. all_set (λ y g. y < k → (g.long ≤ long') × (g.short ≤ short')) no_holding (get_or l a no_account).holdings c h (λ y hy. more a y ha hy) (new ha))
            x hx y hy;
      }

  pub bought_held : (a c close lots : ℕ) → lots ≤ 1_000 → HeldTo k n (long + 1_000) short (book_leg l a c false close lots)
  unfolding book_leg
  bought_held a c close lots few =
      place_held (long + 1_000) short a c _ (omega arith) (omega arith) (λ ha hc. long_lifted (holding_at l a c) close lots long short few (w.each a c ha hc))

  pub sold_held : (a c close lots : ℕ) → lots ≤ 1_000 → HeldTo k n long (short + 1_000) (book_leg l a c true close lots)
  unfolding book_leg
  sold_held a c close lots few =
      place_held long (short + 1_000) a c _ (omega arith) (omega arith) (λ ha hc. short_lifted (holding_at l a c) close lots long short few (w.each a c ha hc))

  -- one of them, as code reads it
  holding_fits : {who place a c : ℕ} → who ≡ a → place ≡ c → a < n → c < k → long ≤ booked_most → short ≤ booked_most
      → HoldingWithin booked_most (get_or (get_or l who no_account).holdings place no_holding)
  unfolding holding_at account_at
  holding_fits {who} {place} {a} {c} ea ec ha hc ml ms =
      let q = w.each a c ha hc in
      rw (ea, ec) (record { long = omega arith; short = omega arith })

-- ---- what the loop keeps

module _ (list : List Account) (k n : ℕ) (area : List ℕ) (count : ℕ) where
  -- the accounts in use before the first trade, and the trades
  abbrev started : List Account
  started = used k n list

  abbrev day : List Trade
  day = recorded_trades area count

  -- before trade i
  pub record Going (held : List Account) (i : ℕ) : Type 0 where
    pub fit : n ≤ 32
    pub few : count ≤ max_trades
    pub here : i ≤ count
    pub room : length held ≡ 32
    pub bound : HeldTo k n (100_000 + 1_000 * i) (100_000 + 1_000 * i) held
    pub covered : never_below_zero started day ≡ never_below_zero (used k n held) (drop i day)
    pub booked : book_trades started day ≡ book_trades (used k n held) (drop i day)
    pub whole : book_trades list day ≡ book_trades held (drop i day)

  -- between the two legs of trade i
  pub record Bought (held : List Account) (i : ℕ) (t : Trade) : Type 0 where
    pub fit : n ≤ 32
    pub few : count ≤ max_trades
    pub here : i < count
    pub trade : Booked k n t
    pub room : length held ≡ 32
    pub bound : HeldTo k n (100_000 + 1_000 * i + 1_000) (100_000 + 1_000 * i) held
    pub covered :
        never_below_zero started day
        ≡ (leg_covered (used k n held) t.seller t.contract true t.sellclose t.lots && never_below_zero (book_seller (used k n held) t) (drop (i + 1) day))
    pub booked : book_trades started day ≡ book_trades (book_seller (used k n held) t) (drop (i + 1) day)
    pub whole : book_trades list day ≡ book_trades (book_seller held t) (drop (i + 1) day)

  -- a close of more than is held
  below_zero : never_below_zero started day ≡ false → ReplayIs list k n area count None
  below_zero e = record { covered = sym e; accounts_are = tt; held = tt }

module _ {list : List Account} {k n : ℕ} {area : List ℕ} {count : ℕ} where
  -- before the first trade
  pub going_first : n ≤ 32 → count ≤ max_trades → length list ≡ 32
      → ((a c : ℕ) → a < n → c < k → ((holding_at list a c).long ≤ 100_000) × ((holding_at list a c).short ≤ 100_000)) → Going list k n area count list 0
  going_first hn hc m held =
      record { fit = hn; few = hc; here = omega arith; room = m; bound = record { each = held }; covered = refl; booked = refl; whole = refl }

  -- the buyer's leg: `who` and `place` are the buyer's and the contract's place as code reads them
  module _ {held : List Account} {i : ℕ} (g : Going list k n area count held i) {t : Trade} (h : i < count) (et : t ≡ trade_from (drop (trade_stride * i) area)) (b : Booked k n t)
      {who place : ℕ} (ea : who ≡ t.buyer) (ec : place ≡ t.contract) where
    abbrev buyer_test : Bool
    buyer_test = leg_covered (get_or held who no_account ∷ []) 0 place false t.buyclose t.lots

    held_room : n ≤ length held
    held_room = omega (arith, g.room, g.fit)

    next : drop i (recorded_trades area count) ≡ t ∷ drop (i + 1) (recorded_trades area count)
    next = next_trade area count i h et

    buyer_read : buyer_test ≡ leg_covered (used k n held) t.buyer t.contract false t.buyclose t.lots
    buyer_read = leg_read k n held ea ec b.buyer held_room b.contract false t.buyclose t.lots

    -- his close is not covered
    pub buyer_short : buyer_test ≡ false → ReplayIs list k n area count None
    unfolding never_below_zero
    buyer_short s =
        let off : leg_covered (used k n held) t.buyer t.contract false t.buyclose t.lots ≡ false = sym buyer_read ∙ s in
        below_zero list k n area count (g.covered ∙ ap (never_below_zero (used k n held)) next ∙ rw off)

    pub buyer_fits : HoldingWithin booked_most (get_or (get_or held who no_account).holdings place no_holding)
    buyer_fits = holding_fits held g.bound ea ec b.buyer b.contract (omega (arith, g.few)) (omega (arith, g.few))

    -- it is covered, and booked
    pub buyer_booked : {x : Account} → buyer_test ≡ true
        → x ≡ with_holding (get_or held who no_account) place (after_leg (get_or (get_or held who no_account).holdings place no_holding) false t.buyclose t.lots)
        → Bought list k n area count (set held who x) i t
    unfolding never_below_zero book_trades book_trade
    buyer_booked {x} s ex =
        let on : leg_covered (used k n held) t.buyer t.contract false t.buyclose t.lots ≡ true = sym buyer_read ∙ s in
        let u : used k n (set held who x) ≡ book_buyer (used k n held) t = leg_booked k n held ea ec b.buyer held_room b.contract false t.buyclose t.lots ex in
        record {
          fit = g.fit;
          few = g.few;
          here = h;
          trade = b;
          room = length-set held who x ∙ g.room;
          bound = rw (one_leg held ea ec false t.buyclose t.lots ex) (bought_held held g.bound t.buyer t.contract t.buyclose t.lots b.lots);
          covered = rw u (g.covered ∙ ap (never_below_zero (used k n held)) next ∙ rw on);
          booked = rw u (g.booked ∙ ap (book_trades (used k n held)) next);
          whole = rw (one_leg held ea ec false t.buyclose t.lots ex) (g.whole ∙ ap (book_trades held) next);
        }

  -- the seller's leg
  module _ {held : List Account} {i : ℕ} {t : Trade} (g : Bought list k n area count held i t) {who place : ℕ} (ea : who ≡ t.seller) (ec : place ≡ t.contract) where
    abbrev seller_test : Bool
    seller_test = leg_covered (get_or held who no_account ∷ []) 0 place true t.sellclose t.lots

    still_room : n ≤ length held
    still_room = omega (arith, g.room, g.fit)

    seller_read : seller_test ≡ leg_covered (used k n held) t.seller t.contract true t.sellclose t.lots
    seller_read = leg_read k n held ea ec g.trade.seller still_room g.trade.contract true t.sellclose t.lots

    pub seller_short : seller_test ≡ false → ReplayIs list k n area count None
    seller_short s =
        let off : leg_covered (used k n held) t.seller t.contract true t.sellclose t.lots ≡ false = sym seller_read ∙ s in
        below_zero list k n area count (g.covered ∙ rw off)

    pub seller_fits : HoldingWithin booked_most (get_or (get_or held who no_account).holdings place no_holding)
    seller_fits = holding_fits held g.bound ea ec g.trade.seller g.trade.contract (omega (arith, g.few, g.here)) (omega (arith, g.few, g.here))

    pub seller_booked : {y : Account} → seller_test ≡ true
        → y ≡ with_holding (get_or held who no_account) place (after_leg (get_or (get_or held who no_account).holdings place no_holding) true t.sellclose t.lots)
        → Going list k n area count (set held who y) (i + 1)
    seller_booked {y} s ey =
        let on : leg_covered (used k n held) t.seller t.contract true t.sellclose t.lots ≡ true = sym seller_read ∙ s in
        let u : used k n (set held who y) ≡ book_seller (used k n held) t = leg_booked k n held ea ec g.trade.seller still_room g.trade.contract true t.sellclose t.lots ey in
        let m : 100_000 + 1_000 * i + 1_000 ≡ 100_000 + 1_000 * (i + 1) = omega arith in
        record {
          fit = g.fit;
          few = g.few;
          here = omega (arith, g.here);
          room = length-set held who y ∙ g.room;
          bound = rw (one_leg held ea ec true t.sellclose t.lots ey, ← m) (sold_held held g.bound t.seller t.contract t.sellclose t.lots g.trade.lots);
          covered = rw u (g.covered ∙ rw on);
          booked = rw u g.booked;
          whole = rw (one_leg held ea ec true t.sellclose t.lots ey) g.whole;
        }

  -- after the last trade
  pub all_covered : {held : List Account} {i : ℕ} → Going list k n area count held i → count ≤ i
      → ReplayIs list k n area count (Some held)
  unfolding never_below_zero book_trades
  all_covered {held} {i} g h =
      let none : drop i (recorded_trades area count) ≡ [] = no_trades area count i h in
      record {
        covered = sym (g.covered ∙ ap (never_below_zero (used k n held)) none);
        accounts_are = sym (g.whole ∙ ap (book_trades held) none);
        held = sym (g.booked ∙ ap (book_trades (used k n held)) none);
      }

-- a trade read from its place is the one that was tested there
pub trade_read : {k n : ℕ} {t : Trade} (area : List ℕ) (count i : ℕ) → i < count → t ≡ trade_from (drop (trade_stride * i) area) → Booked k n (get_or (recorded_trades area count) i no_trade) → Booked k n t
trade_read {k} {n} {t} area count i h e b = subst (Booked k n) (trade_at_lem area count i h ∙ sym e) b
