-- Marking to market makes and loses nothing, for any list of moves: an account's cash changes by what it is paid and what its
-- trades bring in, its position by its trades, and all balances together by what is paid. Assumes nothing.
use lib.IntN.{ℤ, pos, neg_ℤ, ◌+ℤ◌, ◌-ℤ◌, ◌*ℤ◌, +ℤ_assoc, +ℤ_idl, +ℤ_idr, *ℤ-zero}
use Rattle.laws.specs.Logic.{List, [], ◌++◌, ◌≡◌, refl, sym, ap, ap₂, ◌∙◌}
use Rattle.laws.specs.Numbers.{ℕ, zero, suc, ◌<◌, arith, eqb}
use Rattle.laws.specs.Choice.{pick}
use Rattle.laws.specs.Ring.{split, d_eq, ring, *ℤ-add}
use Rattle.laws.specs.Sums.{sum_to, sum_to_ext, sum_to_add, sum_to_mul, sum_to_zero}
use Rattle.rules.specs.Condition3.{net_holding, made_by, made}
use Rattle.rules.specs.Kinds.{Move, pays_in, pays_out, makes, settles}
use Rattle.rules.specs.declared.Trade.{Trade}
use Rattle.accounting.specs.Books.{Books, marked, paid_to, after, Same, Reached, stay, move, paid_by, paid, cash, position, brought, Level}
use Rattle.accounting.specs.Money.{proceeds, AllKnown}
use Rattle.accounting.proofs.Trades.{sum_to_sub, proceeds_nil, proceeds_append, net_holding_nil, net_holding_append, zero_proceeds, zero_net}

-- ---- what trades bring in

module _ (contracts : ℕ) (s : Books) (a : ℕ) where
  pub brought_nil : brought contracts s a [] ≡ pos 0
  unfolding brought
  brought_nil =
      sum_to_ext contracts (λ c. pos (s.multiplier c) *ℤ proceeds a c []) (λ c. pos 0) (λ c l. rw (proceeds_nil a c) (*ℤ-zero (pos (s.multiplier c))))
      ∙ sum_to_zero contracts

  pub brought_append : (ts us : List Trade) → brought contracts s a (ts ++ us) ≡ brought contracts s a ts +ℤ brought contracts s a us
  unfolding brought
  brought_append ts us =
      sum_to_ext contracts (λ c. pos (s.multiplier c) *ℤ proceeds a c (ts ++ us)) (λ c. pos (s.multiplier c) *ℤ proceeds a c ts +ℤ pos (s.multiplier c) *ℤ proceeds a c us)
      (λ c l. rw (proceeds_append a c ts us) (*ℤ-add (pos (s.multiplier c)) (proceeds a c ts) (proceeds a c us)))
      ∙ sum_to_add contracts (λ c. pos (s.multiplier c) *ℤ proceeds a c ts) (λ c. pos (s.multiplier c) *ℤ proceeds a c us)

-- ---- one move

pays_algebra : (b z t : ℤ) → b +ℤ z +ℤ t ≡ b +ℤ t +ℤ (z +ℤ pos 0)
pays_algebra b z t = rw (split b, split z, split t) (simp ring (d_eq _ _ _ _ (omega arith)))

makes_algebra : (m r : ℕ) (p q n : ℤ) → pos m *ℤ (p +ℤ q -ℤ pos r *ℤ n) ≡ pos m *ℤ (p -ℤ pos r *ℤ n) +ℤ pos m *ℤ q
makes_algebra m r p q n = rw (split p, split q, split n) (simp ring (d_eq _ _ _ _ (omega arith)))

settles_algebra : (m r q : ℕ) (p n k : ℤ) →
    pos m *ℤ (p +ℤ pos q *ℤ (n +ℤ k) -ℤ pos r *ℤ n) +ℤ pos m *ℤ (pos 0 -ℤ pos q *ℤ (n +ℤ k)) ≡ pos m *ℤ (p -ℤ pos r *ℤ n)
settles_algebra m r q p n k = rw (split p, split n, split k) (simp ring (d_eq _ _ _ _ (omega arith)))

module _ (contracts : ℕ) (s : Books) (a : ℕ) where
  -- one contract's part of the cash
  kept : ℕ → ℤ
  kept c = pos (s.multiplier c) *ℤ (proceeds a c s.trades -ℤ pos (s.reference c) *ℤ s.start a c)

  cash_pays : (u : ℕ) (z : ℤ) → cash contracts (paid_to s u z) a ≡ cash contracts s a +ℤ (pick (eqb u a) z (pos 0) +ℤ pos 0)
  unfolding cash
  cash_pays u z = pays_algebra (s.balance a) (pick (eqb u a) z (pos 0)) (sum_to contracts _)

  cash_makes : (ts : List Trade) → cash contracts (after contracts s (makes ts)) a ≡ cash contracts s a +ℤ (pos 0 +ℤ brought contracts s a ts)
  unfolding cash after kept brought
  cash_makes ts =
      ap (λ (z : ℤ). s.balance a +ℤ z)
      (sum_to_ext contracts _ (λ c. kept c +ℤ pos (s.multiplier c) *ℤ proceeds a c ts)
      (λ c l. rw (proceeds_append a c s.trades ts) (makes_algebra (s.multiplier c) (s.reference c) (proceeds a c s.trades) (proceeds a c ts) (s.start a c)))
      ∙ sum_to_add contracts kept (λ c. pos (s.multiplier c) *ℤ proceeds a c ts))
      ∙ sym (+ℤ_assoc (s.balance a) (sum_to contracts kept) (brought contracts s a ts))
      ∙ ap (λ (z : ℤ). s.balance a +ℤ sum_to contracts kept +ℤ z) (sym (+ℤ_idl (brought contracts s a ts)))

  cash_settles : (price : ℕ → ℕ) → cash contracts (after contracts s (settles price)) a ≡ cash contracts s a +ℤ (pos 0 +ℤ pos 0)
  unfolding cash after kept marked
  cash_settles price =
      +ℤ_assoc (s.balance a) _ _ ∙ ap (λ (z : ℤ). s.balance a +ℤ z)
      (sym (sum_to_add contracts (λ c. pos (s.multiplier c) *ℤ marked s (price c) a c)
      (λ c. pos (s.multiplier c) *ℤ (proceeds a c [] -ℤ pos (price c) *ℤ (s.start a c +ℤ net_holding a c s.trades)))) ∙ sum_to_ext contracts _ kept
      (λ c l. rw (proceeds_nil a c) (settles_algebra (s.multiplier c) (s.reference c) (price c) (proceeds a c s.trades) (s.start a c) (net_holding a c s.trades))))
      ∙ (sym (+ℤ_idr (s.balance a +ℤ sum_to contracts kept)))

  cash_after : (m : Move) → cash contracts (after contracts s m) a ≡ cash contracts s a +ℤ (paid_by a m +ℤ brought contracts s a (made_by m))
  unfolding paid_by made_by after
  cash_after (pays_in u n) = rw (brought_nil contracts s a) (cash_pays u (pos n))
  cash_after (pays_out u n) = rw (brought_nil contracts s a) (cash_pays u (neg_ℤ (pos n)))
  cash_after (makes ts) = cash_makes ts
  cash_after (settles price) = rw (brought_nil contracts s a) (cash_settles price)

  position_after : (m : Move) (c : ℕ) → position (after contracts s m) a c ≡ position s a c +ℤ net_holding a c (made_by m)
  unfolding position after made_by
  position_after (pays_in u n) c = rw (net_holding_nil a c) (sym (+ℤ_idr (position s a c)))
  position_after (pays_out u n) c = rw (net_holding_nil a c) (sym (+ℤ_idr (position s a c)))
  position_after (makes ts) c = rw (net_holding_append a c s.trades ts) (sym (+ℤ_assoc (s.start a c) (net_holding a c s.trades) (net_holding a c ts)))
  position_after (settles price) c = refl

-- ---- over all accounts

marked_sum : (n m q r : ℕ) (P S N : ℕ → ℤ) → sum_to n (λ a. pos m *ℤ (P a +ℤ pos q *ℤ (S a +ℤ N a) -ℤ pos r *ℤ S a))
    ≡ pos m *ℤ (sum_to n P +ℤ pos q *ℤ (sum_to n S +ℤ sum_to n N) -ℤ pos r *ℤ sum_to n S)
marked_sum n m q r P S N =
    sum_to_mul n (pos m) (λ a. P a +ℤ pos q *ℤ (S a +ℤ N a) -ℤ pos r *ℤ S a) ∙ ap (λ (z : ℤ). pos m *ℤ z)
    (sum_to_sub n (λ a. P a +ℤ pos q *ℤ (S a +ℤ N a)) (λ a. pos r *ℤ S a) ∙ ap₂ (λ (u v : ℤ). u -ℤ v)
    (sum_to_add n P (λ a. pos q *ℤ (S a +ℤ N a))
    ∙ ap (λ (z : ℤ). sum_to n P +ℤ z) (sum_to_mul n (pos q) (λ a. S a +ℤ N a) ∙ ap (λ (z : ℤ). pos q *ℤ z) (sum_to_add n S N)))
    (sum_to_mul n (pos r) S))

-- what is nothing over the accounts in each contract is nothing over all contracts
nothing_over : (accounts contracts : ℕ) (F : ℕ → ℕ → ℤ) → ((c : ℕ) → c < contracts → sum_to accounts (λ a. F a c) ≡ pos 0) →
    sum_to accounts (λ a. sum_to contracts (F a)) ≡ pos 0
unfolding sum_to
nothing_over accounts zero F h = sum_to_zero accounts
nothing_over accounts (suc k) F h =
    sum_to_add accounts (λ a. sum_to k (F a)) (λ a. F a k)
    ∙ ap₂ (λ (u v : ℤ). u +ℤ v) (nothing_over accounts k F (λ c l. h c (omega arith))) (h k (omega arith))

module _ (accounts contracts : ℕ) (s : Books) (known : AllKnown accounts s.trades) (level : Level accounts contracts s) where
  -- A SETTLEMENT MAKES AND LOSES NOTHING
  pub marked_nothing : (price : ℕ → ℕ) → sum_to accounts (λ a. sum_to contracts (λ c. pos (s.multiplier c) *ℤ marked s (price c) a c)) ≡ pos 0
  unfolding marked Level
  marked_nothing price =
      nothing_over accounts contracts (λ a c. pos (s.multiplier c) *ℤ marked s (price c) a c)
      (λ c l. marked_sum accounts (s.multiplier c) (price c) (s.reference c) (λ a. proceeds a c s.trades) (λ a. s.start a c) (λ a. net_holding a c s.trades)
      ∙ rw (zero_proceeds accounts c s.trades known, level c l, zero_net accounts c s.trades known) (nothing (s.multiplier c) (price c) (s.reference c)))
    where
      nothing : (m q r : ℕ) → pos m *ℤ (pos 0 +ℤ pos q *ℤ (pos 0 +ℤ pos 0) -ℤ pos r *ℤ pos 0) ≡ pos 0
      nothing m q r = simp ring (d_eq _ _ _ _ (omega arith))

  total_after : (m : Move) → sum_to accounts (after contracts s m).balance ≡ sum_to accounts s.balance +ℤ sum_to accounts (λ a. paid_by a m)
  unfolding after paid_by
  total_after (pays_in u n) = sum_to_add accounts s.balance (λ a. pick (eqb u a) (pos n) (pos 0))
  total_after (pays_out u n) = sum_to_add accounts s.balance (λ a. pick (eqb u a) (neg_ℤ (pos n)) (pos 0))
  total_after (makes ts) = rw (sum_to_zero accounts) (sym (+ℤ_idr (sum_to accounts s.balance)))
  total_after (settles price) =
      sum_to_add accounts s.balance (λ a. sum_to contracts (λ c. pos (s.multiplier c) *ℤ marked s (price c) a c))
      ∙ ap (λ (z : ℤ). sum_to accounts s.balance +ℤ z) (marked_nothing price ∙ sym (sum_to_zero accounts))

  level_after : (m : Move) → Level accounts contracts (after contracts s m)
  unfolding Level after
  level_after (pays_in u n) = level
  level_after (pays_out u n) = level
  level_after (makes ts) = level
  level_after (settles price) = λ c l.
      sum_to_add accounts (λ a. s.start a c) (λ a. net_holding a c s.trades)
      ∙ ap₂ (λ (u v : ℤ). u +ℤ v) (level c l) (zero_net accounts c s.trades known)

-- ---- books that agree

module _ (accounts contracts : ℕ) (s s' : Books) (e : Same accounts contracts s s') where
  same_cash : (a : ℕ) → a < accounts → cash contracts s a ≡ cash contracts s' a
  unfolding cash
  same_cash a l =
      ap₂ (λ (u v : ℤ). u +ℤ v) (e.balance a l)
      (sum_to_ext contracts _ _ (λ c k. rw (e.multiplier c k, e.trades, e.reference c k, e.start a c l k)))

  same_position : (a c : ℕ) → a < accounts → c < contracts → position s a c ≡ position s' a c
  unfolding position
  same_position a c l k = rw (e.start a c l k, e.trades)

  same_brought : (a : ℕ) (ts : List Trade) → brought contracts s a ts ≡ brought contracts s' a ts
  unfolding brought
  same_brought a ts = sum_to_ext contracts _ _ (λ c k. rw (e.multiplier c k))

  same_level : Level accounts contracts s → Level accounts contracts s'
  unfolding Level
  same_level h = λ c k. sum_to_ext accounts _ _ (λ a l. sym (e.start a c l k)) ∙ h c k

  same_total : sum_to accounts s.balance ≡ sum_to accounts s'.balance
  same_total = sum_to_ext accounts _ _ (λ a l. e.balance a l)

-- no move changes a multiplier
brought_after : (contracts : ℕ) (s : Books) (m : Move) (a : ℕ) (ts : List Trade) → brought contracts (after contracts s m) a ts ≡ brought contracts s a ts
unfolding brought after
brought_after contracts s (pays_in u n) a ts = refl
brought_after contracts s (pays_out u n) a ts = refl
brought_after contracts s (makes us) a ts = refl
brought_after contracts s (settles price) a ts = refl

multiplier_after : (contracts : ℕ) (s : Books) (m : Move) (c : ℕ) → (after contracts s m).multiplier c ≡ s.multiplier c
unfolding after
multiplier_after contracts s (pays_in u n) c = refl
multiplier_after contracts s (pays_out u n) c = refl
multiplier_after contracts s (makes us) c = refl
multiplier_after contracts s (settles price) c = refl

-- ---- any list of moves

regroup : (x p q b e : ℤ) → x +ℤ (p +ℤ b) +ℤ (q +ℤ e) ≡ x +ℤ (p +ℤ q +ℤ (b +ℤ e))
regroup x p q b e = rw (split x, split p, split q, split b, split e) (simp ring (d_eq _ _ _ _ (omega arith)))

module _ (accounts contracts : ℕ) where
  pub reached_cash : {s s' : Books} {ms : List Move} → Reached accounts contracts s ms s' → (a : ℕ) → a < accounts →
      cash contracts s' a ≡ cash contracts s a +ℤ (paid a ms +ℤ brought contracts s a (made ms))
  unfolding paid made
  reached_cash (stay {s = s}) a l = rw (brought_nil contracts s a) (sym (+ℤ_idr (cash contracts s a)))
  reached_cash (move {s = s} {s₁ = s₁} {s₂ = s₂} {m = m} {ms = ms} k e r) a l =
      reached_cash r a l ∙ ap₂ (λ (u v : ℤ). u +ℤ (paid a ms +ℤ v))
      (sym (same_cash accounts contracts (after contracts s m) s₁ e a l) ∙ cash_after contracts s a m)
      (sym (same_brought accounts contracts (after contracts s m) s₁ e a (made ms)) ∙ brought_after contracts s m a (made ms))
      ∙ regroup (cash contracts s a) (paid_by a m) (paid a ms) (brought contracts s a (made_by m)) (brought contracts s a (made ms))
      ∙ ap (λ (z : ℤ). cash contracts s a +ℤ (paid_by a m +ℤ paid a ms +ℤ z)) (sym (brought_append contracts s a (made_by m) (made ms)))

  pub reached_position : {s s' : Books} {ms : List Move} → Reached accounts contracts s ms s' → (a c : ℕ) → a < accounts → c < contracts →
      position s' a c ≡ position s a c +ℤ net_holding a c (made ms)
  unfolding made
  reached_position (stay {s = s}) a c l k = rw (net_holding_nil a c) (sym (+ℤ_idr (position s a c)))
  reached_position (move {s = s} {s₁ = s₁} {m = m} {ms = ms} known e r) a c l k =
      reached_position r a c l k
      ∙ ap (λ (z : ℤ). z +ℤ net_holding a c (made ms)) (sym (same_position accounts contracts (after contracts s m) s₁ e a c l k) ∙ position_after contracts s a m c)
      ∙ +ℤ_assoc (position s a c) (net_holding a c (made_by m)) (net_holding a c (made ms))
      ∙ ap (λ (z : ℤ). position s a c +ℤ z) (sym (net_holding_append a c (made_by m) (made ms)))

  pub reached_total : {s s' : Books} {ms : List Move} → Reached accounts contracts s ms s' → Level accounts contracts s →
      sum_to accounts s'.balance ≡ sum_to accounts s.balance +ℤ sum_to accounts (λ a. paid a ms)
  unfolding paid
  reached_total (stay {s = s}) h = rw (sum_to_zero accounts) (sym (+ℤ_idr (sum_to accounts s.balance)))
  reached_total (move {s = s} {s₁ = s₁} {m = m} {ms = ms} known e r) h =
      reached_total r (same_level accounts contracts (after contracts s m) s₁ e (level_after accounts contracts s known h m))
      ∙ ap (λ (z : ℤ). z +ℤ sum_to accounts (λ a. paid a ms))
      (sym (same_total accounts contracts (after contracts s m) s₁ e) ∙ total_after accounts contracts s known h m)
      ∙ +ℤ_assoc (sum_to accounts s.balance) (sum_to accounts (λ a. paid_by a m)) (sum_to accounts (λ a. paid a ms))
      ∙ ap (λ (z : ℤ). sum_to accounts s.balance +ℤ z) (sym (sum_to_add accounts (λ a. paid_by a m) (λ a. paid a ms)))

  -- in each contract as many lots stay long as short
  pub reached_level : {s s' : Books} {ms : List Move} → Reached accounts contracts s ms s' → Level accounts contracts s → Level accounts contracts s'
  reached_level stay h = h
  reached_level (move {s = s} {s₁ = s₁} {m = m} known e r) h =
      reached_level r (same_level accounts contracts (after contracts s m) s₁ e (level_after accounts contracts s known h m))

  pub reached_multiplier : {s s' : Books} {ms : List Move} → Reached accounts contracts s ms s' → (c : ℕ) → c < contracts → s'.multiplier c ≡ s.multiplier c
  reached_multiplier (stay {s = s}) c k = refl
  reached_multiplier (move {s = s} {s₁ = s₁} {m = m} {ms = ms} known e r) c k =
      reached_multiplier r c k ∙ sym (e.multiplier c k) ∙ multiplier_after contracts s m c

-- ---- right after a settlement, and at an opening: without trades today the balance is the cash with the holdings as marked

put_back : (m r : ℕ) (n : ℤ) → pos 0 ≡ pos m *ℤ (pos 0 -ℤ pos r *ℤ n) +ℤ pos m *ℤ (pos r *ℤ n)
put_back m r n = rw (split n) (simp ring (d_eq _ _ _ _ (omega arith)))

pub balance_is : (contracts : ℕ) (s : Books) (a : ℕ) → s.trades ≡ [] →
    s.balance a ≡ cash contracts s a +ℤ sum_to contracts (λ c. pos (s.multiplier c) *ℤ (pos (s.reference c) *ℤ s.start a c))
unfolding cash
balance_is contracts s a e =
    sym (+ℤ_idr (s.balance a)) ∙ ap (λ (z : ℤ). s.balance a +ℤ z)
    (sym (sum_to_zero contracts)
    ∙ sum_to_ext contracts _ (λ c. off c +ℤ on c) (λ c l. rw (e, proceeds_nil a c) (put_back (s.multiplier c) (s.reference c) (s.start a c)))
    ∙ sum_to_add contracts off on) ∙ sym (+ℤ_assoc (s.balance a) (sum_to contracts off) (sum_to contracts on))
  where
    off : ℕ → ℤ
    off c = pos (s.multiplier c) *ℤ (proceeds a c s.trades -ℤ pos (s.reference c) *ℤ s.start a c)

    on : ℕ → ℤ
    on c = pos (s.multiplier c) *ℤ (pos (s.reference c) *ℤ s.start a c)
