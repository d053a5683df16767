-- Two lists of commands, the second from what the first leaves: their claims give that of the list joined. What the first list leaves is
-- a loaded state, whose cash is that of the start with what was paid and traded since. Assumes nothing.
use mathlib.Core.Bool.{true}
use mathlib.Core.List.{List, [], ◌∷◌, ◌++◌, append_assoc, append-nil}
use mathlib.Core.Path.{◌≡◌, refl, sym, ap, ap₂, ◌∙◌}
use Prim.Native.Nat.{ℕ, ◌+◌, ◌*◌, ◌<◌}
use native.Mathlib.Omega.{arith}
use lib.IntN.{ℤ, pos, ◌+ℤ◌, ◌-ℤ◌, ◌*ℤ◌, +ℤ_assoc}
use lib.ListN.{length}
use Rattle.laws.specs.Choice.{pick}
use Rattle.laws.specs.Ring.{split, d_eq, ring}
use Rattle.laws.specs.Sums.{sum_of, sum_of_append, sum_to, sum_to_ext, sum_to_add}
use Rattle.rules.specs.Condition3.{run, is_accepted, moves_of, in_to, out_of, paid_in, paid_out, made, trades_made, is_buyer, is_seller, sales, costs, net_holding, balance_in, accounts_of, contracts_of, net_in, multiplier_in, loaded, loaded_worth, Loaded, sold_for, cost_of, at_prices, settled_at, EndsSettled, Condition3}
use Rattle.rules.specs.Exchange.{Exchange, account_at, holding_at}
use Rattle.rules.specs.Kinds.{Move, step}
use Rattle.rules.specs.Memory.{Memory, exchange_of, Declared, well_formed_memory, respond}
use Rattle.rules.specs.Settlement.{settlement_price}
use Rattle.rules.specs.declared.Command.{Command}
use Rattle.rules.specs.declared.Command.TheVariants.{Settle}
use Rattle.rules.specs.declared.Trade.{Trade}
use Rattle.accounting.specs.Books.{books_of, Reached, cash, brought}
use Rattle.accounting.proofs.BooksLaws.{reached_cash, reached_multiplier}
use Rattle.accounting.proofs.Condition3.{brought_is, loaded_cash}
use Rattle.accounting.proofs.Runs.{Sound, paid_is, made_is, run_append, end_shape, end_sound, end_reached}
use Rattle.accounting.proofs.Trades.{net_holding_append}

-- ---- a list in two parts

moves_append : (m : Memory) (as' bs : List Command) → moves_of m (as' ++ bs) ≡ moves_of m as' ++ moves_of (run m as') bs
unfolding run moves_of
moves_append m [] bs = refl
moves_append m (c ∷ as') bs = rw (moves_append (respond m c).memory as' bs)

made_append : (vs us : List Move) → made (vs ++ us) ≡ made vs ++ made us
unfolding made
made_append [] us = refl
made_append (v ∷ vs) us = rw (made_append vs us) (simp append_assoc)

module _ (m : Memory) (as' bs : List Command) where
  paid_in_append : (a : ℕ) → paid_in a m (as' ++ bs) ≡ paid_in a m as' + paid_in a (run m as') bs
  unfolding paid_in
  paid_in_append a = ap (sum_of (in_to a)) (moves_append m as' bs) ∙ sum_of_append (in_to a) (moves_of m as') (moves_of (run m as') bs)

  paid_out_append : (a : ℕ) → paid_out a m (as' ++ bs) ≡ paid_out a m as' + paid_out a (run m as') bs
  unfolding paid_out
  paid_out_append a = ap (sum_of (out_of a)) (moves_append m as' bs) ∙ sum_of_append (out_of a) (moves_of m as') (moves_of (run m as') bs)

  trades_append : trades_made m (as' ++ bs) ≡ trades_made m as' ++ trades_made (run m as') bs
  unfolding trades_made
  trades_append = ap made (moves_append m as' bs) ∙ made_append (moves_of m as') (moves_of (run m as') bs)

-- the last command of a list in two parts is the last of the second
record LastOf (as' bs before : List Command) (c : Command) : Type 0 where
  rest : List Command
  front : before ≡ as' ++ rest
  back : bs ≡ rest ++ (c ∷ [])

never_empty : (as' : List Command) (b : Command) (bs : List Command) → as' ++ (b ∷ bs) ≡ [] → ⊥
never_empty [] b bs e = let h = ap length e in omega arith
never_empty (x ∷ as') b bs e = let h = ap length e in omega arith

last_of : (as' : List Command) (b : Command) (bs before : List Command) (c : Command) → as' ++ (b ∷ bs) ≡ before ++ (c ∷ []) →
    LastOf as' (b ∷ bs) before c
last_of [] b bs before c e = record { rest = before; front = refl; back = e }
last_of (x ∷ as') b bs [] c e = let t : as' ++ (b ∷ bs) ≡ [] = cc in absurd (never_empty as' b bs t)
last_of (x ∷ as') b bs (y ∷ before) c e =
    let h : y ≡ x = cc in
    let t : as' ++ (b ∷ bs) ≡ before ++ (c ∷ []) = cc in
    let p = last_of as' b bs before c t in
    record { rest = p.rest; front = ap₂ (λ (z : Command) (zs : List Command). z ∷ zs) h p.front; back = p.back }

-- ---- integers

added : (k i j : ℕ) → pos k *ℤ pos i +ℤ pos k *ℤ pos j ≡ pos k *ℤ pos (i + j)
added k i j = simp ring (d_eq _ _ _ _ (omega arith))

totals_joined : (b x u y v : ℤ) → b +ℤ x -ℤ u +ℤ y -ℤ v ≡ b +ℤ (x +ℤ y) -ℤ (u +ℤ v)
totals_joined b x u y v = rw (split b, split x, split u, split y, split v) (simp ring (d_eq _ _ _ _ (omega arith)))

balance_joined : (b s c t d w : ℤ) (i o j u : ℕ) →
    b +ℤ (pos i -ℤ pos o +ℤ (s -ℤ c)) +ℤ pos j -ℤ pos u +ℤ t -ℤ d +ℤ w ≡ b +ℤ pos (i + j) -ℤ pos (o + u) +ℤ (s +ℤ t) -ℤ (c +ℤ d) +ℤ w
balance_joined b s c t d w i o j u = rw (split b, split s, split c, split t, split d, split w) (simp ring (d_eq _ _ _ _ (omega arith)))

sum_parts : (n : ℕ) (f g h : ℕ → ℕ) → ((a : ℕ) → f a ≡ g a + h a) →
    sum_to n (λ a. pos (f a)) ≡ sum_to n (λ a. pos (g a)) +ℤ sum_to n (λ a. pos (h a))
sum_parts n f g h e = sum_to_ext n _ (λ a. pos (g a) +ℤ pos (h a)) (λ a l. ap pos (e a)) ∙ sum_to_add n (λ a. pos (g a)) (λ a. pos (h a))

-- ---- a balance and a net holding of an exchange

abbrev balance_of : Exchange → ℕ → ℤ
balance_of x a = (account_at x.accounts a).balance

abbrev net_of : Exchange → ℕ → ℕ → ℤ
net_of x a c = pos (holding_at x.accounts a c).long -ℤ pos (holding_at x.accounts a c).short

-- ---- the first list, from a loaded state to a loaded state

module _
    (kept : (m : Memory) (c : Command) → well_formed_memory m ≡ true → well_formed_memory (respond m c).memory ≡ true)
    (read_back : (m : Memory) (c : Command) → well_formed_memory m ≡ true → exchange_of (respond m c).memory ≡ step (exchange_of m) c)
    (m : Memory) (d : Declared m.state) (o : Loaded m) (s : Sound (exchange_of m)) (as' : List Command) (o₁ : Loaded (run m as')) where
  reached : Reached (accounts_of m) (contracts_of m) (books_of (exchange_of m)) (moves_of m as') (books_of (exchange_of (run m as')))
  reached = end_reached kept read_back (accounts_of m) (contracts_of m) m as' refl refl d s

  same_accounts : accounts_of (run m as') ≡ accounts_of m
  same_accounts = (end_shape kept read_back m as' d).accounts

  same_contracts : contracts_of (run m as') ≡ contracts_of m
  same_contracts = (end_shape kept read_back m as' d).listings

  same_multiplier : (c : ℕ) → c < contracts_of m → multiplier_in (run m as') c ≡ multiplier_in m c
  unfolding books_of
  same_multiplier c k = reached_multiplier (accounts_of m) (contracts_of m) reached c k

  -- the money that the second list starts from
  carried_money : (a : ℕ) → a < accounts_of m →
      balance_in (run m as') a -ℤ loaded_worth (run m as') a
      ≡ balance_in m a -ℤ loaded_worth m a +ℤ (pos (paid_in a m as') -ℤ pos (paid_out a m as') +ℤ brought (contracts_of m) (books_of (exchange_of m)) a (trades_made m as'))
  carried_money a l =
      sym (loaded_cash (run m as') o₁ (end_sound kept read_back m as' d s) a (rw same_accounts l))
      ∙ ap (λ (n : ℕ). cash n (books_of (exchange_of (run m as'))) a) same_contracts
      ∙ reached_cash (accounts_of m) (contracts_of m) reached a l
      ∙ ap₂ (λ (u v : ℤ). u +ℤ v) (loaded_cash m o s a l)
      (ap₂ (λ (u : ℤ) (ts : List Trade). u +ℤ brought (contracts_of m) (books_of (exchange_of m)) a ts) (paid_is a m as') (made_is m as'))

  -- ---- the second list, not empty, from what the first leaves

  module _ (b : Command) (bs : List Command) (m' : Memory) (one : Condition3 (loaded m) m as' (run m as'))
      (two : Condition3 (loaded (run m as')) (run m as') (b ∷ bs) m') where
    -- the memory between, the list joined, the trades of each list
    between : Memory
    between = run m as'

    cs : List Command
    cs = as' ++ (b ∷ bs)

    ts : List Trade
    ts = trades_made m as'

    us : List Trade
    us = trades_made between (b ∷ bs)

    together_joined :
        sum_to (accounts_of m) (balance_in m')
        ≡ (sum_to (accounts_of m) (balance_in m) +ℤ sum_to (accounts_of m) (λ a. pos (paid_in a m cs))) -ℤ sum_to (accounts_of m) (λ a. pos (paid_out a m cs))
    unfolding between cs
    together_joined =
        rw same_accounts at two.together
        ∙ ap (λ (z : ℤ). z +ℤ sum_to (accounts_of m) (λ a. pos (paid_in a between (b ∷ bs))) -ℤ sum_to (accounts_of m) (λ a. pos (paid_out a between (b ∷ bs))))
        one.together
        ∙ totals_joined (sum_to (accounts_of m) (balance_in m))
        (sum_to (accounts_of m) (λ a. pos (paid_in a m as'))) (sum_to (accounts_of m) (λ a. pos (paid_out a m as')))
        (sum_to (accounts_of m) (λ a. pos (paid_in a between (b ∷ bs)))) (sum_to (accounts_of m) (λ a. pos (paid_out a between (b ∷ bs))))
        ∙ sym (ap₂ (λ (u v : ℤ). sum_to (accounts_of m) (balance_in m) +ℤ u -ℤ v)
        (sum_parts (accounts_of m) (λ a. paid_in a m cs) (λ a. paid_in a m as') (λ a. paid_in a between (b ∷ bs)) (paid_in_append m as' (b ∷ bs)))
        (sum_parts (accounts_of m) (λ a. paid_out a m cs) (λ a. paid_out a m as') (λ a. paid_out a between (b ∷ bs)) (paid_out_append m as' (b ∷ bs))))

    net_traded : (a c : ℕ) → net_holding a c (trades_made m cs) ≡ net_holding a c ts +ℤ net_holding a c us
    unfolding between cs ts us
    net_traded a c = ap (net_holding a c) (trades_append m as' (b ∷ bs)) ∙ net_holding_append a c ts us

    sales_traded : (a c : ℕ) → sales a c (trades_made m cs) ≡ sales a c ts + sales a c us
    unfolding between cs ts us sales
    sales_traded a c = ap (sales a c) (trades_append m as' (b ∷ bs)) ∙ sum_of_append (λ t. pick (is_seller a c t) (t.price * t.lots) 0) ts us

    costs_traded : (a c : ℕ) → costs a c (trades_made m cs) ≡ costs a c ts + costs a c us
    unfolding between cs ts us costs
    costs_traded a c = ap (costs a c) (trades_append m as' (b ∷ bs)) ∙ sum_of_append (λ t. pick (is_buyer a c t) (t.price * t.lots) 0) ts us

    net_joined : (a c : ℕ) → a < accounts_of m → c < contracts_of m → net_in m' a c ≡ net_in m a c +ℤ net_holding a c (trades_made m cs)
    unfolding between ts us
    net_joined a c l k =
        two.net a c (rw same_accounts l) (rw same_contracts k)
        ∙ ap (λ (z : ℤ). z +ℤ net_holding a c us) (one.net a c l k)
        ∙ +ℤ_assoc (net_in m a c) (net_holding a c ts) (net_holding a c us)
        ∙ ap (λ (z : ℤ). net_in m a c +ℤ z) (sym (net_traded a c))

    -- values of the trades of each list, times the multiplier, are those of all the trades
    values_joined : (first second whole : ℕ → ℕ) → ((c : ℕ) → whole c ≡ first c + second c) →
        sum_to (contracts_of m) (λ c. pos (multiplier_in m c) *ℤ pos (first c))
        +ℤ sum_to (contracts_of between) (λ c. pos (multiplier_in between c) *ℤ pos (second c))
        ≡ sum_to (contracts_of m) (λ c. pos (multiplier_in m c) *ℤ pos (whole c))
    unfolding between
    values_joined first second whole e =
        ap (λ (n : ℕ). sum_to (contracts_of m) one_value +ℤ sum_to n other_value) same_contracts
        ∙ sym (sum_to_add (contracts_of m) one_value other_value)
        ∙ sum_to_ext (contracts_of m) _ _ (λ c k. rw (same_multiplier c k, e c) (added (multiplier_in m c) (first c) (second c)))
      where
        one_value : ℕ → ℤ
        one_value c = pos (multiplier_in m c) *ℤ pos (first c)

        other_value : ℕ → ℤ
        other_value c = pos (multiplier_in (run m as') c) *ℤ pos (second c)

    sold_joined : (a : ℕ) → sold_for m a ts +ℤ sold_for between a us ≡ sold_for m a (trades_made m cs)
    unfolding sold_for
    sold_joined a = values_joined (λ c. sales a c ts) (λ c. sales a c us) (λ c. sales a c (trades_made m cs)) (sales_traded a)

    cost_joined : (a : ℕ) → cost_of m a ts +ℤ cost_of between a us ≡ cost_of m a (trades_made m cs)
    unfolding cost_of
    cost_joined a = values_joined (λ c. costs a c ts) (λ c. costs a c us) (λ c. costs a c (trades_made m cs)) (costs_traded a)

    -- the net holdings after the second list are those after the list joined
    held_joined : (price : ℕ → ℕ) (a : ℕ) → a < accounts_of m →
        at_prices between price (λ c. net_in between a c +ℤ net_holding a c us) ≡ at_prices m price (λ c. net_in m a c +ℤ net_holding a c (trades_made m cs))
    unfolding at_prices between ts us
    held_joined price a l =
        ap (λ (n : ℕ). sum_to n (λ c. pos (multiplier_in (run m as') c) *ℤ (pos (price c) *ℤ (net_in (run m as') a c +ℤ net_holding a c us)))) same_contracts
        ∙ sum_to_ext (contracts_of m) _ _
        (λ c k. ap₂ (λ (n : ℕ) (z : ℤ). pos n *ℤ (pos (price c) *ℤ z)) (same_multiplier c k)
        (ap (λ (z : ℤ). z +ℤ net_holding a c us) (one.net a c l k)
        ∙ +ℤ_assoc (net_in m a c) (net_holding a c ts) (net_holding a c us)
        ∙ ap (λ (z : ℤ). net_in m a c +ℤ z) (sym (net_traded a c))))

    -- the second claim's sum, from the money that it starts from and with its holdings at the prices
    carried_on : ℕ → ℤ → ℤ → ℤ
    carried_on a z w =
        z +ℤ pos (paid_in a between (b ∷ bs)) -ℤ pos (paid_out a between (b ∷ bs)) +ℤ sold_for between a us -ℤ cost_of between a us +ℤ w

    each_joined : (before : List Command) → EndsSettled m cs before → (a : ℕ) → a < accounts_of m →
        balance_in m' a
        ≡ balance_in m a -ℤ loaded_worth m a +ℤ pos (paid_in a m cs) -ℤ pos (paid_out a m cs)
        +ℤ sold_for m a (trades_made m cs) -ℤ cost_of m a (trades_made m cs)
        +ℤ at_prices m (settled_at m before) (λ c. net_in m a c +ℤ net_holding a c (trades_made m cs))
    unfolding between cs ts us carried_on
    each_joined before f a l =
        let p = last_of as' b bs before Settle f.ends in
        let t : run m before ≡ run between p.rest = ap (run m) p.front ∙ run_append m as' p.rest in
        let g : EndsSettled between (b ∷ bs) p.rest = record {
          ends = p.back;
          accepted = ap (λ (k : Memory). is_accepted k Settle) (sym t) ∙ f.accepted;
        } in
        let start : ℤ = balance_in m a -ℤ loaded_worth m a in
        let w : ℤ = at_prices m (settled_at m before) (λ c. net_in m a c +ℤ net_holding a c (trades_made m cs)) in
        two.each p.rest g a (rw same_accounts l)
        ∙ ap (λ (k : Memory). carried_on a (balance_in between a -ℤ loaded_worth between a) (at_prices between (settlement_price (exchange_of k)) (λ c. net_in between a c +ℤ net_holding a c us))) (sym t)
        ∙ ap₂ (λ (y z : ℤ). carried_on a y z)
        (carried_money a l ∙ ap (λ (z : ℤ). start +ℤ (pos (paid_in a m as') -ℤ pos (paid_out a m as') +ℤ z)) (brought_is m a ts))
        (held_joined (settled_at m before) a l)
        ∙ balance_joined start (sold_for m a ts) (cost_of m a ts) (sold_for between a us) (cost_of between a us) w
        (paid_in a m as') (paid_out a m as') (paid_in a between (b ∷ bs)) (paid_out a between (b ∷ bs))
        ∙ ap₂ (λ (i o : ℕ). start +ℤ pos i -ℤ pos o +ℤ (sold_for m a ts +ℤ sold_for between a us) -ℤ (cost_of m a ts +ℤ cost_of between a us) +ℤ w)
        (sym (paid_in_append m as' (b ∷ bs) a)) (sym (paid_out_append m as' (b ∷ bs) a))
        ∙ ap₂ (λ (y z : ℤ). start +ℤ pos (paid_in a m cs) -ℤ pos (paid_out a m cs) +ℤ y -ℤ z +ℤ w) (sold_joined a) (cost_joined a)

    joined_more : Condition3 (loaded m) m (as' ++ (b ∷ bs)) m'
    unfolding cs
    joined_more = record { together = together_joined; each = each_joined; net = net_joined }

  -- THE CLAIMS OF TWO LISTS GIVE THAT OF THE LIST JOINED, of any memory that holds what the second list leaves
  pub joined : (bs : List Command) (m' : Memory) → exchange_of m' ≡ exchange_of (run (run m as') bs) → Condition3 (loaded m) m as' (run m as') →
      Condition3 (loaded (run m as')) (run m as') bs m' → Condition3 (loaded m) m (as' ++ bs) m'
  unfolding run
  joined [] m' e one two =
      rw (append-nil as')
      (record {
        together = ap (λ (x : Exchange). sum_to (accounts_of m) (balance_of x)) e ∙ one.together;
        each = λ before f a l. ap (λ (x : Exchange). balance_of x a) e ∙ one.each before f a l;
        net = λ a c l k. ap (λ (x : Exchange). net_of x a c) e ∙ one.net a c l k;
      })
  joined (b ∷ bs) m' e one two = joined_more b bs m' one two
