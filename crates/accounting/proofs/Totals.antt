-- AS MANY LOTS ARE LONG AS SHORT: in each contract all long lots together equal all short lots together after every list of commands, from
-- every state in which they did. Each trade has a buyer and a seller among the accounts, so the net holdings together are those of the
-- start of the day, and these no move changes. It rests on the two facts that Runs.antt rests on. Assumes nothing else.
use lib.IntN.{ℤ, pos, ◌+ℤ◌, ◌-ℤ◌, +ℤ_idr}
use Rattle.laws.specs.Logic.{true, List, ◌≡◌, refl, sym, ap, ◌∙◌}
use Rattle.laws.specs.Numbers.{ℕ, ◌<◌, arith, length}
use Rattle.laws.specs.Ring.{split, d_eq, ring}
use Rattle.laws.specs.Sums.{sum_to, sum_to_ext, sum_to_add}
use Rattle.laws.specs.Choice.{by_test}
use Rattle.rules.specs.Condition3.{run, accounts_of, contracts_of, holding_in, net_holding, TotalsEqual}
use Rattle.rules.specs.Exchange.{Exchange}
use Rattle.rules.specs.Kinds.{step}
use Rattle.rules.specs.Memory.{Memory, Declared, exchange_of, respond, well_formed_memory}
use Rattle.rules.specs.declared.Command.{Command}
use Rattle.accounting.specs.Books.{books_of, position, Level}
use Rattle.accounting.specs.Money.{net_at_start, net_now}
use Rattle.accounting.proofs.BooksLaws.{reached_level}
use Rattle.accounting.proofs.Condition3.{itself}
use Rattle.accounting.proofs.Runs.{Sound, formed_sound, run_stays, end_reached, end_shape, end_sound}
use Rattle.accounting.proofs.Trades.{sum_to_sub, zero_net}

-- ---- integers

no_more : (y : ℤ) → pos 0 +ℤ y ≡ y
no_more y = rw (split y) (simp ring (d_eq _ _ _ _ (omega arith)))

no_difference : (x y : ℤ) → x -ℤ y ≡ pos 0 → x ≡ y
no_difference x y e = (rw (split x, split y) (simp ring (d_eq _ _ _ _ (omega arith)))) ∙ ap (λ (z : ℤ). z +ℤ y) e ∙ no_more y

-- ---- one state

-- the net holdings of all accounts in a contract
abbrev net_of_all : Exchange → ℕ → ℤ
net_of_all x c = sum_to (length x.accounts) (λ a. net_now x a c)

-- are those of the start of the day
net_of_all_lem : (x : Exchange) → Sound x → (c : ℕ) → c < length x.listings → net_of_all x c ≡ sum_to (length x.accounts) (λ a. net_at_start x a c)
unfolding position books_of
net_of_all_lem x s c k =
    sum_to_ext (length x.accounts) _ (λ a. net_at_start x a c +ℤ net_holding a c x.trades) (λ a l. s.net a c l k)
    ∙ sum_to_add (length x.accounts) (λ a. net_at_start x a c) (λ a. net_holding a c x.trades)
    ∙ ap (λ (z : ℤ). sum_to (length x.accounts) (λ a. net_at_start x a c) +ℤ z) (zero_net (length x.accounts) c x.trades s.known) ∙ +ℤ_idr _

-- equal totals are net holdings that come to nothing
module _ (m : Memory) (c : ℕ) where
  nets_are : net_of_all (exchange_of m) c ≡ sum_to (accounts_of m) (λ a. pos (holding_in m a c).long) -ℤ sum_to (accounts_of m) (λ a. pos (holding_in m a c).short)
  unfolding net_now
  nets_are = sum_to_sub (accounts_of m) (λ a. pos (holding_in m a c).long) (λ a. pos (holding_in m a c).short)

  totals_nothing : TotalsEqual m c → net_of_all (exchange_of m) c ≡ pos 0
  totals_nothing e =
      nets_are ∙ ap (λ (z : ℤ). z -ℤ sum_to (accounts_of m) (λ a. pos (holding_in m a c).short)) e
      ∙ itself (sum_to (accounts_of m) (λ a. pos (holding_in m a c).short))

  nothing_totals : net_of_all (exchange_of m) c ≡ pos 0 → TotalsEqual m c
  nothing_totals e = no_difference _ _ (sym nets_are ∙ e)

-- ---- a run

module _
    (kept : (m : Memory) (c : Command) → well_formed_memory m ≡ true → well_formed_memory (respond m c).memory ≡ true)
    (read_back : (m : Memory) (c : Command) → well_formed_memory m ≡ true → exchange_of (respond m c).memory ≡ step (exchange_of m) c)
    (m : Memory) (d : Declared m.state) (cs : List Command) (equal : (c : ℕ) → c < contracts_of m → TotalsEqual m c) where
  module _ (s : Sound (exchange_of m)) where
    level_before : Level (accounts_of m) (contracts_of m) (books_of (exchange_of m))
    unfolding Level books_of
    level_before c k = sym (net_of_all_lem (exchange_of m) s c k) ∙ totals_nothing m c (equal c k)

    level_after : Level (accounts_of m) (contracts_of m) (books_of (exchange_of (run m cs)))
    level_after = reached_level (accounts_of m) (contracts_of m) (end_reached kept read_back (accounts_of m) (contracts_of m) m cs refl refl d s) level_before

    sound_totals : (c : ℕ) → c < contracts_of m → TotalsEqual (run m cs) c
    unfolding Level books_of
    sound_totals c k =
        let h = end_shape kept read_back m cs d in
        nothing_totals (run m cs) c
        (net_of_all_lem (exchange_of (run m cs)) (end_sound kept read_back m cs d s) c (rw h.listings k) ∙ rw h.accounts (level_after c k))

  -- IN EACH CONTRACT ALL LONG LOTS EQUAL ALL SHORT LOTS
  pub totals_stay : (c : ℕ) → c < contracts_of m → TotalsEqual (run m cs) c
  totals_stay c k = by_test (well_formed_memory m) (λ w. sound_totals (formed_sound m d w) c k) (λ w. rw (run_stays m w cs) (equal c k))
