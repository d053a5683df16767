-- Two well-formed memories that hold the same state in use, in other places or beside other words: every command gets the same answer
-- from both and leaves the same state in use, so a run's claim on one is its claim on the other. Assumes nothing.
use mathlib.Core.Bool.{true}
use mathlib.Core.List.{List, [], ◌∷◌}
use mathlib.Core.Path.{◌≡◌, refl, sym, subst, ap, ap₂, ◌∙◌}
use Prim.Native.Nat.{ℕ}
use lib.Dec.{eqb}
use lib.IntN.{ℤ, pos, ◌+ℤ◌, ◌-ℤ◌, ◌*ℤ◌}
use lib.ListN.{length}
use Rattle.laws.specs.Sums.{sum_of, sum_to}
use Rattle.rules.specs.Condition3.{run, is_accepted, move_of, moves_of, in_to, out_of, paid_in, paid_out, made, trades_made, sales, costs, net_holding, balance_in, net_in, loaded, loaded_worth, sold_for, cost_of, at_prices, EndsSettled, Condition3}
use Rattle.rules.specs.Exchange.{Exchange, account_at, holding_at, listing_at}
use Rattle.rules.specs.Kinds.{Move, decide, step}
use Rattle.rules.specs.Memory.{Memory, exchange_of, respond, step_in, well_formed_memory}
use Rattle.rules.specs.Settlement.{settlement_price}
use Rattle.rules.specs.declared.Answer.{Answer}
use Rattle.rules.specs.declared.Command.{Command}
use Rattle.rules.specs.declared.Command.TheVariants.{Settle}
use Rattle.invariants.proofs.MemoryKeeps.{memory_keeps, read_back}

pub record Same (m n : Memory) : Type 0 where
  pub formed : well_formed_memory m ≡ true
  pub formed' : well_formed_memory n ≡ true
  pub in_use : exchange_of m ≡ exchange_of n

answer_is : (m : Memory) (c : Command) → well_formed_memory m ≡ true → (respond m c).answer ≡ (decide (exchange_of m) c).answer
unfolding respond step_in
answer_is m c w = rw w

module _ {m n : Memory} (s : Same m n) where
  pub same_answer : (c : Command) → (respond m c).answer ≡ (respond n c).answer
  same_answer c =
      answer_is m c s.formed ∙ ap (λ (x : Exchange). (decide x c).answer) s.in_use ∙ sym (answer_is n c s.formed')

  same_step : (c : Command) → Same (respond m c).memory (respond n c).memory
  same_step c = record {
    formed = memory_keeps m c s.formed;
    formed' = memory_keeps n c s.formed';
    in_use = read_back m c s.formed ∙ ap (λ (x : Exchange). step x c) s.in_use ∙ sym (read_back n c s.formed');
  }

  same_accepted : (c : Command) → is_accepted m c ≡ is_accepted n c
  unfolding is_accepted
  same_accepted c = ap (λ (r : Answer). eqb r.code 0) (same_answer c)

  same_move : (c : Command) → move_of m c ≡ move_of n c
  unfolding move_of
  same_move c = rw (same_accepted c, s.in_use)

pub same_run : (m n : Memory) → Same m n → (cs : List Command) → Same (run m cs) (run n cs)
unfolding run
same_run m n s [] = s
same_run m n s (c ∷ cs) = same_run (respond m c).memory (respond n c).memory (same_step s c) cs

same_moves : (m n : Memory) → Same m n → (cs : List Command) → moves_of m cs ≡ moves_of n cs
unfolding moves_of
same_moves m n s [] = refl
same_moves m n s (c ∷ cs) =
    ap₂ (λ (v : Move) (vs : List Move). v ∷ vs) (same_move s c) (same_moves (respond m c).memory (respond n c).memory (same_step s c) cs)

-- ---- condition 3 looks at the state in use, at what the commands move and at the state that a settlement finds

module _ (m' : Memory) (x : Exchange) (vs : List Move) where
  abbrev accounts : ℕ
  accounts = length x.accounts

  abbrev balance_of : ℕ → ℤ
  balance_of a = (account_at x.accounts a).balance

  abbrev net_of : ℕ → ℕ → ℤ
  net_of a c = pos (holding_at x.accounts a c).long -ℤ pos (holding_at x.accounts a c).short

  abbrev Together : Type 0
  Together =
      sum_to accounts (balance_in m')
      ≡ (sum_to accounts balance_of +ℤ sum_to accounts (λ a. pos (sum_of (in_to a) vs))) -ℤ sum_to accounts (λ a. pos (sum_of (out_of a) vs))

  -- values by contract, times the multiplier
  abbrev in_all : (ℕ → ℤ) → ℤ
  in_all value = sum_to (length x.listings) (λ c. pos (listing_at x c).contract.multiplier *ℤ value c)

  abbrev Each : ℕ → Exchange → Type 0
  Each a found =
      balance_in m' a
      ≡ balance_of a -ℤ in_all (λ c. pos (listing_at x c).contract.reference *ℤ net_of a c) +ℤ pos (sum_of (in_to a) vs) -ℤ pos (sum_of (out_of a) vs)
      +ℤ in_all (λ c. pos (sales a c (made vs))) -ℤ in_all (λ c. pos (costs a c (made vs)))
      +ℤ in_all (λ c. pos (settlement_price found c) *ℤ (net_of a c +ℤ net_holding a c (made vs)))

  abbrev Net : ℕ → ℕ → Type 0
  Net a c = net_in m' a c ≡ net_of a c +ℤ net_holding a c (made vs)

module _ (m n : Memory) (s : Same m n) (cs : List Command) (m' : Memory) (claim : Condition3 (loaded m) m cs m') where
  -- what is said of one state in use and its moves is said of the other
  said : (P : Exchange → List Move → Type 0) → P (exchange_of m) (moves_of m cs) → P (exchange_of n) (moves_of n cs)
  said P p = subst (λ (x : Exchange). P x (moves_of n cs)) s.in_use (subst (P (exchange_of m)) (same_moves m n s cs) p)

  same_ends : (before : List Command) → EndsSettled n cs before → EndsSettled m cs before
  same_ends before e =
      record { ends = e.ends; accepted = same_accepted (same_run m n s before) Settle ∙ e.accepted }

  pub same_claim : Condition3 (loaded n) n cs m'
  unfolding paid_in paid_out trades_made loaded_worth sold_for cost_of at_prices
  same_claim = record {
    together = said (Together m') claim.together;
    each = λ before e a l.
        said (λ x vs. Each m' x vs a (exchange_of (run n before)))
        (subst (Each m' (exchange_of m) (moves_of m cs) a) (same_run m n s before).in_use
        (claim.each before (same_ends before e) a (rw s.in_use l)));
    net = λ a c l k. said (λ x vs. Net m' x vs a c) (claim.net a c (rw s.in_use l) (rw s.in_use k));
  }
