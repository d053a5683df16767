-- WHAT COMMANDS MAY TOUCH, of the memory that a call leaves and of a run: the theorems in the words of specs/RunTouches.antt. Assumes nothing.
use Rattle.laws.specs.Logic.{Bool, true, false, not, ◌&&◌, true≢false, false≢true, List, [], ◌∷◌, ◌++◌, append_assoc, ◌≡◌, refl, sym, ap, subst⁻¹, ◌∙◌}
use Rattle.laws.specs.Numbers.{ℕ, eq-eqb, ne_eqb, not-true, get_or, set, List·getD-map}
use Rattle.laws.specs.Choice.{all_of, both_true, true_both, by_test}
use Rattle.laws.specs.Lists.{map_set}
use Rattle.rules.specs.Command.{account_field, contract_field, is_payment, is_settle}
use Rattle.rules.specs.Condition3.{is_accepted, run}
use Rattle.rules.specs.Exchange.{Exchange, account_at, holding_at, no_account, no_holding}
use Rattle.rules.specs.Holdings.{after_leg, book_buyer, book_leg, book_trade, book_trades}
use Rattle.rules.specs.Kinds.{code_of, step}
use Rattle.rules.specs.Memory.{Memory, exchange_of, respond, well_formed_memory}
use Rattle.rules.specs.Touches.{BalanceStays, ContractStays, HeldByTrades, holdings_of, names}
use Rattle.rules.specs.declared.{Account.Account, Command.Command, Holding.Holding, Trade.Trade}
use Rattle.theory.proofs.Holdings.{book_trades_append}
use Rattle.theory.proofs.Touches.{blank_is_refused, held_same, money_stays, other_contract_stays}
use Rattle.accounting.proofs.Runs.{accepted_is, never_accepted, run_stays}
use Rattle.invariants.proofs.Clauses.{Sound}
use Rattle.invariants.proofs.EachKind.{step_fated, step_lives}
use Rattle.invariants.proofs.ForLife.{more_life, same_life}
use Rattle.invariants.proofs.GivenNumbers.{given_once}
use Rattle.invariants.proofs.MemoryKeeps.{memory_keeps, read_back, run_keeps, sound}
use Rattle.invariants.proofs.OthersOrders.{Fated, more_fated, same_fated}
use Rattle.invariants.proofs.RestingOrders.{orders_stay}
use Rattle.invariants.proofs.RoomBeyond.{refusal_changes_nothing}
use Rattle.invariants.specs.GivenNumbers.{NumbersForLife}
use Rattle.invariants.specs.RunTouches.{BlankLeavesMemory, RefusedLeavesMemory, RunTouches, within_day}

-- ---- 1. refused

module _ (m : Memory) (c : Command) where
  refused_memory : is_accepted m c ≡ false → (respond m c).memory ≡ m
  unfolding is_accepted
  refused_memory r = ap (λ a. a.memory) (refusal_changes_nothing m c (λ e. true≢false (sym (eq-eqb (respond m c).answer.code 0 e) ∙ r)))

  pub refused_leaves_memory : RefusedLeavesMemory m c
  unfolding run
  refused_leaves_memory = search refused_memory depth 12

  -- ---- 2. blank

  pub blank_leaves_memory : BlankLeavesMemory m c
  blank_leaves_memory =
      record {
        contract = λ b. refuses (λ e. ((blank_is_refused (exchange_of m) c).contract b).refused e);
        account = λ b. refuses (λ e. ((blank_is_refused (exchange_of m) c).account b).refused e);
      }
    where
      refuses : (code_of (exchange_of m) c ≡ 0 → ⊥) → is_accepted m c ≡ false
      refuses r = by_test (well_formed_memory m) (λ w. accepted_is m c w ∙ ne_eqb (code_of (exchange_of m) c) 0 r) (λ w. never_accepted m c w)

-- ---- a relation that holds from each well-formed state to the next, of commands that pass a test, holds from the start of a run to its end

module _ (R : Exchange → Exchange → Type 0) (same : (x : Exchange) → R x x) (more : (x y z : Exchange) → R x y → R y z → R x z)
    (test : Command → Bool) (holds : (x : Exchange) (c : Command) → Sound x → test c ≡ true → R x (step x c)) where
  formed_run : (m : Memory) → well_formed_memory m ≡ true → (cs : List Command) → all_of test cs ≡ true → R (exchange_of m) (exchange_of (run m cs))
  unfolding run all_of
  formed_run m w [] h = same (exchange_of m)
  formed_run m w (c ∷ cs) h =
      let p = both_true (test c) (all_of test cs) h in
      more (exchange_of m) (exchange_of (respond m c).memory) (exchange_of (run (respond m c).memory cs)) (subst⁻¹ (R (exchange_of m)) (read_back m c w) (holds (exchange_of m) c (sound m w) p.0)) (formed_run (respond m c).memory (memory_keeps m c w) cs p.1)

  pub over_a_run : (m : Memory) (cs : List Command) → all_of test cs ≡ true → R (exchange_of m) (exchange_of (run m cs))
  over_a_run m cs h = by_test (well_formed_memory m) (λ w. formed_run m w cs h) (λ w. rw (run_stays m w cs) (same (exchange_of m)))

-- of two tests that all commands of a list pass
both_tests : (p q : Command → Bool) (cs : List Command) → all_of p cs ≡ true → all_of q cs ≡ true → all_of (λ c. p c && q c) cs ≡ true
unfolding all_of
both_tests p q [] h k = refl
both_tests p q (c ∷ cs) h k =
    let a = both_true (p c) (all_of p cs) h in
    let b = both_true (q c) (all_of q cs) k in
    true_both (p c && q c) (all_of (λ d. p d && q d) cs) (true_both (p c) (q c) a.0 b.0) (both_tests p q cs a.1 b.1)

-- ---- trades booked over a run

-- what trades do to holdings goes by the holdings alone
leg_holdings : (l : List Account) (a c : ℕ) (sell : Bool) (close lots : ℕ) → holdings_of (book_leg l a c sell close lots)
    ≡ set (holdings_of l) a (set (get_or (holdings_of l) a []) c (after_leg (get_or (get_or (holdings_of l) a []) c no_holding) sell close lots))
unfolding book_leg holding_at account_at
leg_holdings l a c sell close lots =
    map_set (λ (k : Account). k.holdings) l a _
    ∙ ap (λ (hs : List Holding). set (holdings_of l) a (set hs c (after_leg (get_or hs c no_holding) sell close lots)))
    (sym (List·getD-map (λ (k : Account). k.holdings) l a no_account))

leg_by_holdings : (l k : List Account) (a c : ℕ) (sell : Bool) (close lots : ℕ) → holdings_of l ≡ holdings_of k →
    holdings_of (book_leg l a c sell close lots) ≡ holdings_of (book_leg k a c sell close lots)
leg_by_holdings l k a c sell close lots e =
    leg_holdings l a c sell close lots
    ∙ ap (λ (hs : List (List Holding)). set hs a (set (get_or hs a []) c (after_leg (get_or (get_or hs a []) c no_holding) sell close lots))) e
    ∙ sym (leg_holdings k a c sell close lots)

booked_by_holdings : (l k : List Account) (ts : List Trade) → holdings_of l ≡ holdings_of k → holdings_of (book_trades l ts) ≡ holdings_of (book_trades k ts)
unfolding book_trades book_trade
booked_by_holdings l k [] e = e
booked_by_holdings l k (t ∷ ts) e =
    booked_by_holdings (book_trade l t) (book_trade k t) ts
    (leg_by_holdings (book_buyer l t) (book_buyer k t) t.seller t.contract true t.sellclose t.lots
    (leg_by_holdings l k t.buyer t.contract false t.buyclose t.lots e))

held_more : (x y z : Exchange) → HeldByTrades x y → HeldByTrades y z → HeldByTrades x z
held_more x y z f g =
    record {
      made = f.made ++ g.made;
      recorded = g.recorded ∙ rw f.recorded (append_assoc x.trades f.made g.made);
      held = g.held ∙ booked_by_holdings y.accounts (book_trades x.accounts f.made) g.made f.held
          ∙ ap holdings_of (sym (book_trades_append x.accounts f.made g.made));
    }

-- ---- the theorem

contract_more : (c : ℕ) (x y z : Exchange) → ContractStays c x y → ContractStays c y z → ContractStays c x z
contract_more c x y z f g = record { listing = g.listing ∙ f.listing; held = λ a. g.held a ∙ f.held a }

-- an account that a command is no payment of
unpaid : (x : Exchange) (c : Command) → is_settle c ≡ false → (a : ℕ) → not (is_payment c && names (account_field c) a) ≡ true → BalanceStays a x (step x c)
unpaid x c n a h = by_payment (is_payment c) refl (names (account_field c) a) refl
  where
    by_payment : (p : Bool) → is_payment c ≡ p → (b : Bool) → names (account_field c) a ≡ b → BalanceStays a x (step x c)
    by_payment true p true b = absurd (false≢true (rw (p, b) at h))
    by_payment true p false b = (money_stays x c n).others a b
    by_payment false p b e = (money_stays x c n).orders p a

module _ (m : Memory) (cs : List Command) (day : within_day cs ≡ true) where
  abbrev within : (Command → Bool) → Command → Bool
  within test c = not (is_settle c) && not (test c)

  no_settle : (test : Command → Bool) (c : Command) → within test c ≡ true → (is_settle c ≡ false) × (not (test c) ≡ true)
  no_settle test c h = let p = both_true (not (is_settle c)) (not (test c)) h in (not-true (is_settle c) p.0, p.1)

  pub run_touches : RunTouches m cs (run m cs)
  run_touches =
      record {
        contracts = λ c h.
            over_a_run (ContractStays c) (λ x. record { listing = refl; held = λ a. refl }) (contract_more c) (within (λ k. names (contract_field k) c))
            (λ x k s e. let p = no_settle (λ k. names (contract_field k) c) k e in other_contract_stays x c k p.0 (not-true (names (contract_field k) c) p.1))
            m cs (both_tests (λ k. not (is_settle k)) (λ k. not (names (contract_field k) c)) cs day h);
        orders = λ w a h.
            orders_stay a (exchange_of m) (exchange_of (run m cs)) (sound m w).contents (sound (run m cs) (run_keeps m cs w)).contents
            (over_a_run (Fated a) (same_fated a) (more_fated a) (within (λ k. names (account_field k) a))
            (λ x k s e. let p = no_settle (λ k. names (account_field k) a) k e in step_fated x s.contents a k p.0 (not-true (names (account_field k) a) p.1))
            m cs (both_tests (λ k. not (is_settle k)) (λ k. not (names (account_field k) a)) cs day h));
        balances = λ a h.
            over_a_run (BalanceStays a) (λ x. refl) (λ x y z f g. g ∙ f) (within (λ k. is_payment k && names (account_field k) a))
            (λ x k s e. let p = no_settle (λ k. is_payment k && names (account_field k) a) k e in unpaid x k p.0 a p.1)
            m cs (both_tests (λ k. not (is_settle k)) (λ k. not (is_payment k && names (account_field k) a)) cs day h);
        holdings =
            over_a_run HeldByTrades held_same held_more (λ k. not (is_settle k)) (λ x k s e. (money_stays x k (not-true (is_settle k) e)).holdings) m cs day;
        given = given_once m cs day;
        life = over_a_run NumbersForLife same_life more_life (λ k. not (is_settle k)) (λ x k s e. step_lives x s.contents k (not-true (is_settle k) e)) m cs day;
      }

  -- of the memory that a call leaves, where it is that of the run
  pub touches_left : (m' : Memory) → m' ≡ run m cs → RunTouches m cs m'
  touches_left m' e = subst⁻¹ (RunTouches m cs) e run_touches

-- of one command, where the memory left is what the rules respond with
pub call_touches : (m : Memory) (c : Command) → is_settle c ≡ false → (m' : Memory) → m' ≡ (respond m c).memory → RunTouches m (c ∷ []) m'
unfolding run all_of
call_touches m c n m' e = touches_left m (c ∷ []) (rw n refl) m' e
