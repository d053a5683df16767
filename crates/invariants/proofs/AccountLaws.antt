-- WHAT AN ACCOUNT MAY RELY ON: the theorems of specs/Accounts, of one command by the rules, and of the memory that a call or a run of
-- commands leaves. Assumes nothing.
use Rattle.laws.specs.Logic.{Bool, true, false, not, false≢true, List, [], ◌∷◌, ◌≡◌, refl, sym, ap, subst, subst⁻¹, ◌∙◌}
use Rattle.laws.specs.Numbers.{ℕ, ◌+◌, ◌<◌, arith, eqb-true, not-true, eqb, ◌≤◌}
use Rattle.laws.specs.Choice.{pick, all_of, both_true, for_either}
use Rattle.rules.specs.Command.{Field, unused, holds, account_field, is_settle}
use Rattle.rules.specs.Condition3.{accounts_of, contracts_of, run, holding_in}
use Rattle.rules.specs.Exchange.{Exchange, place_of, resting_closes, own, listing_at}
use Rattle.rules.specs.Answers.{first_of}
use Rattle.rules.specs.Kinds.{code_of, decide, done, kind_of, last_of, refused, step}
use Rattle.rules.specs.Memory.{Memory, Declared, exchange_of, respond, step_in, well_formed_memory}
use Rattle.rules.specs.Touches.{names}
use Rattle.rules.specs.declared.Command.{Command}
use Rattle.theory.proofs.Stages.{decided}
use Rattle.accounting.specs.Shape.{Shaped}
use Rattle.accounting.proofs.Condition3.{opening_loaded}
use Rattle.accounting.proofs.Declared.{declared_kept, declared_shaped}
use Rattle.accounting.proofs.Runs.{end_shape}
use Rattle.accounting.proofs.Totals.{totals_stay}
use Rattle.invariants.specs.Accounts.{AlikeBut, BalancesPrivate, LongIsShort, MarginWithinBalance, RestingAllowed, WithinBalance, is_from, state_seen}
use Rattle.invariants.specs.Throughout.{Throughout}
use Rattle.invariants.proofs.Clauses.{Sound}
use Rattle.invariants.proofs.EachKind.{Opened, kind_opened, kind_within, left_by, same_seen}
use Rattle.invariants.proofs.MarginWithin.{withdrawal_within}
use Rattle.invariants.proofs.MemoryKeeps.{memory_keeps, read_back, run_keeps, sound}
use Rattle.invariants.proofs.SeenBalances.{state_twice}
use Rattle.invariants.proofs.Throughout.{of_call}

-- ---- 14. IN EACH CONTRACT ALL LONG LOTS EQUAL ALL SHORT LOTS

pub long_is_short : (m : Memory) → Declared m.state → (cs : List Command) → LongIsShort m (run m cs)
long_is_short m d cs = record {
  equal = totals_stay memory_keeps read_back m d cs;
  from_opening = λ o. totals_stay memory_keeps read_back m d cs (opening_loaded m o).totals;
  from_loaded = λ o. totals_stay memory_keeps read_back m d cs o.totals;
}

-- of the memory that is left, where it is that of the run
pub long_is_short_left : (m : Memory) → Declared m.state → (cs : List Command) (m' : Memory) → m' ≡ run m cs → LongIsShort m m'
long_is_short_left m d cs m' e = subst⁻¹ (LongIsShort m) e (long_is_short m d cs)

-- RESTING ORDERS NEVER HOLD MORE THAN LIMITS AND HOLDINGS ALLOW, in a well-formed memory
resting_now : (m : Memory) → well_formed_memory m ≡ true → RestingAllowed (accounts_of m) (contracts_of m) m
resting_now m w =
    let k = (sound m w).contents in
    record {
      opens = λ a c l h sell. (k.holding a c l h).opens sell;
      closes = λ a c l h sell. for_either (λ s. resting_closes a (own s (listing_at (exchange_of m) c)) ≤ pick s (holding_in m a c).long (holding_in m a c).short) ((k.holding a c l h).closes false) ((k.holding a c l h).closes true) sell;
    }

-- .. and so in every memory that a run from one leaves
pub resting_allowed : (m : Memory) → well_formed_memory m ≡ true → (cs : List Command) → RestingAllowed (accounts_of (run m cs)) (contracts_of (run m cs)) (run m cs)
resting_allowed m w cs = resting_now (run m cs) (run_keeps m cs w)

-- ---- 15. ALL CHARGED MARGIN IS WITHIN THE BALANCE

module _ (x : Exchange) (k : Sound x) (shaped : Shaped x) where
  pub margin_within_balance : (command : Command) → MarginWithinBalance x command (step x command)
  unfolding step code_of kind_of
  margin_within_balance command = record {
    opened = λ o e a n. accepted e a (named (account_field command) (kind_opened x k shaped command e o) a n);
    withdrawn = λ account amount q e. accepted e (place_of account) (rw q (withdrawal_within x account amount (rw q at e)));
    stays = λ n a l w. decided (λ d. WithinBalance (last_of x d.stages) a) x command (λ e. kind_within x k shaped command e n a l w) (λ e. w);
  }
    where
      named : (f : Field) → Opened x k shaped command f → (a : ℕ) → names f a ≡ true → WithinBalance (left_by x command) a
      named unused w a n = absurd (false≢true n)
      named (holds account) w a n =
          let e : place_of account ≡ a = omega (arith, eqb-true account (a + 1) n) in
          subst (WithinBalance (left_by x command)) e w

      accepted : code_of x command ≡ 0 → (a : ℕ) → WithinBalance (left_by x command) a → WithinBalance (step x command) a
      accepted e a w = unfold step in decided (λ d. WithinBalance (last_of x d.stages) a) x command (λ q. w) (λ q. absurd (q e))

-- .. and so of the memory that a call leaves, where it is the rules'
pub margin_left : (m : Memory) → Declared m.state → well_formed_memory m ≡ true → (c : Command) (m' : Memory) → m' ≡ (respond m c).memory →
    MarginWithinBalance (exchange_of m) c (exchange_of m')
margin_left m d w c m' e =
    of_call (λ x command y. Shaped x → MarginWithinBalance x command y) (λ x command k h. margin_within_balance x k h command) m w c m' e (declared_shaped m d w)

-- .. and of each command of a run
pub margin_throughout : (m : Memory) → Declared m.state → well_formed_memory m ≡ true → (cs : List Command) → Throughout MarginWithinBalance m cs
margin_throughout m d w [] = tt
margin_throughout m d w (c ∷ cs) =
    (margin_left m d w c (respond m c).memory refl, margin_throughout (respond m c).memory (declared_kept m c d) (memory_keeps m c w) cs)

-- ONCE WITHIN ITS BALANCE AN ACCOUNT STAYS SO UNTIL A SETTLEMENT, whatever the commands are
pub within_until_settlement : (m : Memory) → Declared m.state → well_formed_memory m ≡ true → (cs : List Command) → all_of (λ c. not (is_settle c)) cs ≡ true →
    (a : ℕ) → a < accounts_of m → WithinBalance (exchange_of m) a → WithinBalance (exchange_of (run m cs)) a
unfolding run all_of
within_until_settlement m d w [] n a l h = h
within_until_settlement m d w (c ∷ cs) n a l h =
    let p = both_true (not (is_settle c)) (all_of (λ c. not (is_settle c)) cs) n in
    within_until_settlement (respond m c).memory (declared_kept m c d) (memory_keeps m c w) cs p.1 a (rw (one_more) l)
    ((margin_left m d w c (respond m c).memory refl).stays (not-true (is_settle c) p.0) a l h)
  where
    one_more : accounts_of (respond m c).memory ≡ accounts_of m
    one_more = unfold run in (end_shape memory_keeps read_back m (c ∷ []) d).accounts

-- ---- 16. BALANCES ARE PRIVATE

module _ (seen : ℕ → Bool) where
  -- A COMMAND ANSWERS THE SAME where balances not its own account's are blotted out, AND LEAVES THE SAME, those aside
  module _ (x : Exchange) (command : Command) (e : is_from seen (account_field command) ≡ true) where
    abbrev Decided : Bool → ℕ → Type 0
    Decided accepted code =
        ((pick accepted (done (kind_of (state_seen seen x) command).effect) (refused code)).answer ≡ (pick accepted (done (kind_of x command).effect) (refused code)).answer)
        × (state_seen seen (last_of (state_seen seen x) (pick accepted (done (kind_of (state_seen seen x) command).effect) (refused code)).stages)
        ≡ state_seen seen (last_of x (pick accepted (done (kind_of x command).effect) (refused code)).stages))

    decided_seen : ((decide (state_seen seen x) command).answer ≡ (decide x command).answer) × (state_seen seen (step (state_seen seen x) command) ≡ state_seen seen (step x command))
    unfolding step decide code_of
    decided_seen =
        rw (same_seen seen x command e).refusals (by_acceptance (eqb (first_of (kind_of x command).refusals) 0) (first_of (kind_of x command).refusals))
      where
        by_acceptance : (accepted : Bool) (code : ℕ) → Decided accepted code
        by_acceptance true code = ((same_seen seen x command e).answer, (same_seen seen x command e).left)
        by_acceptance false code = (refl, state_twice seen x)

  -- so it is in two states that differ in such balances alone
  decided_alike : (x y : Exchange) → AlikeBut seen x y → (command : Command) → is_from seen (account_field command) ≡ true →
      ((decide x command).answer ≡ (decide y command).answer) × AlikeBut seen (step x command) (step y command)
  decided_alike x y alike command e =
      let p = decided_seen x command e in
      let q = decided_seen y command e in (
        sym p.0 ∙ ap (λ (z : Exchange). (decide z command).answer) alike ∙ q.0,
        sym p.1 ∙ ap (λ (z : Exchange). state_seen seen (step z command)) alike ∙ q.1,
      )

  pub balances_private : (m n : Memory) → well_formed_memory m ≡ true → well_formed_memory n ≡ true → AlikeBut seen (exchange_of m) (exchange_of n) →
      (command : Command) → is_from seen (account_field command) ≡ true → BalancesPrivate seen m n command
  balances_private m n w v alike command e = record {
    answer = sym (answered m w) ∙ p.0 ∙ answered n v;
    after = ap (state_seen seen) (read_back m command w) ∙ p.1 ∙ sym (ap (state_seen seen) (read_back n command v));
  }
    where
      p : ((decide (exchange_of m) command).answer ≡ (decide (exchange_of n) command).answer) × AlikeBut seen (step (exchange_of m) command) (step (exchange_of n) command)
      p = decided_alike (exchange_of m) (exchange_of n) alike command e

      answered : (k : Memory) → well_formed_memory k ≡ true → (decide (exchange_of k) command).answer ≡ (respond k command).answer
      answered k w = unfold respond step_in in (rw w refl)

  -- .. throughout a list of such commands: whatever came before, the next one gets the same answer
  pub private_throughout : (m n : Memory) → well_formed_memory m ≡ true → well_formed_memory n ≡ true → AlikeBut seen (exchange_of m) (exchange_of n) →
      (before : List Command) → all_of (λ c. is_from seen (account_field c)) before ≡ true → (command : Command) → is_from seen (account_field command) ≡ true →
      BalancesPrivate seen (run m before) (run n before) command
  unfolding run all_of
  private_throughout m n w v alike [] all command e = balances_private m n w v alike command e
  private_throughout m n w v alike (c ∷ cs) all command e =
      let p = both_true (is_from seen (account_field c)) (all_of (λ c. is_from seen (account_field c)) cs) all in
      private_throughout (respond m c).memory (respond n c).memory (memory_keeps m c w) (memory_keeps n c v)
      (balances_private m n w v alike c p.0).after cs p.1 command e
