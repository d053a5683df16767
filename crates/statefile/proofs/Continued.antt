-- CONTINUE TOMORROW: a list of commands, the state that it leaves written, read again into another memory, and a second list there give
-- the answers and the state in use of both lists in one run; and condition 3 of each gives condition 3 of both. Assumes nothing.
use mathlib.Core.Bool.{true}
use mathlib.Core.List.{List, [], ◌∷◌, ◌++◌}
use mathlib.Core.Path.{◌≡◌, refl, sym, subst⁻¹, ap, ◌∙◌}
use Prim.Native.Nat.{ℕ, ◌≤◌, ◌<◌}
use native.Mathlib.Omega.{arith}
use lib.Dec.{eqb}
use lib.IntN.{ℤ, pos, ◌+ℤ◌}
use lib.ListN.{length, get_or}
use borrow.Author.Tests.{eq-eqb, eqb-true, le-ltb}
use Rattle.laws.specs.Choice.{all_at, all_of_true}
use Rattle.laws.specs.Sums.{sum_of, sum_to, sum_to_first}
use Rattle.rules.specs.Answers.{first_of}
use Rattle.rules.specs.Bounds.{max_accounts, max_contracts}
use Rattle.rules.specs.Condition3.{Condition3, Loaded, Opening, TotalsEqual, loaded, opened, run}
use Rattle.rules.specs.Exchange.{Exchange, account_at, holding_at, no_account, no_holding}
use Rattle.rules.specs.Memory.{Declared, Memory, exchange_of, has_room, respond, well_formed_memory}
use Rattle.rules.specs.WellFormed.{well_formed_contents}
use Rattle.rules.specs.declared.Command.{Command}
use Rattle.theory.proofs.InUse.{accounts_in_use, contracts_in_use}
use Rattle.theory.proofs.Terms.{within_test}
use Rattle.accounting.specs.Shape.{Shaped}
use Rattle.accounting.proofs.Condition3.{as_loaded, as_opened, opening_loaded}
use Rattle.accounting.proofs.Declared.{declared_shaped}
use Rattle.accounting.proofs.Runs.{end_declared, run_append}
use Rattle.invariants.proofs.Condition3.{claims_joined}
use Rattle.invariants.proofs.MemoryKeeps.{memory_keeps, run_keeps}
use Rattle.invariants.proofs.MemoryKeeps.{read_back as memory-read}
use Rattle.invariants.proofs.MemoryRoom.{memory_ok}
use Rattle.invariants.proofs.SameInUse.{Same, same_answer, same_claim, same_run}
use Rattle.statefile.specs.StateFile.{all_equal, loaded_from, loaded_into, read_code, saved_bytes, totals_equal, writable, write_code}
use Rattle.statefile.proofs.Loaded.{Loadable, loaded_formed, loaded_in_use}
use Rattle.statefile.proofs.Reading.{read_back, sound_back}
use Rattle.statefile.proofs.Savable.{Savable, writable_parts}

-- ---- a writable state is a loaded one: no trades, and equal totals

total_is : {A : Type 0} (f : A → ℕ) (l : List A) (d : A) → sum_to (length l) (λ i. pos (f (get_or l i d))) ≡ pos (sum_of f l)
unfolding sum_to sum_of
total_is f [] d = refl
total_is f (x ∷ l) d =
    sum_to_first (length l) (λ i. pos (f (get_or (x ∷ l) i d))) ∙ ap (λ (z : ℤ). pos (f x) +ℤ z) (total_is f l d)

module _ (m : Memory) (ready : writable (exchange_of m) ≡ true) where
  totals_equal_lem : (c : ℕ) → c < length (exchange_of m).listings → TotalsEqual m c
  unfolding all_equal totals_equal holding_at account_at
  totals_equal_lem c l =
      let accounts = (exchange_of m).accounts in
      let e = eqb-true (sum_of (λ a. (get_or a.holdings c no_holding).long) accounts) (sum_of (λ a. (get_or a.holdings c no_holding).short) accounts)
      (all_at (totals_equal accounts) c (length (exchange_of m).listings) (writable_parts (exchange_of m) ready).equal_all_lem l) in
      total_is (λ a. (get_or a.holdings c no_holding).long) accounts no_account
      ∙ ap pos e
      ∙ sym (total_is (λ a. (get_or a.holdings c no_holding).short) accounts no_account)

  pub writable_loaded : Loaded m
  writable_loaded = record { no_trades = (writable_parts (exchange_of m) ready).no_trades; totals = totals_equal_lem }

-- ---- a well-formed memory whose state is writable

module _ (m : Memory) (d : Declared m.state) (w : well_formed_memory m ≡ true) (ready : writable (exchange_of m) ≡ true) where
  account_count : length (exchange_of m).accounts ≡ m.state.accountcount
  account_count = accounts_in_use m (omega (arith, d.accounts, (memory_ok m w).counts.accounts_high))

  pub savable : Savable (exchange_of m)
  unfolding Shaped account_at
  savable =
      let ok = memory_ok m w in
      record {
        contracts = rw (contracts_in_use m) (within_test 1 max_contracts m.state.contractcount ok.counts.contracts_low ok.counts.contracts_high);
        accounts = rw account_count (within_test 1 max_accounts m.state.accountcount ok.counts.accounts_low ok.counts.accounts_high);
        places = all_of_true (λ a. eqb (length a.holdings) (length (exchange_of m).listings)) (exchange_of m).accounts no_account
            (λ i l. eq-eqb _ _ (declared_shaped m d w i l));
        formed = ok.contents;
        ready = ready;
      }

  -- it is written where there is room
  pub writes : (room : ℕ) → length (saved_bytes (exchange_of m)) ≤ room → write_code m room ≡ 0
  unfolding write_code first_of
  writes room h = rw (w, ready, le-ltb room (length (saved_bytes (exchange_of m))) h)

pub loadable : (x : Exchange) → Savable x → Loadable x
loadable x s =
    let p = writable_parts x s.ready in
    record { contracts = s.contracts; accounts = s.accounts; places = s.places; empty_all = p.empty_all; no_trades = p.no_trades }

-- ---- and read again

module _ (m : Memory) (d : Declared m.state) (w : well_formed_memory m ≡ true) (ready : writable (exchange_of m) ≡ true)
    (n : Memory) (e : Declared n.state) (room : has_room (loaded_into n (saved_bytes (exchange_of m))) ≡ true) where
  abbrev file : List ℕ
  file = saved_bytes (exchange_of m)

  its : Savable (exchange_of m)
  its = savable m d w ready

  back : loaded_from file ≡ exchange_of m
  back = read_back (exchange_of m) its

  its_loadable : Loadable (loaded_from file)
  its_loadable = subst⁻¹ Loadable back (loadable (exchange_of m) its)

  -- without a refusal
  pub reads : read_code n file ≡ 0
  unfolding read_code first_of
  reads =
      rw (sound_back (exchange_of m) its, ap all_equal back ∙ (writable_parts (exchange_of m) ready).equal_all_lem, room)

  -- "Reading back what was written gives the same state in every place in use", and it is well formed
  pub same_in_use : Same (loaded_into n file) m
  same_in_use = record {
    formed = loaded_formed n e (loaded_from file) its_loadable room (ap well_formed_contents back ∙ its.formed);
    formed' = w;
    in_use = loaded_in_use n e (loaded_from file) its_loadable ∙ back;
  }

-- ---- a list, and another the day after

module _ (m : Memory) (d : Declared m.state) (w : well_formed_memory m ≡ true) (as' : List Command)
    (ready : writable (exchange_of (run m as')) ≡ true) (n : Memory) (e : Declared n.state)
    (room : has_room (loaded_into n (saved_bytes (exchange_of (run m as')))) ≡ true) where
  -- the memory into which the first list's state was read
  abbrev pub next : Memory
  next = loaded_into n (saved_bytes (exchange_of (run m as')))

  begun : Same next (run m as')
  begun = same_in_use (run m as') (end_declared memory_keeps memory-read m as' d) (run_keeps m as' w) ready n e room

  -- its run of the second list holds what the run of both holds
  pub same_left : (bs : List Command) → Same (run next bs) (run m (as' ++ bs))
  same_left bs = subst⁻¹ (Same (run next bs)) (run_append m as' bs) (same_run next (run m as') begun bs)

  -- each further command gets the same answer
  pub same_answers : (bs : List Command) (c : Command) → (respond (run next bs) c).answer ≡ (respond (run m (as' ++ bs)) c).answer
  same_answers bs c = same_answer (same_left bs) c

  -- THE CLAIMS FOR BOTH DAYS GIVE THE CLAIM FOR THE WHOLE, from the first day's start to what the second day leaves
  pub claims_continue : Loaded m → (bs : List Command) → Condition3 (loaded m) m as' (run m as') →
      Condition3 (loaded next) next bs (run next bs) → Condition3 (loaded m) m (as' ++ bs) (run next bs)
  claims_continue o bs one two =
      claims_joined m d w o as' bs (writable_loaded (run m as') ready) (run next bs) (same_run next (run m as') begun bs).in_use one
      (same_claim next (run m as') begun bs (run next bs) two)

  -- and so from a first day that opens without holdings
  pub opened_continue : Opening m → (bs : List Command) → Condition3 (opened m) m as' (run m as') →
      Condition3 (loaded next) next bs (run next bs) → Condition3 (opened m) m (as' ++ bs) (run next bs)
  opened_continue o bs one two =
      as_opened m o (as' ++ bs) (run next bs) (claims_continue (opening_loaded m o) bs (as_loaded m o as' (run m as') one) two)
