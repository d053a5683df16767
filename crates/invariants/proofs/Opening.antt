-- The state in which a sound day file opens is well formed, so that no command of the file can meet code 21. Assumes nothing.
use lib.IntN.{pos}
use Rattle.laws.specs.Logic.{Bool, true, false, List, [], ◌∷◌, map, ◌≡◌, refl, ap}
use Rattle.laws.specs.Numbers.{ℕ, zero, suc, ◌<◌, ◌≤◌, arith, leb-true, le-leb, eqb, leb, length, replicate}
use Rattle.laws.specs.Choice.{pick, all, all_at, both_true}
use Rattle.laws.specs.Chains.{all_passed, join}
use Rattle.laws.specs.Lists.{get_d_same}
use Rattle.rules.specs.Bounds.{within, pre_open, max_phase, phase_known, terms_in_range, tick_multiple, max_contracts, max_accounts, max_balance}
use Rattle.rules.specs.DayFile.{max_commands, contracts_in, contract_place, accounts_in, account_place, commands_in, command_place, contract_from, contract_sound, balance_from, maker_bit, maker_from, account_sound, sound, opening_listing, opening_account, opening, u64_at}
use Rattle.rules.specs.Exchange.{no_holding}
use Rattle.rules.specs.Holdings.{start_holding, start_account}
use Rattle.rules.specs.WellFormed.{contract_in_range, well_formed_contents}
use Rattle.rules.specs.declared.Holding.{Holding}
use Rattle.theory.proofs.Terms.{terms, multiple_test}
use Rattle.invariants.proofs.Clauses.{Sound, well_formed_test}
use Rattle.invariants.proofs.FreshDay.{fresh_day_lem, fresh_counted}

none_start : (n : ℕ) → map start_holding (replicate n no_holding) ≡ replicate n no_holding
none_start zero = refl
none_start (suc n) = rw (none_start n)

module _ (file : List ℕ) (h : sound file ≡ true) where
  abbrev file_tests : List Bool
  file_tests =
      within 1 max_accounts (accounts_in file)
      ∷ leb (commands_in file) max_commands
      ∷ eqb (length file) (command_place file (commands_in file))
      ∷ all (contract_sound file) (contracts_in file)
      ∷ all (account_sound file) (accounts_in file)
      ∷ []

  few_contracts : contracts_in file ≤ max_contracts
  unfolding sound
  few_contracts =
      leb-true _ _ (both_true (leb 1 (contracts_in file)) (leb (contracts_in file) max_contracts)
      (all_passed (within 1 max_contracts (contracts_in file)) file_tests h).0).1

  -- the last price starts as the reference
  in_range_lem : (c : ℕ) → c < contracts_in file → contract_in_range (contract_from file (contract_place c)) ≡ true
  unfolding sound contract_sound contract_in_range contract_from
  in_range_lem c l =
      let t = all_at (contract_sound file) c (contracts_in file) (all_passed (within 1 max_contracts (contracts_in file)) file_tests h).1.1.1.1.0 l in
      join (terms_in_range (contract_from file (contract_place c)))
      (phase_known pre_open ∷ tick_multiple (contract_from file (contract_place c)).tick (contract_from file (contract_place c)).reference ∷ [])
      (t, (le-leb pre_open max_phase (omega arith), multiple_test _ _ (terms (contract_from file (contract_place c)) t).reference))

  start : (a : ℕ) → start_account (opening_account file a) ≡ opening_account file a
  unfolding opening_account
  start a = ap (λ (hs : List Holding). record { balance = pos (balance_from file a); maker = maker_from file a; holdings = hs }) (none_start (contracts_in file))

  balance_low : (a : ℕ) → a < accounts_in file → balance_from file a ≤ max_balance
  unfolding sound account_sound
  balance_low a l =
      leb-true _ _ (all_at (account_sound file) a (accounts_in file) (all_passed (within 1 max_contracts (contracts_in file)) file_tests h).1.1.1.1.1 l)

  mark_low : (a : ℕ) → (opening_account file a).maker ≤ 1
  unfolding opening_account maker_from
  mark_low a = by_maker (leb maker_bit (u64_at file (account_place file a)))
    where
      by_maker : (maker : Bool) → pick maker 1 0 ≤ 1
      by_maker true = omega arith
      by_maker false = omega arith

  pub opening_sound : Sound (opening file)
  unfolding opening opening_listing opening_account
  opening_sound =
      record {
        contents =
            fresh_day_lem (contracts_in file) (λ c. contract_from file (contract_place c)) (accounts_in file) (opening_account file) 0 in_range_lem start
            (omega arith)
            (λ a l. mark_low a)
            (λ a c la lc. rw (get_d_same (contracts_in file) c no_holding) (omega arith))
            (λ a c la lc. rw (get_d_same (contracts_in file) c no_holding) (omega arith))
            (λ a l. unfold opening_account in omega (arith, balance_low a l));
        counts =
            fresh_counted (contracts_in file) (λ c. contract_from file (contract_place c)) (accounts_in file)
            (opening_account file) 0 in_range_lem start few_contracts;
      }

  pub opening_well_formed : well_formed_contents (opening file) ≡ true
  opening_well_formed = well_formed_test (opening file) opening_sound.contents
