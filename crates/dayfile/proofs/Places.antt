-- Where the parts of a day file lie, and what a sound head and a sound file tell their reader: the counts' ranges, the length,
-- that each record spoken of lies within it. Assumes nothing.
use Rattle.laws.specs.Logic.{Bool, true, false, ◌&&◌, true≢false, List, ◌≡◌, refl, sym, ap, ap₂, ◌∙◌}
use Rattle.laws.specs.Numbers.{ℕ, ◌+◌, ◌-◌, ◌*◌, ◌%◌, ◌<◌, ◌≤◌, arith, eqb-true, leb-true, le-leb, lt-leb, eqb, leb, length, get_or}
use Rattle.laws.specs.Choice.{pick, all, both_true, same_test, all_at}
use Rattle.laws.specs.Tabulate.{get_d_tabulate}
use Rattle.rules.specs.Bounds.{within, max_balance, max_contracts, max_accounts}
use Rattle.rules.specs.DayFile.{u32_at, u64_at, contracts_in, contract_place, accounts_in, account_place, commands_in, command_place, contract_sound, account_sound, balance_from, maker_bit, maker_from, command_from, commands_of, sound, max_commands, count_width, contract_width, account_width, command_width}
use Rattle.rules.specs.declared.Command.{Command}
use Rattle.theory.proofs.Terms.{within_low, within_high}
use Rattle.dayfile.specs.FileHead.{count_before, head_whole, head_sound}
use Rattle.dayfile.proofs.Counts.{counted, uncounted}

-- ---- places

pub contract_place_lem : (c : ℕ) → contract_place c ≡ count_width + contract_width * c
unfolding contract_place
contract_place_lem c = refl

module _ (file : List ℕ) where
  pub account_place_lem : (a : ℕ) → account_place file a ≡ 2 * count_width + contract_width * contracts_in file + account_width * a
  unfolding account_place contract_place
  account_place_lem a = omega arith

  pub command_place_lem : (k : ℕ) → command_place file k ≡ 3 * count_width + contract_width * contracts_in file + account_width * accounts_in file + command_width * k
  unfolding command_place account_place contract_place
  command_place_lem k = omega arith

  pub command_from_lem : (first k : ℕ) → first ≡ command_place file 0 → first + command_width * k ≡ command_place file k
  command_from_lem first k e = omega (arith, command_place_lem 0, command_place_lem k)

  -- the three counts, each read where the ones before it say
  pub contracts_read : contracts_in file ≡ u32_at file 0
  unfolding contracts_in
  contracts_read = refl

  pub accounts_read : accounts_in file ≡ u32_at file (count_width + contract_width * contracts_in file)
  unfolding accounts_in contract_place
  accounts_read = refl

  pub commands_read_lem : commands_in file ≡ u32_at file (2 * count_width + contract_width * contracts_in file + account_width * accounts_in file)
  unfolding commands_in
  commands_read_lem = ap (u32_at file) (account_place_lem (accounts_in file))

  pub commands_before : (end : ℕ) → end ≡ command_place file 0 → commands_in file ≡ u32_at file (end - count_width)
  commands_before end e = commands_read_lem ∙ ap (u32_at file) (omega (arith, command_place_lem 0))

  -- a balance and a maker's mark, read where the accounts begin at `start`
  account_read : (start a : ℕ) → start ≡ account_place file 0 → u64_at file (account_place file a) ≡ u64_at file (start + account_width * a)
  account_read start a e = ap (u64_at file) (omega (arith, account_place_lem a, account_place_lem 0))

  pub balance_read : (start a : ℕ) → start ≡ account_place file 0 → balance_from file a ≡ u64_at file (start + account_width * a) % maker_bit
  unfolding balance_from
  balance_read start a e = ap (λ (n : ℕ). n % maker_bit) (account_read start a e)

  pub maker_read : (start a : ℕ) → start ≡ account_place file 0 → maker_from file a ≡ pick (leb maker_bit (u64_at file (start + account_width * a))) 1 0
  unfolding maker_from
  maker_read start a e = ap (λ (n : ℕ). pick (leb maker_bit n) 1 0) (account_read start a e)

  pub account_passes : (a balance : ℕ) → balance ≡ balance_from file a → balance ≤ max_balance → account_sound file a ≡ true
  unfolding account_sound
  account_passes a balance e h = rw (← e) (le-leb balance max_balance h)

  pub account_fails : (a balance : ℕ) → balance ≡ balance_from file a → max_balance < balance → account_sound file a ≡ false
  unfolding account_sound
  account_fails a balance e h = rw (← e) (lt-leb balance max_balance h)

-- ---- what a head says

pub record Head (file : List ℕ) : Type 0 where
  pub some_contract : 1 ≤ contracts_in file
  pub contracts : contracts_in file ≤ max_contracts
  pub some_account : 1 ≤ accounts_in file
  pub accounts : accounts_in file ≤ max_accounts
  pub long : 3 * count_width + contract_width * contracts_in file + account_width * accounts_in file ≤ length file

module _ (file : List ℕ) where
  pub head : head_whole file ≡ true → Head file
  unfolding head_whole
  head h =
      let c = within 1 max_contracts (contracts_in file) in
      let a = within 1 max_accounts (accounts_in file) in
      let q = both_true (c && a) (leb (command_place file 0) (length file)) h in
      let r = both_true c a q.0 in
      let l = leb-true (command_place file 0) (length file) q.1 in
      record {
        some_contract = within_low 1 max_contracts (contracts_in file) r.0;
        contracts = within_high 1 max_contracts (contracts_in file) r.0;
        some_account = within_low 1 max_accounts (accounts_in file) r.1;
        accounts = within_high 1 max_accounts (accounts_in file) r.1;
        long = omega (arith, l, command_place_lem file 0);
      }

  -- a file whose counts or length contradict that has no whole head
  pub refused : (Head file → ⊥) → head_whole file ≡ false
  refused f = same_test (head_whole file) false (λ e. absurd (f (head e))) (λ e. absurd (true≢false (sym e)))

  -- counts in range leave it to the length
  pub length_decides : 1 ≤ contracts_in file → contracts_in file ≤ max_contracts → 1 ≤ accounts_in file → accounts_in file ≤ max_accounts
      → head_whole file ≡ leb (3 * count_width + contract_width * contracts_in file + account_width * accounts_in file) (length file)
  unfolding head_whole
  length_decides h i j k =
      let e : command_place file 0 ≡ 3 * count_width + contract_width * contracts_in file + account_width * accounts_in file = omega (arith, command_place_lem file 0) in
      rw (
        le-leb 1 (contracts_in file) h,
        le-leb (contracts_in file) max_contracts i,
        le-leb 1 (accounts_in file) j,
        le-leb (accounts_in file) max_accounts k,
        e,
      )

  -- the same by the counts as the code reads them
  pub no_contracts_lem : count_before file 4 4 ≡ 0 → false ≡ head_whole file
  no_contracts_lem z = sym (refused (λ l. uncounted file 4 4 z (omega (arith, l.long)) (omega (arith, l.some_contract, contracts_read file)) (omega (arith, l.contracts, contracts_read file))))

  module _ {c : ℕ} (ec : c ≡ count_before file 4 4) (some : 1 ≤ c) where
    pub contracts_are : c ≡ contracts_in file
    contracts_are = (counted file 4 4 ec some).is ∙ sym (contracts_read file)

    module _ {end : ℕ} (is : end ≡ 8 + 20 * c) where
      read_there : u32_at file (end - 4) ≡ accounts_in file
      read_there = ap (u32_at file) (omega (arith, contracts_are)) ∙ sym (accounts_read file)

      pub no_accounts_lem : count_before file end 32 ≡ 0 → false ≡ head_whole file
      no_accounts_lem z =
          sym (refused (λ l. uncounted file end 32 z (omega (arith, l.long, contracts_are)) (omega (arith, l.some_account, read_there)) (omega (arith, l.accounts, read_there))))

      module _ {a : ℕ} (ea : a ≡ count_before file end 32) (more : 1 ≤ a) where
        pub accounts_are : a ≡ accounts_in file
        accounts_are = (counted file end 32 ea more).is ∙ read_there

        pub reach_decides : c ≤ 4 → a ≤ 32 → leb (12 + 20 * c + 8 * a) (length file) ≡ head_whole file
        reach_decides h k =
            ap₂ (λ (m n : ℕ). leb (12 + 20 * m + 8 * n) (length file)) contracts_are accounts_are
            ∙ sym (length_decides (omega (arith, contracts_are)) (omega (arith, contracts_are)) (omega (arith, accounts_are)) (omega (arith, accounts_are)))

  abbrev contracts_sound : Bool
  contracts_sound = all (contract_sound file) (contracts_in file)

  abbrev accounts_sound : Bool
  accounts_sound = all (account_sound file) (accounts_in file)

  pub head_is : head_sound file ≡ head_whole file && contracts_sound && accounts_sound
  unfolding head_sound
  head_is = refl

  pub sound_head : head_sound file ≡ true → Head file
  sound_head h =
      head (both_true (head_whole file) contracts_sound (both_true (head_whole file && contracts_sound) accounts_sound (sym head_is ∙ h)).0).0

-- ---- a sound file

pub record Layout (file : List ℕ) : Type 0 where
  pub some_contract : 1 ≤ contracts_in file
  pub contracts : contracts_in file ≤ max_contracts
  pub some_account : 1 ≤ accounts_in file
  pub accounts : accounts_in file ≤ max_accounts
  pub commands : commands_in file ≤ max_commands
  pub long : length file ≡ 3 * count_width + contract_width * contracts_in file + account_width * accounts_in file + command_width * commands_in file

-- a test that another implies may be asked before it
asked_first : (n e l c a : Bool) → (e ≡ true → l ≡ true) → (n && e && c && a) ≡ (l && c && a && n && e)
asked_first n e l c a h =
    same_test (n && e && c && a) (l && c && a && n && e)
    (λ t.
    let p = both_true (n && e && c) a t in
    let q = both_true (n && e) c p.0 in
    let r = both_true n e q.0 in
    rw (h r.1, q.1, p.1, r.0, r.1))
    (λ t.
    let p = both_true (l && c && a && n) e t in
    let q = both_true (l && c && a) n p.0 in
    let r = both_true (l && c) a q.0 in
    rw (q.1, p.1, (both_true l c r.0).1, r.1))

counts_first : (s t n e l c a : Bool) → (e ≡ true → l ≡ true) → (s && t && n && e && c && a) ≡ (s && t && l && c && a && n && e)
counts_first false t n e l c a h = refl
counts_first true false n e l c a h = refl
counts_first true true n e l c a h = asked_first n e l c a h

module _ (file : List ℕ) where
  abbrev few : Bool
  few = leb (commands_in file) max_commands

  abbrev ended : Bool
  ended = eqb (length file) (command_place file (commands_in file))

  reaches : ended ≡ true → leb (command_place file 0) (length file) ≡ true
  reaches e =
      let l = eqb-true (length file) (command_place file (commands_in file)) e in
      le-leb (command_place file 0) (length file) (omega (arith, l, command_place_lem file 0, command_place_lem file (commands_in file)))

  -- a sound head, the count of commands in range, and the end where that count says
  pub sound_is : sound file ≡ head_sound file && few && ended
  unfolding sound head_sound head_whole
  sound_is =
      counts_first (within 1 max_contracts (contracts_in file)) (within 1 max_accounts (accounts_in file)) few ended (leb (command_place file 0) (length file))
      (contracts_sound file) (accounts_sound file) reaches

  -- behind a sound head with a count in range the length decides
  pub length_ends : head_sound file ≡ true → commands_in file ≤ max_commands → (end : ℕ) → end ≡ command_place file 0
      → sound file ≡ eqb (length file) (end + command_width * commands_in file)
  length_ends h k end e = sound_is ∙ rw (h, le-leb (commands_in file) max_commands k, command_from_lem file end (commands_in file) e)

  module _ (h : sound file ≡ true) where
    parts : ((head_sound file && few) ≡ true) × (ended ≡ true)
    parts = both_true (head_sound file && few) ended (sym sound_is ∙ h)

    pub sound_whole : head_sound file ≡ true
    sound_whole = (both_true (head_sound file) few parts.0).0

    values : ((head_whole file && contracts_sound file) ≡ true) × (accounts_sound file ≡ true)
    values = both_true (head_whole file && contracts_sound file) (accounts_sound file) (sym (head_is file) ∙ sound_whole)

    pub sound_layout : Layout file
    sound_layout =
        let l = sound_head file sound_whole in
        record {
          some_contract = l.some_contract;
          contracts = l.contracts;
          some_account = l.some_account;
          accounts = l.accounts;
          commands = leb-true (commands_in file) max_commands (both_true (head_sound file) few parts.0).1;
          long = eqb-true (length file) (command_place file (commands_in file)) parts.1 ∙ command_place_lem file (commands_in file);
        }

    pub balance_most_lem : (a : ℕ) → a < accounts_in file → balance_from file a ≤ max_balance
    unfolding account_sound
    balance_most_lem a l = leb-true (balance_from file a) max_balance (all_at (account_sound file) a (accounts_in file) values.1 l)

    -- each command's record lies within the file
    pub command_within : (k : ℕ) → k < commands_in file → command_place file k + command_width ≤ length file
    command_within k l = let s = sound_layout in omega (arith, command_place_lem file k)

-- the k-th of the file's commands
pub command_of_lem : (file : List ℕ) (k : ℕ) (d : Command) → k < commands_in file → get_or (commands_of file) k d ≡ command_from file (command_place file k)
unfolding commands_of
command_of_lem file k d h = get_d_tabulate (commands_in file) k (λ k. command_from file (command_place file k)) d h
