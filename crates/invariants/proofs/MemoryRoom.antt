-- The counts and the room of a state in memory as facts with names, and the two ways between them and the tests of
-- `Memory.antt`. Assumes nothing.
use Rattle.laws.specs.Logic.{Bool, true, List, [], ◌∷◌, ◌≡◌}
use Rattle.laws.specs.Numbers.{ℕ, ◌*◌, ◌<◌, ◌≤◌, leb-true, le-leb, leb, length, get_or}
use Rattle.laws.specs.Choice.{all, all_at, all_true, both_true, true_both}
use Rattle.laws.specs.Chains.{all_passed, join}
use Rattle.rules.specs.Bounds.{within, max_contracts, max_accounts, max_resting, max_trades}
use Rattle.rules.specs.Memory.{Memory, queue_stride, exchange_of, counts_in_range, has_room, well_formed_memory, trades_words}
use Rattle.rules.specs.WellFormed.{well_formed_contents}
use Rattle.rules.specs.declared.State.{State}

-- the counts of a state
pub record CountsOk (s : State) : Type 0 where
  pub contracts_low : 1 ≤ s.contractcount
  pub contracts_high : s.contractcount ≤ max_contracts
  pub accounts_low : 1 ≤ s.accountcount
  pub accounts_high : s.accountcount ≤ max_accounts
  pub trades : s.tradecount ≤ max_trades
  pub buys : (c : ℕ) → c < s.contractcount → get_or s.buycounts c 0 ≤ max_resting
  pub sells : (c : ℕ) → c < s.contractcount → get_or s.sellcounts c 0 ≤ max_resting

module _ (s : State) where
  abbrev few : List ℕ → ℕ → Bool
  few counts c = leb (get_or counts c 0) max_resting

  abbrev count_tests : List Bool
  count_tests =
      within 1 max_accounts s.accountcount ∷ leb s.tradecount max_trades ∷ all (few s.buycounts) s.contractcount ∷ all (few s.sellcounts)
      s.contractcount ∷ []

  pub counts_ok : counts_in_range s ≡ true → CountsOk s
  unfolding counts_in_range
  counts_ok h =
      let p = all_passed (within 1 max_contracts s.contractcount) count_tests h in
      let c = both_true (leb 1 s.contractcount) (leb s.contractcount max_contracts) p.0 in
      let a = both_true (leb 1 s.accountcount) (leb s.accountcount max_accounts) p.1.0 in
      record {
        contracts_low = leb-true _ _ c.0;
        contracts_high = leb-true _ _ c.1;
        accounts_low = leb-true _ _ a.0;
        accounts_high = leb-true _ _ a.1;
        trades = leb-true _ _ p.1.1.0;
        buys = λ i l. leb-true _ _ (all_at (few s.buycounts) i s.contractcount p.1.1.1.0 l);
        sells = λ i l. leb-true _ _ (all_at (few s.sellcounts) i s.contractcount p.1.1.1.1 l);
      }

  pub counts_test : CountsOk s → counts_in_range s ≡ true
  unfolding counts_in_range
  counts_test k =
      join (within 1 max_contracts s.contractcount) count_tests (
        true_both (leb 1 s.contractcount) (leb s.contractcount max_contracts) (le-leb _ _ k.contracts_low) (le-leb _ _ k.contracts_high),
        (
          true_both (leb 1 s.accountcount) (leb s.accountcount max_accounts) (le-leb _ _ k.accounts_low) (le-leb _ _ k.accounts_high),
          (
            le-leb _ _ k.trades,
            (
              all_true (few s.buycounts) s.contractcount (λ i l. le-leb _ _ (k.buys i l)),
              all_true (few s.sellcounts) s.contractcount
                  (λ i l. le-leb _ _ (k.sells i l)),
            ),
          ),
        ),
      )

-- the room of the areas
pub record RoomOk (m : Memory) : Type 0 where
  pub buys : queue_stride * m.state.contractcount ≤ length m.buys
  pub sells : queue_stride * m.state.contractcount ≤ length m.sells
  pub trades : trades_words ≤ length m.trades

module _ (m : Memory) where
  abbrev room_tests : List Bool
  room_tests = leb (queue_stride * m.state.contractcount) (length m.sells) ∷ leb trades_words (length m.trades) ∷ []

  pub room_ok : has_room m ≡ true → RoomOk m
  unfolding has_room
  room_ok h =
      let p = all_passed (leb (queue_stride * m.state.contractcount) (length m.buys)) room_tests h in
      record { buys = leb-true _ _ p.0; sells = leb-true _ _ p.1.0; trades = leb-true _ _ p.1.1 }

  pub room_test : RoomOk m → has_room m ≡ true
  unfolding has_room
  room_test k =
      join (leb (queue_stride * m.state.contractcount) (length m.buys)) room_tests
      (le-leb _ _ k.buys, (le-leb _ _ k.sells, le-leb _ _ k.trades))

  -- a well-formed state in memory
  pub record MemoryOk : Type 0 where
    pub counts : CountsOk m.state
    pub room : RoomOk m
    pub contents : well_formed_contents (exchange_of m) ≡ true

  pub memory_ok : well_formed_memory m ≡ true → MemoryOk
  unfolding well_formed_memory
  memory_ok h =
      let p = all_passed (counts_in_range m.state) (has_room m ∷ well_formed_contents (exchange_of m) ∷ []) h in
      record { counts = counts_ok m.state p.0; room = room_ok p.1.0; contents = p.1.1 }

  pub memory_test : MemoryOk → well_formed_memory m ≡ true
  unfolding well_formed_memory
  memory_test k =
      join (counts_in_range m.state) (has_room m ∷ well_formed_contents (exchange_of m) ∷ [])
      (counts_test m.state k.counts, (room_test k.room, k.contents))
