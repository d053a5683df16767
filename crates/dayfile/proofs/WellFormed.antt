-- A sound file's opening state in memory is well formed, in areas that have room, where the opening exchange is (which crate
-- `invariants` shows). Assumes nothing.
use Rattle.laws.specs.Logic.{true, List, ◌≡◌}
use Rattle.laws.specs.Numbers.{ℕ, ◌*◌, ◌<◌, ◌≤◌, arith, le-leb, leb, length, get_or, replicate, get_or-replicate}
use Rattle.laws.specs.Choice.{all, all_true}
use Rattle.rules.specs.Bounds.{max_resting, max_contracts}
use Rattle.rules.specs.DayFile.{contracts_in, accounts_in, opening, sound}
use Rattle.rules.specs.Memory.{counts_in_range, has_room, well_formed_memory, queue_stride, trades_words}
use Rattle.rules.specs.WellFormed.{well_formed_contents}
use Rattle.dayfile.specs.Opening.{opening_state, opening_memory}
use Rattle.dayfile.proofs.Places.{sound_layout}
use Rattle.dayfile.proofs.Start.{opening_exchange}

-- queue areas with room for four contracts, a trade area with room for a day's trades
module _ (file buys sells trades : List ℕ) (h : sound file ≡ true) (room_buys : queue_stride * max_contracts ≤ length buys)
    (room_sells : queue_stride * max_contracts ≤ length sells) (room-trades : trades_words ≤ length trades) where
  no_orders : all (λ c. leb (get_or (replicate 4 0) c 0) max_resting) (contracts_in file) ≡ true
  no_orders =
      all_true (λ c. leb (get_or (replicate 4 0) c 0) max_resting) (contracts_in file)
      (λ c l. at c (let s = sound_layout file h in omega arith))
    where
      at : (c : ℕ) → c < 4 → leb (get_or (replicate 4 0) c 0) max_resting ≡ true
      at c k = rw (get_or-replicate {A = ℕ} 4 c 0 0 k)

  counts_ok : counts_in_range (opening_state file) ≡ true
  unfolding counts_in_range opening_state
  counts_ok =
      let s = sound_layout file h in
      rw (
        le-leb 1 (contracts_in file) s.some_contract,
        le-leb (contracts_in file) 4 s.contracts,
        le-leb 1 (accounts_in file) s.some_account,
        le-leb (accounts_in file) 32 s.accounts,
        no_orders,
      )

  room_ok : has_room (opening_memory file buys sells trades) ≡ true
  unfolding has_room opening_state
  room_ok =
      let s = sound_layout file h in
      let b = le-leb (queue_stride * contracts_in file) (length buys) (omega arith) in
      let e = le-leb (queue_stride * contracts_in file) (length sells) (omega arith) in
      rw (b, e) (le-leb trades_words (length trades) room-trades)

  pub opening_memory_well_formed : well_formed_contents (opening file) ≡ true → well_formed_memory (opening_memory file buys sells trades) ≡ true
  unfolding well_formed_memory
  opening_memory_well_formed contents = rw (counts_ok, room_ok, opening_exchange file buys sells trades h) contents
