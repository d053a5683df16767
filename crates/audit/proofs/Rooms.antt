-- The room of a contract's queues. Assumes nothing.
use Rattle.laws.specs.Logic.{List}
use Rattle.laws.specs.Numbers.{ℕ, ◌<◌, ◌≤◌, arith, length, get_or}
use Rattle.rules.specs.Bounds.{max_resting}
use Rattle.rules.specs.Memory.{first_word}
use Rattle.rules.specs.declared.State.{State}
use Rattle.invariants.proofs.MemoryRoom.{counts_ok}
use Rattle.audit.specs.Parts.{QueuesReady}

module _ {s : State} {buys sells : List ℕ} (r : QueuesReady s buys sells) {c : ℕ} (h : c < s.contractcount) where
  pub contract_in : c < 4
  contract_in = omega (arith, (counts_ok s r.counts).contracts_high)

  pub few_buys : get_or s.buycounts c 0 ≤ max_resting
  few_buys = (counts_ok s r.counts).buys c h

  pub few_sells : get_or s.sellcounts c 0 ≤ max_resting
  few_sells = (counts_ok s r.counts).sells c h

  pub buys_room : first_word c (get_or s.buycounts c 0) ≤ length buys
  buys_room = omega (arith, few_buys, r.buy_room)

  pub sells_room : first_word c (get_or s.sellcounts c 0) ≤ length sells
  sells_room = omega (arith, few_sells, r.sell_room)
