-- What the benchmark asks about a state, and what its call gives and leaves. Assumes nothing.
use Rattle.std.specs.Prelude.{Bool, List, ◌≡◌, ℕ, get_or}
use Rattle.rules.specs.Condition3.{run}
use Rattle.rules.specs.Exchange.{no_account, no_contract, no_holding}
use Rattle.rules.specs.Memory.{Memory, memory, well_formed_memory}
use Rattle.rules.specs.declared.State.{State}
use Rattle.dayfile.specs.Opening.{opening_state}
use Rattle.exchange.specs.Run.{whole_commands}
use Rattle.bench_exchange.specs.declared.Probe.{Probe}

abbrev pub probe_of : State → ℕ → ℕ → Probe
probe_of s a c =
    record {
      balance = (get_or s.accounts a no_account).balance;
      bought = get_or s.buycounts c 0;
      sold = get_or s.sellcounts c 0;
      made = s.tradecount;
      long = (get_or (get_or s.accounts a no_account).holdings c no_holding).long;
      short = (get_or (get_or s.accounts a no_account).holdings c no_holding).short;
      startlong = (get_or (get_or s.accounts a no_account).holdings c no_holding).startlong;
      startshort = (get_or (get_or s.accounts a no_account).holdings c no_holding).startshort;
      reference = (get_or s.contracts c no_contract).reference;
      phase = (get_or s.contracts c no_contract).phase;
      last = (get_or s.contracts c no_contract).last;
      next = s.next;
      settlements = s.settlements;
    }

-- the rules' run of the commands on the day's opening state
abbrev pub ran_of : List ℕ → List ℕ → List ℕ → List ℕ → List ℕ → Memory
ran_of day commands buys sells trades = run (memory (opening_state day) buys sells trades) (whole_commands commands)

-- all three areas as a run leaves them
pub record AreasAre (ran : Memory) (buys sells trades : List ℕ) : Type 0 where
  pub bids : buys ≡ ran.buys
  pub offers : sells ≡ ran.sells
  pub recorded : trades ≡ ran.trades

-- whether the state that a run leaves is well formed, and all three areas
pub record TestedIs (ran : Memory) (r : Bool) (buys sells trades : List ℕ) : Type 0 where
  pub answer : r ≡ well_formed_memory ran
  pub areas : AreasAre ran buys sells trades

-- of the state that a run leaves the answer, and all three areas
pub record ProbedIs (ran : Memory) (a c : ℕ) (r : Probe) (buys sells trades : List ℕ) : Type 0 where
  pub answer : r ≡ probe_of ran.state a c
  pub areas : AreasAre ran buys sells trades
