-- What is asked of the state that a run leaves is asked of the rules' run. Assumes nothing.
use mathlib.Core.List.{List}
use mathlib.Core.Path.{◌≡◌, ap, ◌∙◌}
use Prim.Native.Nat.{ℕ}
use Rattle.rules.specs.Condition3.{run}
use Rattle.rules.specs.Memory.{Memory, memory}
use Rattle.rules.specs.declared.Command.{Command}
use Rattle.rules.specs.declared.State.{State}
use Rattle.dayfile.specs.Opening.{opening_state}
use Rattle.exchange.specs.Run.{RanIs}
use Rattle.bench_exchange.specs.Probes.{probe_of, AreasAre, ProbedIs}
use Rattle.bench_exchange.specs.declared.Probe.{Probe}

-- the areas of a memory
pub areas_are : {m : Memory} {state : State} {buys sells trades : List ℕ} → memory state buys sells trades ≡ m → AreasAre m buys sells trades
areas_are e =
    record {
      bids = ap (λ (m : Memory). m.buys) e;
      offers = ap (λ (m : Memory). m.sells) e;
      recorded = ap (λ (m : Memory). m.trades) e;
    }

-- an answer about a memory, and the areas in it
pub probed : {m : Memory} {state : State} {buys sells trades : List ℕ} {r : Probe} (a c : ℕ) → memory state buys sells trades ≡ m → r ≡ probe_of state a c → ProbedIs m a c r buys sells trades
probed a c e asked =
    record { answer = asked ∙ ap (λ (m : Memory). probe_of m.state a c) e; areas = areas_are e }

module _ {opening state : State} {cs : List Command} {buys sells trades buys' sells' trades' : List ℕ} (day : List ℕ)
    (opened : opening ≡ opening_state day) (ran : RanIs (memory opening buys sells trades) cs (memory state buys' sells' trades')) where
  pub left : memory state buys' sells' trades' ≡ run (memory (opening_state day) buys sells trades) cs
  left = ran.memory ∙ ap (λ (s : State). run (memory s buys sells trades) cs) opened

  pub ran_probed : {r : Probe} (a c : ℕ) → r ≡ probe_of state a c → ProbedIs (run (memory (opening_state day) buys sells trades) cs) a c r buys' sells' trades'
  ran_probed a c asked = probed a c left asked
