-- The test and the single command behind a run are those of the rules' run. Assumes nothing.
use mathlib.Core.Bool.{Bool}
use mathlib.Core.List.{List}
use mathlib.Core.Path.{◌≡◌, ap, ◌∙◌}
use Prim.Native.Nat.{ℕ}
use Rattle.rules.specs.Condition3.{run}
use Rattle.rules.specs.Memory.{Memory, memory, respond, well_formed_memory}
use Rattle.rules.specs.declared.Command.{Command}
use Rattle.rules.specs.declared.State.{State}
use Rattle.dayfile.specs.Opening.{opening_state}
use Rattle.exchange.specs.Response.{ExecutedIs}
use Rattle.exchange.specs.Run.{RanIs}
use Rattle.exchange.specs.declared.settling.Response.{Response}
use Rattle.bench_exchange.proofs.Probing.{areas_are, left, probed}
use Rattle.bench_exchange.specs.Probes.{probe_of, ProbedIs, TestedIs}
use Rattle.bench_exchange.specs.declared.Probe.{Probe}

module _ {opening state : State} {cs : List Command} {buys sells trades buys' sells' trades' : List ℕ} (day : List ℕ)
    (opened : opening ≡ opening_state day) (ran : RanIs (memory opening buys sells trades) cs (memory state buys' sells' trades')) where
  pub ran_tested : {r : Bool} → r ≡ well_formed_memory (memory state buys' sells' trades') → TestedIs (run (memory (opening_state day) buys sells trades) cs) r buys' sells' trades'
  ran_tested asked = record { answer = asked ∙ ap well_formed_memory (left day opened ran); areas = areas_are (left day opened ran) }

  pub executed_probed : {command : Command} {response : Response} {buys'' sells'' trades'' : List ℕ} {r : Probe} (a c : ℕ)
      → ExecutedIs (memory state buys' sells' trades') command response buys'' sells'' trades''
      → r ≡ probe_of response.state a c
      → ProbedIs (respond (run (memory (opening_state day) buys sells trades) cs) command).memory a c r buys'' sells'' trades''
  executed_probed {command} a c done asked = probed a c (done.memory ∙ ap (λ (m : Memory). (respond m command).memory) (left day opened ran)) asked
