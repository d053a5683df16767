-- From the code's answer to the rules' response: one law for every refusal, one for every acceptance. Assumes nothing.
use mathlib.Core.List.{List}
use mathlib.Core.Path.{◌≡◌, sym, ap, ◌∙◌}
use Prim.Native.Nat.{ℕ, zero, suc, ◌<◌}
use native.Mathlib.Nat.{not-suc-le-zero}
use lib.Dec.{eqb-suc-zero}
use Rattle.rules.specs.Kinds.{code_of, decide, done, kind_of}
use Rattle.rules.specs.Memory.{exchange_of, memory, step_in, written}
use Rattle.rules.specs.Step.{answer_of}
use Rattle.rules.specs.declared.Command.{Command}
use Rattle.rules.specs.declared.State.{State}
use Rattle.engine.specs.Outcome.{OutcomeIs, refused_with, accepted_with}
use Rattle.engine.specs.declared.answers.Outcome.{Outcome}

module _ (s : State) (buys sells trades : List ℕ) (command : Command) where
  -- "a refusal gives three zeros and changes nothing"
  pub refusal : (code : ℕ) {r : Outcome} → 0 < code → code_of (exchange_of (memory s buys sells trades)) command ≡ code → r ≡ refused_with s code
      → OutcomeIs (step_in (memory s buys sells trades) command) r buys sells trades
  unfolding step_in decide
  refusal zero h e f = absurd (not-suc-le-zero h)
  refusal (suc code) h e f =
      rw (e, eqb-suc-zero code) (record { answer = ap (λ (o : Outcome). o.answer) f; memory = ap (λ (o : Outcome). memory o.state buys sells trades) f })

  -- an accepted command: its answer, and its state as it lies
  pub acceptance : {number traded lots : ℕ} {s' : State} {buys' sells' trades' : List ℕ} {r : Outcome} → code_of (exchange_of (memory s buys sells trades)) command ≡ 0
      → (done (kind_of (exchange_of (memory s buys sells trades)) command).effect).answer ≡ answer_of 0 number traded lots
      → written (memory s buys sells trades) (kind_of (exchange_of (memory s buys sells trades)) command).effect.stages ≡ memory s' buys' sells' trades'
      → r ≡ accepted_with s' number traded lots
      → OutcomeIs (step_in (memory s buys sells trades) command) r buys' sells' trades'
  unfolding step_in decide
  acceptance {buys' = buys'} {sells' = sells'} {trades' = trades'} e a p f =
      rw e
      (record {
        answer = ap (λ (o : Outcome). o.answer) f ∙ sym a;
        memory = ap (λ (o : Outcome). memory o.state buys' sells' trades') f ∙ sym p;
      })
