-- A run of commands, one after the other, is the rules' run. Assumes nothing.
use mathlib.Core.Bool.{true, false}
use mathlib.Core.List.{List}
use mathlib.Core.Path.{◌≡◌, refl, sym, ap, ◌∙◌, subst⁻¹}
use Prim.Native.Nat.{ℕ, ◌+◌, ◌*◌}
use native.Mathlib.Numerals.{add-one}
use lib.ListN.{length}
use Rattle.laws.specs.Tabulate.{tabulate, tabulate_last}
use Rattle.rules.specs.Condition3.{run}
use Rattle.rules.specs.DayFile.{command_from, command_width}
use Rattle.rules.specs.Memory.{Declared, Memory, respond, step_in, well_formed_memory, memory, WellFormedState}
use Rattle.rules.specs.declared.Command.{Command}
use Rattle.rules.specs.declared.State.{State}
use Rattle.accounting.proofs.Runs.{end_declared, run_last, run_stays}
use Rattle.invariants.proofs.Condition3.{money_left}
use Rattle.invariants.proofs.MemoryKeeps.{memory_keeps, read_back, run_keeps}
use Rattle.exchange.specs.Run.{RanIs, first_commands, whole_commands}

pub run_declared : (m : Memory) (cs : List Command) → Declared m.state → Declared (run m cs).state
run_declared = end_declared memory_keeps read_back

-- the memory of the rules' run is what is promised
pub ran_is : (m : Memory) → Declared m.state → (cs : List Command) {m' : Memory} → m' ≡ run m cs → RanIs m cs m'
ran_is m d cs {m'} e = record { memory = e; money = money_left m d cs m' e }

pub refused_ran : (m : Memory) → Declared m.state → (bytes : List ℕ) → well_formed_memory m ≡ false → RanIs m (whole_commands bytes) m
refused_ran m d bytes w = ran_is m d (whole_commands bytes) (sym (run_stays m w (whole_commands bytes)))

-- ---- the loop: what the first k commands leave

pub record Running (s₀ : State) (buys₀ sells₀ trades₀ bytes : List ℕ) (s : State) (buys sells trades : List ℕ) (k : ℕ) : Type 0 where
  pub begun : WellFormedState s₀ buys₀ sells₀ trades₀
  pub ran : memory s buys sells trades ≡ run (memory s₀ buys₀ sells₀ trades₀) (first_commands bytes k)
  pub buys_kept : length buys ≡ length buys₀
  pub sells_kept : length sells ≡ length sells₀
  pub trades_kept : length trades ≡ length trades₀

-- before the first command
pub running_none : {s : State} {buys sells trades : List ℕ} (bytes : List ℕ) → WellFormedState s buys sells trades → Running s buys sells trades bytes s buys sells trades 0
unfolding first_commands tabulate run
running_none bytes w = record { begun = w; ran = refl; buys_kept = refl; sells_kept = refl; trades_kept = refl }

module _ {s₀ : State} {buys₀ sells₀ trades₀ bytes : List ℕ} {s : State} {buys sells trades : List ℕ} {k : ℕ} (h : Running s₀ buys₀ sells₀ trades₀ bytes s buys sells trades k) where
  abbrev m : Memory
  m = memory s₀ buys₀ sells₀ trades₀

  -- what they leave is well formed
  pub running_formed : WellFormedState s buys sells trades
  running_formed =
      record {
        declared = subst⁻¹ (λ (v : Memory). Declared v.state) h.ran (run_declared m (first_commands bytes k) h.begun.declared);
        formed = subst⁻¹ (λ (v : Memory). well_formed_memory v ≡ true) h.ran (run_keeps m (first_commands bytes k) h.begun.formed);
      }

  -- one more
  one_more : (m' : Memory) → (step_in (run m (first_commands bytes k)) (command_from bytes (command_width * k))).memory ≡ m' → m' ≡ run m (first_commands bytes (k + 1))
  unfolding first_commands respond
  one_more m' e =
      sym e
      ∙ sym (rw (add-one k, tabulate_last k (λ i. command_from bytes (command_width * i)), run_last m (tabulate k (λ i. command_from bytes (command_width * i))) (command_from bytes (command_width * k)), run_keeps m (tabulate k (λ i. command_from bytes (command_width * i))) h.begun.formed))

  pub running_on : {command : Command} {s' : State} {buys' sells' trades' : List ℕ} → command ≡ command_from bytes (command_width * k)
      → memory s' buys' sells' trades' ≡ (step_in (memory s buys sells trades) command).memory → length buys' ≡ length buys → length sells' ≡ length sells → length trades' ≡ length trades
      → Running s₀ buys₀ sells₀ trades₀ bytes s' buys' sells' trades' (k + 1)
  running_on c e b l t =
      record {
        begun = h.begun;
        ran = one_more _ (sym (e ∙ ap (λ (v : Command). (step_in (memory s buys sells trades) v).memory) c ∙ ap (λ (v : Memory). (step_in v (command_from bytes (command_width * k))).memory) h.ran));
        buys_kept = b ∙ h.buys_kept;
        sells_kept = l ∙ h.sells_kept;
        trades_kept = t ∙ h.trades_kept;
      }
