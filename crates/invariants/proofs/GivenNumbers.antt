-- ORDER NUMBERS AND TIME STAMPS ARE NEVER GIVEN TWICE IN A DAY; AN ORDER KEEPS ITS NUMBER FOR LIFE: the theorems in the words of
-- specs/GivenNumbers.antt. Assumes nothing.
use Rattle.laws.specs.Logic.{true, false, not, List, [], ◌∷◌, ◌++◌, ◌≡◌, refl, ap, ◌∙◌}
use Rattle.laws.specs.Numbers.{ℕ, zero, suc, ◌+◌, ◌-◌, ◌≤◌, arith, leb-true, ne_eqb, le-leb, not-true, eqb, leb}
use Rattle.laws.specs.Choice.{all_of, all_of_imp, both_true, true_both, by_test}
use Rattle.rules.specs.Command.{is_settle}
use Rattle.rules.specs.Exchange.{Exchange}
use Rattle.rules.specs.Kinds.{decide, step}
use Rattle.rules.specs.Memory.{Memory, exchange_of, respond, step_in, well_formed_memory}
use Rattle.rules.specs.WellFormed.{used_once}
use Rattle.rules.specs.declared.Command.{Command}
use Rattle.accounting.proofs.Runs.{stays_so}
use Rattle.invariants.proofs.Clauses.{Sound}
use Rattle.invariants.proofs.EachKind.{stamps_rise, step_given, step_lives}
use Rattle.invariants.proofs.MemoryKeeps.{memory_keeps, read_back}
use Rattle.invariants.specs.GivenNumbers.{GivenOnce, NumbersForLife, all_numbers_given, all_stamps_given, numbers_given, stamps_given, up_from}
use Rattle.invariants.specs.RunTouches.{within_day}

-- AN ORDER KEEPS ITS NUMBER FOR LIFE
pub numbers_for_life : (x : Exchange) → Sound x → (command : Command) → is_settle command ≡ false → NumbersForLife x (step x command)
numbers_for_life x s command n = step_lives x s.contents command n

-- ---- numbers that rise

abbrev From : ℕ → List ℕ → Type 0
From n ns = all_of (λ k. leb n k) ns ≡ true

from_later : (m n : ℕ) → m ≤ n → (ns : List ℕ) → From n ns → From m ns
from_later m n h ns f = all_of_imp (λ k. leb n k) (λ k. leb m k) ns (λ k e. le-leb m k (omega (arith, leb-true n k e))) f

up_from_lem : (n k : ℕ) (ns : List ℕ) → From (n + k) ns → From n (up_from n k ++ ns)
unfolding all_of up_from
up_from_lem n zero ns f = from_later n (n + 0) (omega arith) ns f
up_from_lem n (suc k) ns f =
    true_both (leb n n) (all_of (λ j. leb n j) (up_from (suc n) k ++ ns)) (le-leb n n (omega arith))
    (from_later n (suc n) (omega arith) (up_from (suc n) k ++ ns) (up_from_lem (suc n) k ns (from_later (suc n + k) (n + suc k) (omega arith) ns f)))

-- so many from one on are used once, with any that are used once and lie beyond
up_once : (n k : ℕ) (ns : List ℕ) → From (n + k) ns → used_once ns ≡ true → used_once (up_from n k ++ ns) ≡ true
unfolding used_once up_from
up_once n zero ns f u = u
up_once n (suc k) ns f u =
    let g : From (suc n + k) ns = from_later (suc n + k) (n + suc k) (omega arith) ns f in
    true_both (all_of (λ j. not (eqb n j)) (up_from (suc n) k ++ ns)) (used_once (up_from (suc n) k ++ ns))
    (all_of_imp (λ j. leb (suc n) j) (λ j. not (eqb n j)) (up_from (suc n) k ++ ns) (λ j e. rw (ne_eqb n j (λ (q : n ≡ j). omega (arith, leb-true (suc n) j e))) refl) (up_from_lem (suc n) k ns g))
    (up_once (suc n) k ns g u)

-- ---- over a list

-- what begins at the next one and leaves the next one beyond, command by command, is used once and lies from the first next on
abbrev Once : ℕ → List ℕ → Type 0
Once n ns = From n ns × (used_once ns ≡ true)

once_more : (n k next : ℕ) (given ns : List ℕ) → given ≡ up_from n k → next ≡ n + k → Once next ns → Once n (given ++ ns)
once_more n k next given ns e f o =
    let b : From (n + k) ns = rw (← f) o.0 in
    rw e (up_from_lem n k ns b, up_once n k ns b o.1)

answered : (m : Memory) (c : Command) → well_formed_memory m ≡ true → (respond m c).answer ≡ (decide (exchange_of m) c).answer
unfolding respond step_in
answered m c w = rw w refl

numbers_once : (m : Memory) → well_formed_memory m ≡ true → (cs : List Command) → within_day cs ≡ true → Once (exchange_of m).next (all_numbers_given m cs)
unfolding all_numbers_given all_of used_once
numbers_once m w [] d = (refl, refl)
numbers_once m w (c ∷ cs) d =
    let b = both_true (not (is_settle c)) (within_day cs) d in
    let g = step_given (exchange_of m) c (not-true (is_settle c) b.0) in
    once_more (exchange_of m).next g.0 (exchange_of (respond m c).memory).next (numbers_given c (respond m c).answer) (all_numbers_given (respond m c).memory cs)
    (ap (numbers_given c) (answered m c w) ∙ g.1) (ap (λ (y : Exchange). y.next) (read_back m c w) ∙ g.2)
    (numbers_once (respond m c).memory (memory_keeps m c w) cs b.1)

stamps_once : (m : Memory) → well_formed_memory m ≡ true → (cs : List Command) → within_day cs ≡ true → Once (exchange_of m).nextstamp (all_stamps_given m cs)
unfolding all_stamps_given all_of used_once
stamps_once m w [] d = (refl, refl)
stamps_once m w (c ∷ cs) d =
    let b = both_true (not (is_settle c)) (within_day cs) d in
    let r : (exchange_of m).nextstamp ≤ (exchange_of (respond m c).memory).nextstamp = rw (read_back m c w) (stamps_rise (exchange_of m) c (not-true (is_settle c) b.0)) in
    once_more (exchange_of m).nextstamp ((exchange_of (respond m c).memory).nextstamp - (exchange_of m).nextstamp) (exchange_of (respond m c).memory).nextstamp
    (stamps_given (exchange_of m) (exchange_of (respond m c).memory)) (all_stamps_given (respond m c).memory cs) refl (omega arith)
    (stamps_once (respond m c).memory (memory_keeps m c w) cs b.1)

-- ---- a state that is not well formed gives none

refused_answer : (m : Memory) (c : Command) → well_formed_memory m ≡ false → numbers_given c (respond m c).answer ≡ []
unfolding respond
refused_answer m c w = rw w refl

no_numbers : (m : Memory) → well_formed_memory m ≡ false → (cs : List Command) → all_numbers_given m cs ≡ []
unfolding all_numbers_given
no_numbers m w [] = refl
no_numbers m w (c ∷ cs) = rw (refused_answer m c w, stays_so m c w) (no_numbers m w cs)

no_stamps : (m : Memory) → well_formed_memory m ≡ false → (cs : List Command) → all_stamps_given m cs ≡ []
unfolding all_stamps_given up_from
no_stamps m w [] = refl
no_stamps m w (c ∷ cs) = let z : (exchange_of m).nextstamp - (exchange_of m).nextstamp ≡ 0 = omega arith in rw (stays_so m c w, z) (no_stamps m w cs)

-- NUMBERS AND TIME STAMPS ARE NEVER GIVEN TWICE IN A DAY, whatever the memory
pub given_once : (m : Memory) (cs : List Command) → within_day cs ≡ true → GivenOnce m cs
unfolding used_once
given_once m cs d =
    by_test (well_formed_memory m) (λ w. record { numbers = (numbers_once m w cs d).1; stamps = (stamps_once m w cs d).1 })
    (λ w. record { numbers = rw (no_numbers m w cs) refl; stamps = rw (no_stamps m w cs) refl })
