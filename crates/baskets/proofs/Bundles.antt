-- What a bundle leaves, refused and carried out; what a list with answers leaves; and a day of calls is the rules' run of the
-- commands that it reads. Assumes nothing.
use mathlib.Core.Bool.{Bool, true, false, not, ◌||◌}
use mathlib.Core.List.{List, [], ◌∷◌}
use mathlib.Core.Path.{◌≡◌, refl, sym, ap, subst, ◌∙◌}
use Prim.Native.Nat.{ℕ, ◌*◌, ◌/◌, ◌≤◌, min}
use native.Mathlib.Omega.{arith}
use borrow.Author.Tests.{eqb-true, ltb-false, ne_eqb, not-false}
use lib.Dec.{eqb, ltb}
use lib.ListN.{length, take, drop, replicate}
use lib.Seq.{take_at}
use Rattle.laws.specs.Choice.{either_false, pick}
use Rattle.laws.specs.Tabulate.{tabulate, length_tabulate}
use Rattle.laws.specs.Written.{overwritten}
use Rattle.areas.specs.Records.{store}
use Rattle.areas.proofs.Records.{store_nil}
use Rattle.rules.specs.Answers.{◌when◌}
use Rattle.rules.specs.Condition3.{MoneyKept, run}
use Rattle.rules.specs.DayFile.{command_from, command_width}
use Rattle.rules.specs.Memory.{Declared, Memory, respond, well_formed_memory}
use Rattle.rules.specs.declared.Command.{Command}
use Rattle.rules.specs.declared.Command.TheVariants.{Malformed}
use Rattle.theory.proofs.Refusals.{failed}
use Rattle.accounting.proofs.Runs.{run_append}
use Rattle.invariants.proofs.Condition3.{money_left}
use Rattle.exchange.specs.Run.{first_commands, whole_commands}
use Rattle.baskets.specs.Answered.{AnsweredIs, played_commands, played_of}
use Rattle.baskets.specs.Bundle.{BundleIs, answer_words, answers_to, bundle_code, carried, max_bundle, answer_stride}
use Rattle.baskets.specs.Calls.{Call, single, list, bundle, after_calls, commands_read}
use Rattle.baskets.specs.declared.basket.Receipt.{Receipt}
use Rattle.baskets.specs.declared.list.Ran.{Ran}
use Rattle.baskets.proofs.Answering.{answer_codec, take_first}

-- ---- a bundle's code

-- what a bundle is that is not refused
pub record Unrefused (m : Memory) (count words : ℕ) : Type 0 where
  pub formed : well_formed_memory m ≡ true
  pub few : count ≤ max_bundle
  pub room : answer_stride * count ≤ words

pub not_refused : (m : Memory) (count words : ℕ) → bundle_code m count words ≡ 0 → Unrefused m count words
unfolding bundle_code
not_refused m count words e =
    let told = failed ((21 when not (well_formed_memory m)) ∷ (22 when (ltb max_bundle count || ltb words (answer_stride * count))) ∷ []) (omega arith, (omega arith, tt)) e in
    let fits = either_false (ltb max_bundle count) (ltb words (answer_stride * count)) told.1.0 in
    record { formed = not-false (well_formed_memory m) told.0; few = ltb-false max_bundle count fits.0; room = ltb-false words (answer_stride * count) fits.1 }

-- ---- what a bundle leaves

module _ (m : Memory) (d : Declared m.state) (cs : List Command) (count : ℕ) (area : List ℕ) {b : Receipt} where
  pub refused : (code : ℕ) → code ≡ bundle_code m count (length area) → (code ≡ 0 → ⊥) → b.code ≡ code → BundleIs m cs count area b m area
  unfolding run answers_to carried
  refused code e some f =
      let done : List Command = carried m cs count (length area) in
      let none : done ≡ [] = rw (← e, ne_eqb code 0 some) in
      let same : m ≡ run m done = rw none refl in
      record {
        code = f ∙ e;
        memory = same;
        answers_are = rw none (sym (store_nil answer_codec area 0));
        money = money_left m d done m same;
      }

  pub all_carried : {m' : Memory} {answers : List ℕ} → bundle_code m count (length area) ≡ 0 → b.code ≡ 0 → m' ≡ run m (take count cs)
      → answers ≡ store answer_words area 0 (answers_to m (take count cs)) → BundleIs m cs count area b m' answers
  unfolding carried
  all_carried {m'} e f ran told =
      let done : List Command = carried m cs count (length area) in
      let all : done ≡ take count cs = rw e refl in
      let left : m' ≡ run m done = rw all ran in
      record { code = f ∙ sym e; memory = left; answers_are = rw all told; money = money_left m d done m' left }

-- the commands that a bundle carries out are the first of those given, and of none where they are more than a bundle has
same_carried : (m : Memory) (cs ds : List Command) (count words : ℕ) → (count ≤ max_bundle → take count cs ≡ take count ds) → carried m cs count words ≡ carried m ds count words
unfolding carried
same_carried m cs ds count words same = by_code (eqb (bundle_code m count words) 0) refl
  where
    by_code : (t : Bool) → eqb (bundle_code m count words) 0 ≡ t → pick t (take count cs) [] ≡ pick t (take count ds) []
    by_code true e = same (not_refused m count words (eqb-true (bundle_code m count words) 0 e)).few
    by_code false e = refl

-- so a list that begins with the same commands makes the same bundle
pub same_bundle : (m : Memory) (cs ds : List Command) (count : ℕ) (area : List ℕ) {b : Receipt} {m' : Memory} {answers : List ℕ}
    → (count ≤ max_bundle → take count cs ≡ take count ds) → BundleIs m cs count area b m' answers → BundleIs m ds count area b m' answers
same_bundle m cs ds count area {b} {m'} {answers} same is =
    let e = same_carried m cs ds count (length area) same in
    record {
      code = is.code;
      memory = subst (λ (l : List Command). m' ≡ run m l) e is.memory;
      answers_are = subst (λ (l : List Command). answers ≡ store answer_words area 0 (answers_to m l)) e is.answers_are;
      money = subst (λ (l : List Command). MoneyKept m l m') e is.money;
    }

-- the commands of a bundle's bytes, read into an array
pub read_bundle : (bytes : List ℕ) {array : List Command} {count n : ℕ} → n ≡ min count max_bundle
    → array ≡ overwritten (λ i. command_from bytes (command_width * i)) (replicate max_bundle Malformed) n → count ≡ length bytes / command_width
    → count ≤ max_bundle → take count array ≡ take count (whole_commands bytes)
unfolding overwritten first_commands
read_bundle bytes {array} {count} {n} fewer read whole h =
    let e : n ≡ count = omega arith in
    let f : ℕ → Command = λ i. command_from bytes (command_width * i) in
    ap (take count) (read ∙ ap (λ (k : ℕ). overwritten f (replicate max_bundle Malformed) k) e)
    ∙ take_at (tabulate count f) (drop count (replicate max_bundle Malformed)) count (length_tabulate count f)
    ∙ sym (take_first bytes count)
    ∙ ap (λ (k : ℕ). take count (first_commands bytes k)) whole

-- ---- what a list with answers leaves

pub list_answered : (m : Memory) (d : Declared m.state) (bytes area : List ℕ) {n : ℕ} {r : Ran} {m' : Memory} {answers : List ℕ}
    → n ≡ min (length bytes / command_width) (length area / answer_stride) → r.played ≡ n → m' ≡ run m (first_commands bytes n)
    → answers ≡ store answer_words area 0 (answers_to m (first_commands bytes n)) → AnsweredIs m bytes area r m' answers
unfolding played_of
list_answered m d bytes area {m' = m'} {answers = answers} e f ran told =
    let left : m' ≡ run m (played_commands bytes area) = subst (λ (k : ℕ). m' ≡ run m (first_commands bytes k)) e ran in
    record {
      played = f ∙ e;
      memory = left;
      answers_are = subst (λ (k : ℕ). answers ≡ store answer_words area 0 (answers_to m (first_commands bytes k))) e told;
      money = money_left m d (played_commands bytes area) m' left;
    }

-- ---- a day of calls

pub calls_run : (m : Memory) (calls : List Call) → after_calls m calls ≡ run m (commands_read m calls)
unfolding after_calls commands_read run
calls_run m [] = refl
calls_run m (single c ∷ calls) = calls_run (respond m c).memory calls
calls_run m (list cs ∷ calls) = calls_run (run m cs) calls ∙ sym (run_append m cs (commands_read (run m cs) calls))
calls_run m (bundle cs count words ∷ calls) =
    calls_run (run m (carried m cs count words)) calls ∙ sym (run_append m (carried m cs count words) (commands_read (run m (carried m cs count words)) calls))

-- CONDITION 3 HOLDS OF A DAY OF SINGLE COMMANDS, LISTS AND BUNDLES
pub money_is_kept_by_calls : (m : Memory) → Declared m.state → (calls : List Call) → MoneyKept m (commands_read m calls) (after_calls m calls)
money_is_kept_by_calls m d calls = money_left m d (commands_read m calls) (after_calls m calls) (calls_run m calls)
