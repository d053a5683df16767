-- The answers of a list of commands, one after the other, in their area. Assumes nothing.
use mathlib.Core.Bool.{Bool, true, false}
use mathlib.Core.List.{List, [], ◌∷◌, ◌++◌}
use mathlib.Core.Path.{◌≡◌, refl, sym, ap, ◌∙◌, subst}
use Prim.Native.Nat.{ℕ, suc, ◌+◌, ◌*◌, ◌<◌}
use native.Mathlib.Nat.{zero-add}
use native.Mathlib.Numerals.{add-one}
use native.Mathlib.Omega.{arith}
use lib.ListN.{length, get_or, take}
use lib.Seq.{take_all, take-suc, length-take-le}
use Rattle.laws.specs.Tabulate.{tabulate, get_d_tabulate, length_tabulate, tabulate_take}
use Rattle.areas.specs.Records.{Codec, store}
use Rattle.areas.specs.Lists.{over}
use Rattle.areas.proofs.Records.{encode_one, store_append, store_nil, store_over}
use Rattle.rules.specs.Condition3.{run}
use Rattle.rules.specs.DayFile.{command_from, command_width}
use Rattle.rules.specs.Memory.{Memory, respond, well_formed_memory}
use Rattle.rules.specs.declared.Answer.{Answer}
use Rattle.rules.specs.declared.Command.{Command}
use Rattle.rules.specs.declared.Command.TheVariants.{Malformed}
use Rattle.accounting.proofs.Runs.{run_last, run_stays}
use Rattle.invariants.proofs.MemoryKeeps.{run_keeps}
use Rattle.exchange.specs.Run.{first_commands}
use Rattle.baskets.specs.Bundle.{answer_words, answer_from, answers_to, answer_stride}

pub answer_codec : Codec Answer answer_stride answer_words answer_from
unfolding tabulate
answer_codec = record { wide = λ a. refl; back = λ a ys. refl; forth = λ xs h. tabulate_take answer_stride xs 0 h }

-- the four words of an answer
pub stored_answer : (area : List ℕ) (at : ℕ) (a : Answer) → over area at (answer_words a) ≡ store answer_words area at (a ∷ [])
stored_answer area at a = sym (store_over answer_codec area at (a ∷ []) ∙ ap (over area at) (encode_one answer_codec a))

-- an answer that is another
pub put_as : (area : List ℕ) (at : ℕ) {a b : Answer} {after : List ℕ} → a ≡ b → after ≡ store answer_words area at (a ∷ []) → after ≡ store answer_words area at (b ∷ [])
put_as area at e put = put ∙ ap (λ (v : Answer). store answer_words area at (v ∷ [])) e

length_answers : (m : Memory) (cs : List Command) → length (answers_to m cs) ≡ length cs
unfolding answers_to
length_answers m [] = refl
length_answers m (c ∷ cs) = ap suc (length_answers (respond m c).memory cs)

answers_last : (m : Memory) (cs : List Command) (c : Command) → answers_to m (cs ++ (c ∷ [])) ≡ answers_to m cs ++ ((respond (run m cs) c).answer ∷ [])
unfolding answers_to run
answers_last m [] c = refl
answers_last m (q ∷ cs) c = ap (λ (l : List Answer). (respond m q).answer ∷ l) (answers_last (respond m q).memory cs c)

-- what is known of a state, whether it is well formed, is known of the one that a list leaves
formed_after : (m : Memory) (cs : List Command) (t : Bool) → t ≡ well_formed_memory m → t ≡ well_formed_memory (run m cs)
formed_after m cs true e = sym (run_keeps m cs (sym e))
formed_after m cs false e = e ∙ ap well_formed_memory (sym (run_stays m (sym e) cs))

-- the first k commands of a list, and one more
module _ (m : Memory) (cs : List Command) where
  none_ran : m ≡ run m (take 0 cs)
  unfolding run
  none_ran = refl

  longer : (k : ℕ) → k < length cs → take (k + 1) cs ≡ take k cs ++ (get_or cs k Malformed ∷ [])
  longer k h = rw (add-one k) (take-suc cs k Malformed h)

  one_ran : (k : ℕ) {c : Command} → k < length cs → get_or cs k Malformed ≡ c → {m' m'' : Memory} → m' ≡ run m (take k cs) → m'' ≡ (respond m' c).memory
      → m'' ≡ run m (take (k + 1) cs)
  one_ran k {c} h same e f = f ∙ ap (λ (v : Memory). (respond v c).memory) e ∙ sym (rw (longer k h, same, run_last m (take k cs) c))

module _ (m : Memory) (cs : List Command) (area : List ℕ) where
  -- the area with the first k answers
  unfoldable pub answered : ℕ → List ℕ
  answered k = store answer_words area 0 (answers_to m (take k cs))

  none_answered : area ≡ answered 0
  unfolding answered answers_to
  none_answered = sym (store_nil answer_codec area 0)

  -- one more, on the state that the first k left
  one_answered : (k : ℕ) {c : Command} → k < length cs → get_or cs k Malformed ≡ c → {m' : Memory} {now after : List ℕ} → m' ≡ run m (take k cs)
      → now ≡ answered k → after ≡ store answer_words now (answer_stride * k) ((respond m' c).answer ∷ []) → after ≡ answered (k + 1)
  unfolding answered
  one_answered k {c} h same {m'} {now} {after} e before put =
      let first : List Command = take k cs in
      let a : Answer = (respond m' c).answer in
      let long : length (answers_to m first) ≡ k = length_answers m first ∙ length-take-le k cs (omega arith) in
      let last : answers_to m (first ++ (c ∷ [])) ≡ answers_to m first ++ (a ∷ []) =
      answers_last m first c ∙ ap (λ (v : Memory). answers_to m first ++ ((respond v c).answer ∷ [])) (sym e) in
      put
      ∙ ap (λ (l : List ℕ). store answer_words l (answer_stride * k) (a ∷ [])) before
      ∙ ap (λ (n : ℕ). store answer_words (store answer_words area 0 (answers_to m first)) n (a ∷ [])) (sym (zero-add (answer_stride * length (answers_to m first)) ∙ ap (λ (n : ℕ). answer_stride * n) long))
      ∙ sym (store_append answer_codec area 0 (answers_to m first) (a ∷ []) (omega arith))
      ∙ rw (longer m cs k h, same, last) refl

-- ---- the loop over a list: what it has come to at command k

-- the memory is the run of the first k commands, and the area has their answers
pub record AnsweredTo (m : Memory) (cs : List Command) (area : List ℕ) (k : ℕ) (m' : Memory) (now : List ℕ) : Type 0 where
  pub ran : m' ≡ run m (take k cs)
  pub told : now ≡ answered m cs area k

pub answering_none : (m : Memory) (cs : List Command) (area : List ℕ) → AnsweredTo m cs area 0 m area
answering_none m cs area = record { ran = none_ran m cs; told = none_answered m cs area }

module _ {m : Memory} {cs : List Command} {area : List ℕ} {k : ℕ} {m' : Memory} {now : List ℕ} (w : AnsweredTo m cs area k m' now) where
  pub still_known : (t : Bool) → t ≡ well_formed_memory m → t ≡ well_formed_memory m'
  still_known t e = formed_after m (take k cs) t e ∙ ap well_formed_memory (sym w.ran)

  -- one more command is answered
  pub answering_more : k < length cs → {c : Command} → get_or cs k Malformed ≡ c → {m'' : Memory} {after : List ℕ} → m'' ≡ (respond m' c).memory
      → after ≡ store answer_words now (answer_stride * k) ((respond m' c).answer ∷ []) → AnsweredTo m cs area (k + 1) m'' after
  answering_more l same ran put =
      record { ran = one_ran m cs k l same w.ran ran; told = one_answered m cs area k l same w.ran w.told put }

  -- all n are
  pub answering_done : {n : ℕ} → k ≡ n → (m' ≡ run m (take n cs)) × (now ≡ store answer_words area 0 (answers_to m (take n cs)))
  unfolding answered
  answering_done e = (
    subst (λ (k : ℕ). m' ≡ run m (take k cs)) e w.ran,
    subst (λ (k : ℕ). now ≡ store answer_words area 0 (answers_to m (take k cs))) e w.told,
  )

-- the commands of the first n records of a list of bytes
module _ (bytes : List ℕ) (n : ℕ) where
  pub length_first : length (first_commands bytes n) ≡ n
  unfolding first_commands
  length_first = length_tabulate n (λ i. command_from bytes (command_width * i))

  pub command_at : (k : ℕ) → k < n → get_or (first_commands bytes n) k Malformed ≡ command_from bytes (command_width * k)
  unfolding first_commands
  command_at k h = get_d_tabulate n k (λ i. command_from bytes (command_width * i)) Malformed h

  pub take_first : take n (first_commands bytes n) ≡ first_commands bytes n
  take_first = take_all n (first_commands bytes n) (omega (arith, length_first))

  -- all of them
  pub all_first : {m : Memory} {area : List ℕ} {k : ℕ} {m' : Memory} {now : List ℕ} → AnsweredTo m (first_commands bytes n) area k m' now → k ≡ n
      → (m' ≡ run m (first_commands bytes n)) × (now ≡ store answer_words area 0 (answers_to m (first_commands bytes n)))
  all_first {m} {area} {m' = m'} {now = now} w e =
      let all = answering_done w e in (
        subst (λ (l : List Command). m' ≡ run m l) take_first all.0,
        subst (λ (l : List Command). now ≡ store answer_words area 0 (answers_to m l)) take_first all.1,
      )
