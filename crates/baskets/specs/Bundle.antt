-- Ticket 1 of document 02: a bundle of commands in one call. Assumes nothing.
use Rattle.std.specs.Prelude.{not, ◌||◌, List, [], ◌∷◌, ◌≡◌, ℕ, ◌*◌, eqb, ltb, length, get_or, take}
use Rattle.laws.specs.Choice.{pick}
use Rattle.areas.specs.Records.{store}
use Rattle.rules.specs.Answers.{first_of, ◌when◌}
use Rattle.rules.specs.Condition3.{MoneyKept, run}
use Rattle.rules.specs.Memory.{Memory, respond, well_formed_memory}
use Rattle.rules.specs.declared.Answer.{Answer}
use Rattle.rules.specs.declared.Command.{Command}
use Rattle.baskets.specs.declared.basket.Receipt.{Receipt}

-- "Take up to 100 commands in one call"
abbrev pub max_bundle : ℕ
max_bundle = 100

-- ".. with an area for as many answers": four words each
abbrev pub answer_stride : ℕ
answer_stride = 4

abbrev pub answer_words : Answer → List ℕ
answer_words a = a.code ∷ a.number ∷ a.traded ∷ a.lots ∷ []

abbrev pub answer_from : List ℕ → Answer
answer_from ws = record { code = get_or ws 0 0; number = get_or ws 1 0; traded = get_or ws 2 0; lots = get_or ws 3 0 }

-- "answers must equal those of the commands given singly, in order; a refused one doesn't stop the rest"
unfoldable pub answers_to : Memory → List Command → List Answer
answers_to m [] = []
answers_to m (c ∷ cs) = (respond m c).answer ∷ answers_to (respond m c).memory cs

-- "Refusals, for the whole bundle ..: 21, then 22 if it is over 100 or the answer area is shorter." The bundle has `count`
-- commands and the area `words` words.
unfoldable pub bundle_code : Memory → ℕ → ℕ → ℕ
bundle_code m count words =
    first_of
    ((21 when not (well_formed_memory m))
    ∷ (22 when (ltb max_bundle count || ltb words (answer_stride * count)))
    ∷ [])

-- "nothing carried out or written": the commands that a bundle carries out are the first `count` of those given, or none where it
-- is refused
unfoldable pub carried : Memory → List Command → ℕ → ℕ → List Command
carried m cs count words = pick (eqb (bundle_code m count words) 0) (take count cs) []

-- The code, the state and its areas, and the answer area, whose "places beyond the commands' count stay". And condition 3
-- holds of the commands carried out: it "reads the commands of a bundle one after the other, and a refused bundle as none."
pub record BundleIs (m : Memory) (cs : List Command) (count : ℕ) (area : List ℕ) (b : Receipt) (m' : Memory) (answers : List ℕ) : Type 0 where
  pub code : b.code ≡ bundle_code m count (length area)
  pub memory : m' ≡ run m (carried m cs count (length area))
  pub answers_are : answers ≡ store answer_words area 0 (answers_to m (carried m cs count (length area)))
  pub money : MoneyKept m (carried m cs count (length area)) m'
