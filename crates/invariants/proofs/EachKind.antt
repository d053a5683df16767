-- WHAT EACH KIND OWES, one clause a kind, and what then holds of every command: it KEEPS A WELL-FORMED STATE WELL FORMED, and its counts in
-- range; ORDER NUMBERS STAY, AND TIME STAMPS ARE NEVER GIVEN TWICE IN A DAY (document 02, ticket 8); what becomes of the orders of an
-- account that it does not name; NO COMMAND CHANGES A MAKER MARK (ticket 7); IT RECORDS THE TRADES THAT IT MAKES; WHAT IS CHARGED and WHICH
-- BALANCES ARE READ (specs/Accounts). The laws that the clauses cite name no kind. Assumes nothing.
use Rattle.laws.specs.Logic.{Bool, true, false, true≢false, false≢true, List, [], ◌∷◌, ◌++◌, append-nil, ◌≡◌, refl, sym, ap, ◌∙◌}
use Rattle.laws.specs.Numbers.{ℕ, ◌+◌, ◌<◌, ◌≤◌, le_refl, arith, eqb-false, ne_eqb, not-true, eqb, length}
use Rattle.laws.specs.Choice.{both_true, by_test}
use Rattle.rules.specs.Auction.{match_of}
use Rattle.rules.specs.Change.{asked}
use Rattle.rules.specs.Command.{Field, unused, holds, account_field, is_change, is_settle}
use Rattle.rules.specs.Condition3.{made_by}
use Rattle.rules.specs.Exchange.{Exchange, account_at, listing_at, listing_named, place_of}
use Rattle.rules.specs.Kinds.{kind_of, code_of, decide, last_of, step}
use Rattle.rules.specs.Quote.{offered, quoted, with_buy, with_sell, without_quote}
use Rattle.rules.specs.Settlement.{settled}
use Rattle.rules.specs.Step.{Effect, deposited, withdrawn, entered_of, exchange_after, exchange_matched, has_number, inserted, is_of, paid, removed, cancelled, pulled, phase_changed, settled_all}
use Rattle.rules.specs.Touches.{names}
use Rattle.rules.specs.WellFormed.{well_formed_contents}
use Rattle.rules.specs.declared.Command.{Command}
use Rattle.rules.specs.declared.Command.TheVariants.{Malformed, Deposit, Withdraw, Insert, Cancel, Pull, Phase, Settle, Quote, Change}
use Rattle.theory.proofs.EachKind.{settle_is}
use Rattle.theory.proofs.Holdings.{booked_maker}
use Rattle.theory.proofs.Stages.{Each, each_last, decided}
use Rattle.theory.proofs.Touches.{account_at_lem, contract_there, is_at, not_its}
use Rattle.accounting.specs.Shape.{Shaped}
use Rattle.invariants.specs.GivenNumbers.{NumbersForLife, numbers_given, numbers_taken, up_from}
use Rattle.invariants.specs.Accounts.{WithinBalance, enters_open, is_from}
use Rattle.invariants.proofs.ChangeKeeps.{change_keeps, change_counted}
use Rattle.invariants.proofs.Clauses.{WellFormed, Counted, Sound, well_formed, well_formed_test}
use Rattle.invariants.proofs.ForLife.{Lives, changed_lives, changed_next, match_lives, new_lives, of_lives, quoted_lives, same_lives, without_lives}
use Rattle.invariants.proofs.Insert.{insert_keeps, insert_counted}
use Rattle.invariants.proofs.Makers.{Stays, paid_stays, settled_stays, changed_stays, quoted_stays}
use Rattle.invariants.proofs.MarginWithin.{Keeps, change_opened, change_within, deposit_within, insert_within, phase_within, quote_within, removal_keeps, withdrawal_keeps}
use Rattle.invariants.proofs.OthersOrders.{Fated, cancel_spares, changed_fated, entered_fated, matched_fated, paid_fated, quoted_fated, removed_fated, same_fated, spared}
use Rattle.invariants.proofs.Payments.{deposit_keeps, withdraw_keeps, deposit_counted, withdraw_counted}
use Rattle.invariants.proofs.Phases.{phase_keeps, phase_counted}
use Rattle.invariants.proofs.QuoteKeeps.{quote_keeps, quote_counted}
use Rattle.invariants.proofs.Recorded.{changed_records, quoted_records}
use Rattle.invariants.proofs.Removal.{cancel_keeps, pull_keeps, cancel_counted, pull_counted, cancel_there, pull_there}
use Rattle.invariants.proofs.SeenBalances.{SameSeen, change_refusals_lem, change_same, quote_answer, quote_left_lem, quote_refusals_lem, same_cancel, same_deposit, same_insert, same_phase, same_pull, same_settle, same_withdraw, state_twice}
use Rattle.invariants.proofs.Settle.{settle_keeps, settle_counted}
use Rattle.invariants.proofs.Stamps.{◌stamped◌, Alike, Stamped, Follow, Onward, StampsAsNumbers, change_onward, entered_stamped, insert_onward, match_follow, quote_onward, same_follow, settled_stamped, without_follow}

-- ---- well formed, and the counts in range

-- WHAT AN ACCEPTED COMMAND OWES: the last of its stages is well formed
pub kind_keeps : (x : Exchange) (command : Command) → Sound x → code_of x command ≡ 0 → WellFormed (last_of x (kind_of x command).effect.stages)
unfolding code_of kind_of
kind_keeps x Malformed k e = k.contents
kind_keeps x (Deposit account amount) k e = deposit_keeps x k.contents account amount e
kind_keeps x (Withdraw account amount) k e = withdraw_keeps x k.contents account amount e
kind_keeps x (Insert o) k e = insert_keeps x o e k.contents
kind_keeps x (Cancel account contract operator number) k e = cancel_keeps x account contract operator number e k.contents
kind_keeps x (Pull account contract operator) k e = pull_keeps x account contract operator e k.contents
kind_keeps x (Phase contract phase) k e = phase_keeps x contract phase e k.contents
kind_keeps x Settle k e = settle_keeps x e k.contents k.counts
kind_keeps x (Quote account contract lots buy sell) k e = quote_keeps x k.contents (offered account contract lots buy sell) e
kind_keeps x (Change account contract number lots price) k e = change_keeps x k.contents (asked account contract number lots price) e k.counts

-- .. and each of them has its counts in range, so that it can be written
pub kind_counted : (x : Exchange) (command : Command) → Sound x → code_of x command ≡ 0 → Each Counted (kind_of x command).effect.stages
unfolding code_of kind_of deposited withdrawn inserted cancelled pulled removed phase_changed settled_all
kind_counted x Malformed k e = tt
kind_counted x (Deposit account amount) k e = (deposit_counted x account amount k.counts, tt)
kind_counted x (Withdraw account amount) k e = (withdraw_counted x account amount k.counts, tt)
kind_counted x (Insert o) k e = (insert_counted x o e k.contents k.counts, tt)
kind_counted x (Cancel account contract operator number) k e = (cancel_counted x account contract operator number e k.counts, tt)
kind_counted x (Pull account contract operator) k e = (pull_counted x account contract operator e k.counts, tt)
kind_counted x (Phase contract phase) k e = (phase_counted x contract phase e k.contents k.counts, tt)
kind_counted x Settle k e = (settle_counted x e k.contents k.counts, tt)
kind_counted x (Quote account contract lots buy sell) k e = quote_counted x k.contents (offered account contract lots buy sell) e k.counts
kind_counted x (Change account contract number lots price) k e = change_counted x k.contents (asked account contract number lots price) e k.counts

-- any command: a refusal changes nothing
pub step_keeps : (x : Exchange) (command : Command) → Sound x → Sound (step x command)
unfolding step
step_keeps x command k =
    decided (λ d. Sound (last_of x d.stages)) x command
    (λ e. record {
      contents = kind_keeps x command k e;
      counts = each_last Counted x (kind_of x command).effect.stages k.counts (kind_counted x command k e);
    })
    (λ e. k)

-- the same of the test. The counts stand beside it because it does not speak of them: of a state with a thousand contracts one
-- settlement could pass the bound of a balance.
module _ (x : Exchange) (command : Command) (counts : Counted x) (w : well_formed_contents x ≡ true) where
  pub keeps : well_formed_contents (step x command) ≡ true
  keeps = well_formed_test (step x command) (step_keeps x command (record { contents = well_formed x w; counts = counts })).contents

-- ---- order numbers and time stamps

-- the numbers and time stamps of the orders that a command enters
abbrev pub enters : Exchange → Command → List Stamped
enters x Malformed = []
enters x (Deposit account amount) = []
enters x (Withdraw account amount) = []
enters x (Insert o) = (x.next stamped x.nextstamp) ∷ []
enters x (Cancel account contract operator number) = []
enters x (Pull account contract operator) = []
enters x (Phase contract phase) = []
enters x Settle = []
enters x (Quote account contract lots buy sell) = (x.next stamped x.nextstamp) ∷ (x.next + 1 stamped x.nextstamp + 1) ∷ []
enters x (Change account contract number lots price) = (number stamped x.nextstamp) ∷ []

-- within a day every order that rests did so before or is one of these, and the next time stamp does not fall
kind_onward : (x : Exchange) (command : Command) → is_settle command ≡ false → Onward x (enters x command) (last_of x (kind_of x command).effect.stages)
unfolding kind_of deposited withdrawn inserted cancelled pulled removed phase_changed paid exchange_matched listing_at
kind_onward x Malformed n = (same_follow x [], le_refl x.nextstamp)
kind_onward x (Deposit account amount) n = (same_follow x [], le_refl x.nextstamp)
kind_onward x (Withdraw account amount) n = (same_follow x [], le_refl x.nextstamp)
kind_onward x (Insert o) n = insert_onward x o
kind_onward x (Cancel account contract operator number) n = (without_follow x [] (place_of contract) (has_number number), le_refl x.nextstamp)
kind_onward x (Pull account contract operator) n = (without_follow x [] (place_of contract) (is_of (place_of account)), le_refl x.nextstamp)
kind_onward x (Phase contract phase) n = (match_follow x [] (place_of contract) phase, le_refl x.nextstamp)
kind_onward x Settle n = absurd (true≢false n)
kind_onward x (Quote account contract lots buy sell) n = quote_onward x (offered account contract lots buy sell)
kind_onward x (Change account contract number lots price) n = change_onward x (asked account contract number lots price)

-- NUMBERS STAY: every order resting after a command but a settlement rested before, with its number and its time stamp, or was entered
-- by it, with the number and the time stamp of `enters`: an insert's with the next of both, a changed one with the number that it had,
-- a quote's two with the next two of both
pub numbers_stay : (x : Exchange) (command : Command) → is_settle command ≡ false → Follow x (enters x command) (step x command)
unfolding step
numbers_stay x command n =
    decided (λ d. Follow x (enters x command) (last_of x d.stages)) x command (λ e. (kind_onward x command n).0) (λ e. same_follow x (enters x command))

-- .. and the next time stamp never falls within a day, so that none is given twice
pub stamps_rise : (x : Exchange) (command : Command) → is_settle command ≡ false → x.nextstamp ≤ (step x command).nextstamp
unfolding step
stamps_rise x command n =
    decided (λ d. x.nextstamp ≤ (last_of x d.stages).nextstamp) x command (λ e. (kind_onward x command n).1) (λ e. le_refl x.nextstamp)

-- where the next time stamp is the next order number it stays so under every kind but a change, and an order enters with one number for both
kind_alike : (x : Exchange) (command : Command) → is_change command ≡ false → x.nextstamp ≡ x.next →
    ((last_of x (kind_of x command).effect.stages).nextstamp ≡ (last_of x (kind_of x command).effect.stages).next) × Alike (enters x command)
unfolding kind_of deposited withdrawn inserted cancelled pulled removed phase_changed settled_all settled paid exchange_after exchange_matched quoted with_sell with_buy without_quote
kind_alike x Malformed n e = (e, tt)
kind_alike x (Deposit account amount) n e = (e, tt)
kind_alike x (Withdraw account amount) n e = (e, tt)
kind_alike x (Insert o) n e = (ap (λ (i : ℕ). i + 1) e, (e, tt))
kind_alike x (Cancel account contract operator number) n e = (e, tt)
kind_alike x (Pull account contract operator) n e = (e, tt)
kind_alike x (Phase contract phase) n e = (e, tt)
kind_alike x Settle n e = (refl, tt)
kind_alike x (Quote account contract lots buy sell) n e = (ap (λ (i : ℕ). i + 1 + 1) e, (e, (ap (λ (i : ℕ). i + 1) e, tt)))
kind_alike x (Change account contract number lots price) n e = absurd (true≢false n)

kind_stamped : (x : Exchange) (command : Command) → is_change command ≡ false → StampsAsNumbers x → StampsAsNumbers (last_of x (kind_of x command).effect.stages)
unfolding kind_of settled_all
kind_stamped x command n h =
    by_test (is_settle command) (λ s. rw (settle_is command s) (settled_stamped x))
    (λ s. entered_stamped x _ h (enters x command) (kind_alike x command n h.next) (kind_onward x command s).0)

-- EVERY COMMAND BUT A CHANGE LEAVES TIME STAMPS AS NUMBERS
pub stamps_as_numbers : (x : Exchange) (command : Command) → is_change command ≡ false → StampsAsNumbers x → StampsAsNumbers (step x command)
unfolding step
stamps_as_numbers x command n h = decided (λ d. StampsAsNumbers (last_of x d.stages)) x command (λ e. kind_stamped x command n h) (λ e. h)

-- ---- numbers and time stamps for life, and given once

module _ (x : Exchange) (w : WellFormed x) where
  -- each order that rests after a command rested before, or has a new number
  kind_lives : (command : Command) → is_settle command ≡ false → code_of x command ≡ 0 → Lives x (last_of x (kind_of x command).effect.stages)
  unfolding code_of kind_of deposited withdrawn inserted cancelled pulled removed phase_changed paid listing_at
  kind_lives Malformed n e = same_lives x
  kind_lives (Deposit account amount) n e = same_lives x
  kind_lives (Withdraw account amount) n e = same_lives x
  kind_lives (Insert o) n e = new_lives x x (same_lives x) x.next 0 o (le_refl x.next) (le_refl x.nextstamp) (x.next + 1)
  kind_lives (Cancel account contract operator number) n e = without_lives x (place_of contract) (has_number number)
  kind_lives (Pull account contract operator) n e = without_lives x (place_of contract) (is_of (place_of account))
  kind_lives (Phase contract phase) n e = match_lives x (place_of contract) phase
  kind_lives Settle n e = absurd (true≢false n)
  kind_lives (Quote account contract lots buy sell) n e = quoted_lives x (offered account contract lots buy sell)
  kind_lives (Change account contract number lots price) n e = changed_lives x w (asked account contract number lots price) e

-- an accepted command's numbers are the next ones, and the next number rises by as many
abbrev Takes : Exchange → Command → Effect → Type 0
Takes x command e = (up_from e.number (numbers_taken command) ≡ up_from x.next (numbers_taken command)) × ((last_of x e.stages).next ≡ x.next + numbers_taken command)

kind_takes : (x : Exchange) (command : Command) → is_settle command ≡ false → Takes x command (kind_of x command).effect
unfolding kind_of deposited withdrawn inserted cancelled pulled removed phase_changed paid exchange_after exchange_matched quoted with_sell with_buy without_quote up_from
kind_takes x Malformed n = (refl, omega arith)
kind_takes x (Deposit account amount) n = (refl, omega arith)
kind_takes x (Withdraw account amount) n = (refl, omega arith)
kind_takes x (Insert o) n = (refl, refl)
kind_takes x (Cancel account contract operator number) n = (refl, omega arith)
kind_takes x (Pull account contract operator) n = (refl, omega arith)
kind_takes x (Phase contract phase) n = (refl, omega arith)
kind_takes x Settle n = absurd (true≢false n)
kind_takes x (Quote account contract lots buy sell) n = (refl, omega arith)
kind_takes x (Change account contract number lots price) n = (refl, changed_next x (asked account contract number lots price) ∙ (let e : x.next ≡ x.next + 0 = omega arith in e))

pub step_lives : (x : Exchange) → WellFormed x → (command : Command) → is_settle command ≡ false → NumbersForLife x (step x command)
unfolding step
step_lives x w command n =
    of_lives x (step x command)
    (decided (λ d. x.next ≤ (last_of x d.stages).next) x command (λ e. omega (arith, (kind_takes x command n).1)) (λ e. le_refl x.next))
    (stamps_rise x command n)
    (decided (λ d. Lives x (last_of x d.stages)) x command (kind_lives x w command n) (λ e. same_lives x))

-- what an answer gives begins with the next number, and the next number after it is beyond
pub step_given : (x : Exchange) (command : Command) → is_settle command ≡ false → (k : ℕ) × (numbers_given command (decide x command).answer ≡ up_from x.next k) × ((step x command).next ≡ x.next + k)
unfolding step
step_given x command n =
    decided (λ d. (k : ℕ) × (numbers_given command d.answer ≡ up_from x.next k) × ((last_of x d.stages).next ≡ x.next + k)) x command
    (λ e. let t = kind_takes x command n in (numbers_taken command, t.0, t.1))
    (λ e. (0, rw (ne_eqb (code_of x command) 0 e) (unfold up_from in refl), omega arith))

-- ---- the orders of an account that a command does not name

module _ (x : Exchange) (w : WellFormed x) (a : ℕ) where
  other_place : (account : ℕ) → eqb a (place_of account) ≡ false → eqb (place_of account) a ≡ false
  other_place account n = ne_eqb (place_of account) a (λ e. eqb-false a (place_of account) n (sym e))

  kind_fated : (command : Command) → is_settle command ≡ false → is_at (account_field command) a ≡ false → code_of x command ≡ 0 →
      Fated a x (last_of x (kind_of x command).effect.stages)
  unfolding code_of kind_of deposited withdrawn inserted cancelled pulled removed phase_changed
  kind_fated Malformed n f e = same_fated a x
  kind_fated (Deposit account amount) n f e = paid_fated a x _ _
  kind_fated (Withdraw account amount) n f e = paid_fated a x _ _
  kind_fated (Insert o) n f e = entered_fated a x w o x.next 0 (contract_there x (Insert o) o.contract refl e) (other_place o.account f) (x.next + 1)
  kind_fated (Cancel account contract operator number) n f e =
      removed_fated a x (place_of contract) (has_number number) (contract_there x (Cancel account contract operator number) contract refl e)
      (cancel_spares a x w account contract operator number e (other_place account f))
  kind_fated (Pull account contract operator) n f e =
      removed_fated a x (place_of contract) (is_of (place_of account)) (contract_there x (Pull account contract operator) contract refl e)
      (spared a (is_of (place_of account)) (not_its x account contract operator a f) (listing_named x contract))
  kind_fated (Phase contract phase) n f e = matched_fated a x (place_of contract) (contract_there x (Phase contract phase) contract refl e) phase
  kind_fated Settle n f e = absurd (true≢false n)
  kind_fated (Quote account contract lots buy sell) n f e = quoted_fated a x w (offered account contract lots buy sell) e (other_place account f)
  kind_fated (Change account contract number lots price) n f e = changed_fated a x w (asked account contract number lots price) e (other_place account f)

  pub step_fated : (command : Command) → is_settle command ≡ false → names (account_field command) a ≡ false → Fated a x (step x command)
  unfolding step
  step_fated command n f =
      decided (λ d. Fated a x (last_of x d.stages)) x command (λ e. kind_fated command n (account_at_lem x command a f e) e) (λ e. same_fated a x)

-- ---- maker marks

module _ (x : Exchange) (a : ℕ) (there : a < length x.accounts) where
  kind_stays : (command : Command) → Stays x a (last_of x (kind_of x command).effect.stages)
  unfolding kind_of deposited withdrawn inserted cancelled pulled removed phase_changed settled_all exchange_after exchange_matched
  kind_stays Malformed = refl
  kind_stays (Deposit account amount) = paid_stays x a _ _
  kind_stays (Withdraw account amount) = paid_stays x a _ _
  kind_stays (Insert o) = booked_maker x.accounts (entered_of x x.next 0 o).trades a
  kind_stays (Cancel account contract operator number) = refl
  kind_stays (Pull account contract operator) = refl
  kind_stays (Phase contract phase) = booked_maker x.accounts (match_of x (place_of contract)).trades a
  kind_stays Settle = settled_stays x a there
  kind_stays (Quote account contract lots buy sell) = quoted_stays x a (offered account contract lots buy sell)
  kind_stays (Change account contract number lots price) = changed_stays x a (asked account contract number lots price)

  pub makers_stay : (command : Command) → (account_at (step x command).accounts a).maker ≡ (account_at x.accounts a).maker
  unfolding step
  makers_stay command = decided (λ d. Stays x a (last_of x d.stages)) x command (λ e. kind_stays command) (λ e. refl)

-- ---- recorded trades

module _ (x : Exchange) where
  kind_records : (command : Command) → is_settle command ≡ false → (last_of x (kind_of x command).effect.stages).trades ≡ x.trades ++ made_by (kind_of x command).moves
  unfolding kind_of made_by deposited withdrawn paid inserted exchange_after cancelled pulled removed phase_changed exchange_matched
  kind_records Malformed n = sym (append-nil x.trades)
  kind_records (Deposit account amount) n = sym (append-nil x.trades)
  kind_records (Withdraw account amount) n = sym (append-nil x.trades)
  kind_records (Insert o) n = refl
  kind_records (Cancel account contract operator number) n = sym (append-nil x.trades)
  kind_records (Pull account contract operator) n = sym (append-nil x.trades)
  kind_records (Phase contract phase) n = refl
  kind_records Settle n = absurd (true≢false n)
  kind_records (Quote account contract lots buy sell) n = quoted_records x (offered account contract lots buy sell)
  kind_records (Change account contract number lots price) n = changed_records x (asked account contract number lots price)

  -- WHAT AN ACCEPTED COMMAND RECORDS are the trades that its kind makes
  pub trades_recorded : (command : Command) → code_of x command ≡ 0 → is_settle command ≡ false → (step x command).trades ≡ x.trades ++ made_by (kind_of x command).moves
  unfolding step
  trades_recorded command e n =
      decided (λ d. (last_of x d.stages).trades ≡ x.trades ++ made_by (kind_of x command).moves) x command (λ q. kind_records command n) (λ r. absurd (r e))

-- ---- charged margin

-- what an accepted command leaves
abbrev pub left_by : Exchange → Command → Exchange
left_by x command = last_of x (kind_of x command).effect.stages

module _ (x : Exchange) (k : Sound x) (shaped : Shaped x) where
  -- AN ACCEPTED OPEN'S ACCOUNT is charged within its balance: the account, by the place that its number has
  abbrev pub Opened : Command → Field → Type 0
  Opened command unused = Unit {0}
  Opened command (holds account) = WithinBalance (left_by x command) (place_of account)

  pub kind_opened : (command : Command) → code_of x command ≡ 0 → enters_open x command ≡ true → Opened command (account_field command)
  unfolding code_of kind_of
  kind_opened Malformed e o = absurd (false≢true o)
  kind_opened (Deposit account amount) e o = absurd (false≢true o)
  kind_opened (Withdraw account amount) e o = absurd (false≢true o)
  kind_opened (Insert order) e o = (insert_within x k.contents shaped order e).0 (not-true order.close o)
  kind_opened (Cancel account contract operator number) e o = absurd (false≢true o)
  kind_opened (Pull account contract operator) e o = absurd (false≢true o)
  kind_opened (Phase contract phase) e o = absurd (false≢true o)
  kind_opened Settle e o = absurd (false≢true o)
  kind_opened (Quote account contract lots buy sell) e o = (quote_within x k.contents shaped (offered account contract lots buy sell) e).0
  kind_opened (Change account contract number lots price) e o =
      let q = both_true _ _ o in
      change_opened x k.contents shaped (asked account contract number lots price) e k.counts q.0 q.1

  pub kind_within : (command : Command) → code_of x command ≡ 0 → is_settle command ≡ false → (a : ℕ) → a < length x.accounts → Keeps x (left_by x command) a
  unfolding code_of kind_of cancelled pulled
  kind_within Malformed e n a l = λ w. w
  kind_within (Deposit account amount) e n a l = deposit_within x account amount e a
  kind_within (Withdraw account amount) e n a l = withdrawal_keeps x account amount e a
  kind_within (Insert order) e n a l = (insert_within x k.contents shaped order e).1 a l
  kind_within (Cancel account contract operator number) e n a l =
      removal_keeps x (place_of contract) (cancel_there x account contract operator number e) a (has_number number) number
  kind_within (Pull account contract operator) e n a l =
      removal_keeps x (place_of contract) (pull_there x account contract operator e) a (is_of (place_of account)) 0
  kind_within (Phase contract phase) e n a l = phase_within x k.contents contract phase e a l
  kind_within Settle e n a l = absurd (true≢false n)
  kind_within (Quote account contract lots buy sell) e n a l = (quote_within x k.contents shaped (offered account contract lots buy sell) e).1 a l
  kind_within (Change account contract number lots price) e n a l = change_within x k.contents shaped (asked account contract number lots price) e k.counts a l

-- ---- balances that are not seen

module _ (seen : ℕ → Bool) where
  pub same_seen : (x : Exchange) (command : Command) → is_from seen (account_field command) ≡ true → SameSeen seen x command
  unfolding kind_of
  same_seen x Malformed e = record { refusals = refl; answer = refl; left = state_twice seen x }
  same_seen x (Deposit account amount) e = same_deposit seen x account amount e
  same_seen x (Withdraw account amount) e = same_withdraw seen x account amount e
  same_seen x (Insert o) e = same_insert seen x o e
  same_seen x (Cancel account contract operator number) e = same_cancel seen x account contract operator number
  same_seen x (Pull account contract operator) e = same_pull seen x account contract operator
  same_seen x (Phase contract phase) e = same_phase seen x contract phase
  same_seen x Settle e = same_settle seen x
  same_seen x (Quote account contract lots buy sell) e =
      let q = offered account contract lots buy sell in
      record { refusals = quote_refusals_lem seen x q e; answer = quote_answer seen x q e; left = quote_left_lem seen x q e }
  same_seen x (Change account contract number lots price) e =
      let k = asked account contract number lots price in
      record { refusals = change_refusals_lem seen x k e; answer = (change_same seen x k e).0; left = (change_same seen x k e).1 }
