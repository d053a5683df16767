-- Bundles, lists and a day of calls worked out by hand (document 02, ticket 1): the codes of a bundle at the ends of its ranges, answers as of
-- the commands given singly, places of the answer area that stay, a refused bundle read as none. One table, one statement. Assumes nothing.
use Rattle.std.specs.Prelude.{true, List, [], ◌∷◌, ◌≡◌, refl, ℕ, pos, length, get_or, replicate}
use Rattle.laws.specs.Choice.{all, all_of}
use Rattle.laws.specs.Sums.{sum_of}
use Rattle.laws.specs.Tabulate.{tabulate}
use Rattle.areas.specs.Lists.{over, padded}
use Rattle.areas.specs.Records.{decode, encode, records, store}
use Rattle.rules.specs.Answers.{amount_refused, deposit_refusals, first_of, lifts_too_high, settle_refusals}
use Rattle.rules.specs.Bounds.{on_tick, pre_open, terms_in_range, tick_multiple}
use Rattle.rules.specs.Condition3.{balance_in, run}
use Rattle.rules.specs.Examples.{Row, ◌gives◌, all_right, up}
use Rattle.rules.specs.Exchange.{absent, account_at, holding_at, listing_at, lots_where, no_holding, resting}
use Rattle.rules.specs.Holdings.{book_trades, never_below_zero, same_holdings, same_lots, start_of_day}
use Rattle.rules.specs.Kinds.{code_of, decide, kind_of}
use Rattle.rules.specs.Memory.{Memory, counts_in_range, exchange_of, has_room, listing_in, memory, put, put_accounts, put_queue, put_queues, put_state, put_trades, queue_in, recorded_trades, respond, step_in, well_formed_memory}
use Rattle.rules.specs.Step.{deposited, paid}
use Rattle.rules.specs.WellFormed.{all_listed, balance_in_range, contract_in_range, counters_in_range, held_in_range, holding_in_range, holdings_in_range, listed, listing_quoted, mark_in_range, orders_in_range, queue_quoted, queues_sorted, quotes, ranges_kept, replays, resting_in_range, sorted, trade_in_range, uncrossed, used_once, well_formed_contents}
use Rattle.rules.specs.declared.Command.{Command}
use Rattle.rules.specs.declared.Command.TheVariants.{Deposit, Settle}
use Rattle.baskets.specs.Answered.{played_of}
use Rattle.baskets.specs.Bundle.{answers_to, answer_words, bundle_code, carried}
use Rattle.baskets.specs.Calls.{Call, single, list, bundle, after_calls, commands_read}

-- one contract in pre-open and one account with 10; the trade area has so many words
state : ℕ → Memory
state words =
    memory
    record {
      contracts = record { multiplier = 10; tick = 1; reference = 100; band = 10; limit = 10; rate = 1_000; method = 0; phase = pre_open; last = 100 } ∷ [];
      accounts = record { balance = pos 10; maker = 0; holdings = no_holding ∷ [] } ∷ [];
      buycounts = 0 ∷ [];
      sellcounts = 0 ∷ [];
      contractcount = 1;
      accountcount = 1;
      tradecount = 0;
      next = 1;
      nextstamp = 1;
      settlements = 0;
    }
    (replicate 448 0) (replicate 448 0) (replicate words 0)

m : Memory
m = state 9_216

-- well formed but for a word of room
short : Memory
short = state 9_215

-- a settlement in pre-open, which is refused (18); deposits of 5, of nothing (16) and of 7
commands : List Command
commands = Settle ∷ Deposit 1 5 ∷ Deposit 1 0 ∷ Deposit 1 7 ∷ []

code : ℕ → ℕ
code i = (get_or (answers_to m commands) i (respond m (Deposit 1 1)).answer).code

-- the word of an area of 20 words, all 9, after the answers of the first two commands
word : ℕ → ℕ
word i = get_or (store answer_words (replicate 20 9) 0 (answers_to m (carried m commands 2 20))) i 0

balance : List Call → ℕ
balance calls = up (balance_in (after_calls m calls) 0)

pub table : List Row
table =
    -- 100 commands and 400 words; one more, one word fewer; 21 before 22
    (bundle_code m 100 400 gives 0)
    ∷ (bundle_code m 101 404 gives 22)
    ∷ (bundle_code m 100 399 gives 22)
    ∷ (bundle_code m 0 0 gives 0)
    ∷ (bundle_code short 1 4 gives 21)
    ∷ (bundle_code short 101 0 gives 21)
    -- in order, and a refused one does not stop the rest
    ∷ (code 0 gives 18)
    ∷ (code 1 gives 0)
    ∷ (code 2 gives 16)
    ∷ (code 3 gives 0)
    ∷ (length (answers_to m commands) gives 4)
    -- the first so many of the commands; of a refused bundle none
    ∷ (length (carried m commands 3 12) gives 3)
    ∷ (length (carried m commands 4 15) gives 0)
    ∷ (length (carried short commands 4 16) gives 0)
    -- four words an answer, the code first; places beyond the commands' count stay
    ∷ (word 0 gives 18)
    ∷ (word 1 gives 0)
    ∷ (word 4 gives 0)
    ∷ (word 7 gives 0)
    ∷ (word 8 gives 9)
    ∷ (word 19 gives 9)
    -- a list: whole records of 24 bytes, or places of four words where these are fewer
    ∷ (played_of (replicate 71 0) (replicate 40 0) gives 2)
    ∷ (played_of (replicate 72 0) (replicate 11 0) gives 2)
    ∷ (played_of (replicate 72 0) (replicate 12 0) gives 3)
    -- a day of calls: singly, as a list, as a bundle, the first two of a bundle, a bundle that is refused
    ∷ (balance (single (Deposit 1 5) ∷ single (Deposit 1 7) ∷ []) gives 22)
    ∷ (balance (list commands ∷ []) gives 22)
    ∷ (balance (bundle commands 4 16 ∷ []) gives 22)
    ∷ (balance (bundle commands 2 16 ∷ single (Deposit 1 1) ∷ []) gives 16)
    ∷ (balance (bundle commands 4 15 ∷ list commands ∷ []) gives 22)
    -- condition 3 reads as many commands
    ∷ (length (commands_read m (single (Deposit 1 5) ∷ list commands ∷ bundle commands 2 8 ∷ [])) gives 7)
    ∷ (length (commands_read m (bundle commands 4 15 ∷ single Settle ∷ [])) gives 1)
    ∷ []

pub bundle_examples : all_right table ≡ true
unfolding all_right table state m short commands code word balance up absent account_at after_calls all all_listed all_of amount_refused answers_to balance_in_range book_trades bundle_code carried code_of commands_read contract_in_range counters_in_range counts_in_range decide decode deposit_refusals deposited encode exchange_of first_of has_room held_in_range holding_at holding_in_range holdings_in_range kind_of lifts_too_high listed listing_at listing_in listing_quoted lots_where mark_in_range never_below_zero on_tick orders_in_range over padded paid played_of put put_accounts put_queue put_queues put_state put_trades queue_in queue_quoted queues_sorted quotes ranges_kept recorded_trades records replays respond resting resting_in_range run same_holdings same_lots settle_refusals sorted start_of_day step_in store sum_of tabulate terms_in_range tick_multiple trade_in_range uncrossed used_once well_formed_contents well_formed_memory
bundle_examples = refl
