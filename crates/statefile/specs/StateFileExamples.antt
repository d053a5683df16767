-- A small state to bytes and back, byte by byte: one contract with last price 107, two accounts with balances -2 and 20,002, the second
-- a maker, 3 lots long and 3 short, after one settlement. Assumes nothing.
use Rattle.std.specs.Prelude.{Bool, true, false, List, [], ◌∷◌, ◌++◌, ◌≡◌, refl, ℕ, ◌*◌, pos, negsuc, drop, replicate, take}
use Rattle.laws.specs.Choice.{all, all_of}
use Rattle.laws.specs.Sums.{sum_of}
use Rattle.laws.specs.Tabulate.{tabulate}
use Rattle.areas.specs.Records.{decode, encode, records}
use Rattle.rules.specs.Answers.{first_of}
use Rattle.rules.specs.Bounds.{on_tick, tick_multiple, terms_in_range}
use Rattle.rules.specs.DayFile.{u8_at, u16_at, u32_at, u64_at, contracts_in, contract_from}
use Rattle.rules.specs.Exchange.{Exchange, account_at, holding_at, listing_at, lots_where, no_contract, no_order, no_trade, resting}
use Rattle.rules.specs.Holdings.{book_trades, never_below_zero, start_of_day, same_lots, same_holdings}
use Rattle.rules.specs.Memory.{Memory, counts_in_range, exchange_of, has_room, listing_in, memory, put_accounts, put_state, queue_in, queue_stride, recorded_trades, trade_stride, well_formed_memory}
use Rattle.rules.specs.WellFormed.{all_listed, balance_in_range, contract_in_range, counters_in_range, held_in_range, holding_in_range, holdings_in_range, listed, listing_quoted, mark_allowed, mark_in_range, orders_in_range, queue_quoted, queues_sorted, quotes, ranges_kept, replays, resting_in_range, sorted, uncrossed, used_once, well_formed_contents}
use Rattle.rules.specs.declared.Account.{Account}
use Rattle.rules.specs.declared.Contract.{Contract}
use Rattle.rules.specs.declared.Holding.{Holding}
use Rattle.rules.specs.declared.Order.{Order}
use Rattle.rules.specs.declared.State.{State}
use Rattle.rules.specs.declared.Trade.{Trade}
use Rattle.endian.specs.Numbers.{two, four, eight, unsigned, signed_of}
use Rattle.sections.specs.Sections.{holding_bytes}
use Rattle.statefile.specs.StateFile.{account_bytes, all_equal, contract_bytes, counts_right, empty_pre_open, loaded_account, loaded_from, loaded_into, loaded_listing, loaded_state, mark_sound, read_code, row_bytes, saved_account, saved_accounts_in, saved_bytes, saved_contract, saved_holding, saved_sound, shaped, totals_equal, writable, write_code}

-- ---- the state

unfoldable pub terms : ℕ → Contract
terms phase =
    record { multiplier = 10; tick = 1; reference = 102; band = 10; limit = 100; rate = 1_000; method = 2; phase = phase; last = 107 }

abbrev pub held : ℕ → ℕ → Holding
held long short = record { long = long; short = short; startlong = long; startshort = short }

unfoldable pub holders : ℕ → List Account
holders short =
    record { balance = negsuc 1; maker = 0; holdings = held 3 0 ∷ [] }
    ∷ record { balance = pos 20_002; maker = 1; holdings = held 0 short ∷ [] }
    ∷ []

-- the rest of it left open
abbrev standing : (phase : ℕ) (buys sells : List Order) (short : ℕ) (trades : List Trade) (next nextstamp : ℕ) → Exchange
standing phase buys sells short trades next nextstamp =
    record {
      listings = record { contract = terms phase; buys = buys; sells = sells } ∷ [];
      accounts = holders short;
      trades = trades;
      next = next;
      nextstamp = nextstamp;
      settlements = 1;
    }

unfoldable pub evening : Exchange
evening = standing 0 [] [] 3 [] 1 1

-- writable; and each thing that makes it not so by itself: another phase, a buy, a sell, other totals, a trade, a number given, a stamp
-- given
pub writable_cases : List Bool
writable_cases =
    writable (standing 0 [] [] 3 [] 1 1)
    ∷ writable (standing 3 [] [] 3 [] 1 1)
    ∷ writable (standing 0 (no_order ∷ []) [] 3 [] 1 1)
    ∷ writable (standing 0 [] (no_order ∷ []) 3 [] 1 1)
    ∷ writable (standing 0 [] [] 2 [] 1 1)
    ∷ writable (standing 0 [] [] 3 (no_trade ∷ []) 1 1)
    ∷ writable (standing 0 [] [] 3 [] 2 1)
    ∷ writable (standing 0 [] [] 3 [] 1 2)
    ∷ []

pub writable_example : writable_cases ≡ true ∷ false ∷ false ∷ false ∷ false ∷ false ∷ false ∷ false ∷ []
unfolding writable_cases terms holders all all_of sum_of empty_pre_open totals_equal all_equal writable
writable_example = refl

-- ---- the file, some of its numbers left open

unfoldable pub file_of : (contracts mark short ones settlements : ℕ) → List ℕ
file_of contracts mark short ones settlements =
    -- the contracts' count; multiplier 10, tick 1, reference 102, band 10, limit 100, rate 1,000, method 2, last price 107
    (contracts ∷ 0 ∷ 0 ∷ 0 ∷ [])
    ++ ((10 ∷ 0 ∷ 1 ∷ 0 ∷ 102 ∷ 0 ∷ 0 ∷ 0 ∷ 10 ∷ 0 ∷ 0 ∷ 0 ∷ 100 ∷ 0 ∷ 0 ∷ 0 ∷ 232 ∷ 3 ∷ 2 ∷ 0 ∷ 107 ∷ 0 ∷ 0 ∷ 0 ∷ [])
    -- the accounts' count; balance -2, no maker; balance 20,002, a maker
    ++ ((2 ∷ 0 ∷ 0 ∷ 0 ∷ [])
    ++ ((254 ∷ 255 ∷ 255 ∷ 255 ∷ 255 ∷ 255 ∷ 255 ∷ 255 ∷ 0 ∷ [])
    ++ ((34 ∷ 78 ∷ 0 ∷ 0 ∷ 0 ∷ 0 ∷ 0 ∷ 0 ∷ mark ∷ [])
    -- the holdings' count; 3 long and 0 short, 0 long and 3 short
    ++ ((2 ∷ 0 ∷ 0 ∷ 0 ∷ [])
    ++ ((3 ∷ 0 ∷ 0 ∷ 0 ∷ 0 ∷ 0 ∷ 0 ∷ 0 ∷ 0 ∷ 0 ∷ 0 ∷ 0 ∷ short ∷ 0 ∷ 0 ∷ 0 ∷ [])
    -- a section of one: the settlement count
    ++ ((ones ∷ 0 ∷ 0 ∷ 0 ∷ []) ++ (settlements ∷ 0 ∷ 0 ∷ 0 ∷ []))))))))

abbrev pub file : List ℕ
file = file_of 1 1 3 1 1

pub saved_example : saved_bytes evening ≡ file
unfolding evening terms holders file_of encode two four eight unsigned contract_bytes account_bytes row_bytes holding_bytes saved_bytes
saved_example = refl

pub loaded_example : loaded_from file ≡ evening
unfolding evening terms holders file_of tabulate u8_at u16_at u32_at u64_at contracts_in contract_from signed_of saved_contract saved_holding saved_account saved_accounts_in loaded_listing loaded_account loaded_from
loaded_example = refl

-- ---- the codes

-- a memory with areas of so many words: contract 1 in this phase, the second account short so many lots
abbrev state_of : ℕ → ℕ → ℕ → State
state_of phase short next =
    record {
      contracts = terms phase ∷ no_contract ∷ [];
      accounts = holders short;
      buycounts = 0 ∷ 7 ∷ [];
      sellcounts = 0 ∷ 7 ∷ [];
      contractcount = 1;
      accountcount = 2;
      tradecount = 0;
      next = next;
      nextstamp = 1;
      settlements = 1;
    }

abbrev words : ℕ → List ℕ
words n = replicate n 0

abbrev lent : State → Memory
lent s = memory s (words queue_stride) (words queue_stride) (words (trade_stride * 1_024))

-- one word too few for contract 1's buy queue
abbrev narrow : State → Memory
narrow s = memory s (words 447) (words queue_stride) (words (trade_stride * 1_024))

-- 78 bytes are room enough and 77 are not; a contract in another phase, other totals and a number given are not writable
pub write_codes : List ℕ
write_codes =
    write_code (lent (state_of 0 3 1)) 78
    ∷ write_code (lent (state_of 0 3 1)) 77
    ∷ write_code (lent (state_of 3 3 1)) 78
    ∷ write_code (lent (state_of 0 2 1)) 78
    ∷ write_code (lent (state_of 0 3 2)) 78
    ∷ write_code (narrow (state_of 0 3 1)) 78
    ∷ []

-- a file whose holdings' count is 3 where 2 follow; one without accounts and one without contracts, right but for that
abbrev three_held : List ℕ
three_held = take 50 file ++ (3 ∷ drop 51 file)

abbrev no_accounts : List ℕ
no_accounts = take 28 file ++ (four 0 ++ (four 0 ++ (four 1 ++ four 1)))

abbrev no_contracts : List ℕ
no_contracts = four 0 ++ (four 1 ++ (replicate 9 0 ++ (four 0 ++ (four 1 ++ four 1))))

-- a file is read whatever stood in the state; a count, a mark or a section count that is wrong breaks it, and so do a byte behind it and
-- settlements above 250; 2 lots short are other totals; an area may lack room
pub read_codes : List ℕ
read_codes =
    read_code (lent (state_of 9 3 0)) file
    ∷ read_code (lent (state_of 0 3 1)) (file_of 1 0 3 1 250)
    ∷ read_code (lent (state_of 0 3 1)) (file_of 5 1 3 1 1)
    ∷ read_code (lent (state_of 0 3 1)) (file_of 1 2 3 1 1)
    ∷ read_code (lent (state_of 0 3 1)) (file_of 1 1 3 2 1)
    ∷ read_code (lent (state_of 0 3 1)) (file ++ (0 ∷ []))
    ∷ read_code (lent (state_of 0 3 1)) (file_of 1 1 3 1 251)
    ∷ read_code (lent (state_of 0 3 1)) (file_of 1 1 101 1 1)
    ∷ read_code (lent (state_of 0 3 1)) (file_of 1 1 2 1 1)
    ∷ read_code (narrow (state_of 0 3 1)) file
    ∷ read_code (narrow (state_of 0 3 1)) (file_of 1 1 2 1 1)
    ∷ read_code (lent (state_of 0 3 1)) three_held
    ∷ read_code (lent (state_of 0 3 1)) no_accounts
    ∷ read_code (lent (state_of 0 3 1)) no_contracts
    ∷ []

pub write_example : write_codes ≡ 0 ∷ 29 ∷ 28 ∷ 28 ∷ 28 ∷ 21 ∷ []
unfolding write_codes terms holders all all_of sum_of tabulate decode encode records on_tick tick_multiple terms_in_range account_at holding_at listing_at lots_where resting book_trades never_below_zero start_of_day same_lots same_holdings contract_in_range counters_in_range sorted uncrossed ranges_kept queues_sorted orders_in_range resting_in_range listed all_listed used_once quotes mark_allowed queue_quoted listing_quoted mark_in_range replays held_in_range holding_in_range holdings_in_range balance_in_range well_formed_contents counts_in_range has_room exchange_of listing_in queue_in recorded_trades well_formed_memory two four eight unsigned contract_bytes account_bytes row_bytes holding_bytes saved_bytes empty_pre_open totals_equal all_equal writable first_of write_code
write_example = refl

pub read_example : read_codes ≡ 0 ∷ 0 ∷ 20 ∷ 20 ∷ 20 ∷ 20 ∷ 20 ∷ 20 ∷ 30 ∷ 29 ∷ 30 ∷ 20 ∷ 20 ∷ 20 ∷ []
unfolding read_codes terms holders file_of two four all all_of sum_of tabulate decode records on_tick tick_multiple terms_in_range u8_at u16_at u32_at u64_at contracts_in contract_from account_at holding_at listing_at lots_where resting book_trades never_below_zero start_of_day same_lots same_holdings contract_in_range counters_in_range sorted uncrossed ranges_kept queues_sorted orders_in_range resting_in_range listed all_listed used_once quotes mark_allowed queue_quoted listing_quoted mark_in_range replays held_in_range holding_in_range holdings_in_range balance_in_range well_formed_contents has_room put_accounts put_state signed_of saved_contract saved_holding saved_account saved_accounts_in loaded_listing loaded_account loaded_from counts_right shaped mark_sound saved_sound totals_equal all_equal loaded_state first_of read_code
read_example = refl

-- ---- the state after reading: the second contract's places and counts stay as they were

pub state_after : (loaded_into (lent (state_of 3 9 5)) file).state ≡ state_of 0 3 1
unfolding terms holders file_of tabulate u8_at u16_at u32_at u64_at contracts_in contract_from put_accounts put_state signed_of saved_contract saved_holding saved_account saved_accounts_in loaded_listing loaded_account loaded_from loaded_state
state_after = refl
