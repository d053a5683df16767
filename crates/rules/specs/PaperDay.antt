-- Document 01's day, computed by the definitions: from the bytes of its file to the thirteen lines. Assumes nothing.
use Rattle.std.specs.Prelude.{List, [], ◌∷◌, ◌≡◌, refl, ℕ}
use Rattle.laws.specs.Choice.{all, all_of}
use Rattle.laws.specs.Sums.{sum_of, sum_to}
use Rattle.laws.specs.Tabulate.{tabulate}
use Rattle.rules.specs.Answers.{first_of, listing_of, taker_of, fillable_lots, trades_needed, trades_refused, price_refused_by, holding_refused, money_refused, insert_refusals, removal_refused, numbered, resting_order, no_such_order, of_another, cancel_refusals, pull_refusals, amount_refused, lifts_too_high, deposit_refusals, leaves_too_little, withdraw_refusals, change_listed, phase_refusals, settle_refusals, takes_orders, conditions_refused, order_refusals, lots_refused, trades_against}
use Rattle.rules.specs.Auction.{match_of}
use Rattle.rules.specs.Bounds.{on_tick, tick_multiple, terms_in_range, day_low, day_high, allowed_today}
use Rattle.rules.specs.Command.{zeros, bits, price_condition, time_condition, insert_flags, new_order, deposit_of, withdraw_of, insert_of, cancel_of, pull_of, phase_of, settle_of, command_of}
use Rattle.rules.specs.DayFile.{u8_at, u16_at, u32_at, u64_at, contracts_in, contract_place, accounts_in, account_place, commands_in, command_place, contract_from, contract_sound, balance_from, account_sound, record_from, commands_of, sound, opening_listing, opening_account, opening, maker_from}
use Rattle.rules.specs.Exchange.{absent, listing_at, account_at, holding_at, best_price, lots_where, resting}
use Rattle.rules.specs.Holdings.{after_leg, book_leg, book_trade, book_trades, leg_covered, never_below_zero, start_of_day, same_lots, same_holdings}
use Rattle.rules.specs.Kinds.{kind_of, code_of, decide, step}
use Rattle.rules.specs.Lines.{digits, decimal, signed, fields_of, answer_line, trade_line, trade_lines, price_lines, account_lines, settlement_lines, new_trades, step_lines, run_lines, output, letter_c, letter_t, letter_p, letter_b, space, minus, newline}
use Rattle.rules.specs.Margin.{charge_of, charged_lots, charged_to}
use Rattle.rules.specs.Matching.{meets, fillable, method_of, middle, paired_price, trade_price, trade_with, stays, sweep, traded_lots, last_price, rest_in, remainder, rest_lots, rested_lots, enter}
use Rattle.rules.specs.Settlement.{trades_in, traded_value, weighted_price, quoted_price, price_from, settlement_price, only, legs, day_start, gain, first_lots, other_lots, after_day_leg, after_legs, day_of, holding_gain, closing_profit, holding_profit, settled_account, settled_contract, settled_listing, settled}
use Rattle.rules.specs.Step.{paid, deposited, withdrawn, entered_of, listing_after, exchange_after, inserted, without, removed, cancelled, pulled, phase_changed, settled_all, listing_matched, exchange_matched}

pub file : List ℕ
file =
    -- one contract
    1 ∷ 0 ∷ 0 ∷ 0
    -- "contract 10, 1, 100, 10, 1,000, 1,000 (fields in file order)"
    ∷ 10 ∷ 0 ∷ 1 ∷ 0 ∷ 100 ∷ 0 ∷ 0 ∷ 0 ∷ 10 ∷ 0 ∷ 0 ∷ 0 ∷ 232 ∷ 3 ∷ 0 ∷ 0 ∷ 232 ∷ 3 ∷ 0 ∷ 0
    -- two accounts
    ∷ 2 ∷ 0 ∷ 0 ∷ 0
    -- "two accounts with 10,000"
    ∷ 16 ∷ 39 ∷ 0 ∷ 0 ∷ 0 ∷ 0 ∷ 0 ∷ 0
    ∷ 16 ∷ 39 ∷ 0 ∷ 0 ∷ 0 ∷ 0 ∷ 0 ∷ 0
    -- eight commands
    ∷ 8 ∷ 0 ∷ 0 ∷ 0
    -- "contract 1 to continuous"
    ∷ 6 ∷ 0 ∷ 1 ∷ 1 ∷ 0 ∷ 0 ∷ 0 ∷ 0 ∷ 0 ∷ 0 ∷ 0 ∷ 0 ∷ 0 ∷ 0 ∷ 0 ∷ 0 ∷ 0 ∷ 0 ∷ 0 ∷ 0 ∷ 0 ∷ 0 ∷ 0 ∷ 0
    -- "account 1 sell open limit 102 x 5"
    ∷ 3 ∷ 1 ∷ 1 ∷ 1 ∷ 5 ∷ 0 ∷ 0 ∷ 0 ∷ 102 ∷ 0 ∷ 0 ∷ 0 ∷ 0 ∷ 0 ∷ 0 ∷ 0 ∷ 0 ∷ 0 ∷ 0 ∷ 0 ∷ 0 ∷ 0 ∷ 0 ∷ 0
    -- "account 2 buy open limit 104 x 3"
    ∷ 3 ∷ 2 ∷ 1 ∷ 0 ∷ 3 ∷ 0 ∷ 0 ∷ 0 ∷ 104 ∷ 0 ∷ 0 ∷ 0 ∷ 0 ∷ 0 ∷ 0 ∷ 0 ∷ 0 ∷ 0 ∷ 0 ∷ 0 ∷ 0 ∷ 0 ∷ 0 ∷ 0
    -- "account 1 cancels order 1"
    ∷ 4 ∷ 1 ∷ 1 ∷ 0 ∷ 0 ∷ 0 ∷ 0 ∷ 0 ∷ 0 ∷ 0 ∷ 0 ∷ 0 ∷ 1 ∷ 0 ∷ 0 ∷ 0 ∷ 0 ∷ 0 ∷ 0 ∷ 0 ∷ 0 ∷ 0 ∷ 0 ∷ 0
    -- "account 2 sell close limit 103 x 2"
    ∷ 3 ∷ 2 ∷ 1 ∷ 3 ∷ 2 ∷ 0 ∷ 0 ∷ 0 ∷ 103 ∷ 0 ∷ 0 ∷ 0 ∷ 0 ∷ 0 ∷ 0 ∷ 0 ∷ 0 ∷ 0 ∷ 0 ∷ 0 ∷ 0 ∷ 0 ∷ 0 ∷ 0
    -- "account 1 buy close limit 106 x 2"
    ∷ 3 ∷ 1 ∷ 1 ∷ 2 ∷ 2 ∷ 0 ∷ 0 ∷ 0 ∷ 106 ∷ 0 ∷ 0 ∷ 0 ∷ 0 ∷ 0 ∷ 0 ∷ 0 ∷ 0 ∷ 0 ∷ 0 ∷ 0 ∷ 0 ∷ 0 ∷ 0 ∷ 0
    -- "close"
    ∷ 6 ∷ 0 ∷ 1 ∷ 3 ∷ 0 ∷ 0 ∷ 0 ∷ 0 ∷ 0 ∷ 0 ∷ 0 ∷ 0 ∷ 0 ∷ 0 ∷ 0 ∷ 0 ∷ 0 ∷ 0 ∷ 0 ∷ 0 ∷ 0 ∷ 0 ∷ 0 ∷ 0
    -- "settle"
    ∷ 7 ∷ 0 ∷ 0 ∷ 0 ∷ 0 ∷ 0 ∷ 0 ∷ 0 ∷ 0 ∷ 0 ∷ 0 ∷ 0 ∷ 0 ∷ 0 ∷ 0 ∷ 0 ∷ 0 ∷ 0 ∷ 0 ∷ 0 ∷ 0 ∷ 0 ∷ 0 ∷ 0
    ∷ []

-- each line under its words
pub printed : List ℕ
printed =
    -- "C 1 0 0 0 0"
    letter_c ∷ space ∷ 49 ∷ space ∷ 48 ∷ space ∷ 48 ∷ space ∷ 48 ∷ space ∷ 48 ∷ newline
    -- "C 2 0 1 0 5"
    ∷ letter_c ∷ space ∷ 50 ∷ space ∷ 48 ∷ space ∷ 49 ∷ space ∷ 48 ∷ space ∷ 53 ∷ newline
    -- "C 3 0 2 3 0"
    ∷ letter_c ∷ space ∷ 51 ∷ space ∷ 48 ∷ space ∷ 50 ∷ space ∷ 51 ∷ space ∷ 48 ∷ newline
    -- "T 1 1 102 3 2 1"
    ∷ letter_t ∷ space ∷ 49 ∷ space ∷ 49 ∷ space ∷ 49 ∷ 48 ∷ 50 ∷ space ∷ 51 ∷ space ∷ 50 ∷ space ∷ 49 ∷ newline
    -- "C 4 0 1 0 2"
    ∷ letter_c ∷ space ∷ 52 ∷ space ∷ 48 ∷ space ∷ 49 ∷ space ∷ 48 ∷ space ∷ 50 ∷ newline
    -- "C 5 0 3 0 2"
    ∷ letter_c ∷ space ∷ 53 ∷ space ∷ 48 ∷ space ∷ 51 ∷ space ∷ 48 ∷ space ∷ 50 ∷ newline
    -- "C 6 0 4 2 0"
    ∷ letter_c ∷ space ∷ 54 ∷ space ∷ 48 ∷ space ∷ 52 ∷ space ∷ 50 ∷ space ∷ 48 ∷ newline
    -- "T 2 1 103 2 4 3"
    ∷ letter_t ∷ space ∷ 50 ∷ space ∷ 49 ∷ space ∷ 49 ∷ 48 ∷ 51 ∷ space ∷ 50 ∷ space ∷ 52 ∷ space ∷ 51 ∷ newline
    -- "C 7 0 0 0 0"
    ∷ letter_c ∷ space ∷ 55 ∷ space ∷ 48 ∷ space ∷ 48 ∷ space ∷ 48 ∷ space ∷ 48 ∷ newline
    -- "C 8 0 0 0 0"
    ∷ letter_c ∷ space ∷ 56 ∷ space ∷ 48 ∷ space ∷ 48 ∷ space ∷ 48 ∷ space ∷ 48 ∷ newline
    -- "P 1 102"
    ∷ letter_p ∷ space ∷ 49 ∷ space ∷ 49 ∷ 48 ∷ 50 ∷ newline
    -- "B 1 -20 0 9980 102"
    ∷ letter_b ∷ space ∷ 49 ∷ space ∷ minus ∷ 50 ∷ 48 ∷ space ∷ 48 ∷ space ∷ 57 ∷ 57 ∷ 56 ∷ 48 ∷ space ∷ 49 ∷ 48 ∷ 50 ∷ newline
    -- "B 2 20 0 10020 102"
    ∷ letter_b ∷ space ∷ 50 ∷ space ∷ 50 ∷ 48 ∷ space ∷ 48 ∷ space ∷ 49 ∷ 48 ∷ 48 ∷ 50 ∷ 48 ∷ space ∷ 49 ∷ 48 ∷ 50 ∷ newline
    ∷ []

pub paper_day : output file ≡ printed
unfolding file printed all all_of sum_of sum_to tabulate first_of listing_of taker_of fillable_lots trades_needed trades_refused price_refused_by trades_against lots_refused holding_refused money_refused insert_refusals removal_refused numbered resting_order no_such_order of_another cancel_refusals pull_refusals amount_refused lifts_too_high deposit_refusals leaves_too_little withdraw_refusals change_listed phase_refusals settle_refusals code_of on_tick tick_multiple terms_in_range day_low day_high allowed_today zeros bits price_condition time_condition insert_flags new_order deposit_of withdraw_of insert_of cancel_of pull_of phase_of settle_of command_of u8_at u16_at u32_at u64_at contracts_in contract_place accounts_in account_place commands_in command_place contract_from contract_sound balance_from account_sound record_from commands_of sound opening_listing opening_account opening absent listing_at account_at holding_at best_price lots_where resting after_leg book_leg book_trade book_trades leg_covered never_below_zero start_of_day same_lots same_holdings digits decimal signed fields_of answer_line trade_line trade_lines price_lines account_lines settlement_lines new_trades step_lines run_lines output charge_of charged_lots charged_to meets fillable method_of middle paired_price trade_price trade_with stays sweep traded_lots last_price rest_in remainder rest_lots rested_lots enter trades_in traded_value weighted_price quoted_price price_from settlement_price only legs day_start gain first_lots other_lots after_day_leg after_legs day_of holding_gain closing_profit holding_profit settled_account settled_contract settled_listing settled paid deposited withdrawn entered_of listing_after exchange_after inserted without removed cancelled pulled phase_changed settled_all kind_of decide step takes_orders conditions_refused match_of listing_matched exchange_matched order_refusals maker_from
paper_day = refl
