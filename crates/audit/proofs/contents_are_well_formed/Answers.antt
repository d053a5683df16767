use Rattle.std.proofs.Common.{true, ◌≡◌, ◌≤◌, length, arith, rules}
use Rattle.std.proofs.lemmas.Grind.{common_steps}
use Rattle.laws.specs.Lists.{unmapped}
use Rattle.invariants.proofs.MemoryRoom.{counts_ok}
use Rattle.audit.proofs.Whole.{contents_tests, counters_test, few_settlements, holdings_test, listings_test, ready, starts_tested, terms_tested, trades_test, trades_tested, trades_words_lem}
use Rattle.audit.proofs.contents_are_well_formed.Goals as goal

pub listings_in_range-requires : goal.listings_in_range-requires
listings_in_range-requires c = ready _ _ _ _ c.requires.0 c.requires.1

pub used_once-requires : goal.used_once-requires
used_once-requires c = (ready _ _ _ _ c.requires.0 c.requires.1, omega arith)

pub used_once-requires-then-used_once : goal.used_once-requires-then-used_once
used_once-requires-then-used_once c = (ready _ _ _ _ c.requires.0 c.requires.1, omega arith)

pub listings_quoted-requires : goal.listings_quoted-requires
listings_quoted-requires c =
    let listed : listings_test c.args.state c.args.buys.now c.args.sells.now c.args.trades.now ≡ true = grind (arith, common_steps) in
    (ready _ _ _ _ c.requires.0 c.requires.1, listed)

pub marks_in_range-requires : goal.marks_in_range-requires
marks_in_range-requires c = (counts_ok _ c.requires.0).accounts_high

pub trades_in_range-requires : goal.trades_in_range-requires
trades_in_range-requires c =
    let listed : listings_test c.args.state c.args.buys.now c.args.sells.now c.args.trades.now ≡ true = grind (arith, common_steps) in
    record {
      contracts_le_max_contracts = ((counts_ok _ c.requires.0).contracts_high, terms_tested _ _ _ _ c.requires.0 c.requires.1 listed);
      count_in_bounds = trades_words_lem _ _ _ _ c.requires.0 c.requires.1;
    }

pub holdings_in_range-requires : goal.holdings_in_range-requires
holdings_in_range-requires c =
    let listed : listings_test c.args.state c.args.buys.now c.args.sells.now c.args.trades.now ≡ true = grind (arith, common_steps) in
    (ready _ _ _ _ c.requires.0 c.requires.1, listed)

pub replays-requires : goal.replays-requires
replays-requires c =
    let k = counts_ok _ c.requires.0 in
    let listed : listings_test c.args.state c.args.buys.now c.args.sells.now c.args.trades.now ≡ true = grind (arith, common_steps) in
    let traded : trades_test c.args.state c.args.buys.now c.args.sells.now c.args.trades.now ≡ true = grind (arith, common_steps) in
    let held : holdings_test c.args.state c.args.buys.now c.args.sells.now c.args.trades.now ≡ true = grind (arith, common_steps) in
    record {
      contracts_le_max_contracts = (k.contracts_high, k.accounts_high, k.trades, trades_words_lem _ _ _ _ c.requires.0 c.requires.1);
      by_index = trades_tested _ _ _ _ c.requires.0 c.requires.1 traded;
      by_index_2 = starts_tested _ _ _ _ c.requires.0 c.requires.1 listed held;
    }

pub balances_in_range-requires : goal.balances_in_range-requires
balances_in_range-requires c =
    let counters : counters_test c.args.state c.args.buys.now c.args.sells.now c.args.trades.now ≡ true = grind (arith, common_steps) in
    ((counts_ok _ c.requires.0).accounts_high, few_settlements _ _ _ _ c.requires.0 c.requires.1 counters)

pub returns-then-replays : goal.returns-then-replays
returns-then-replays c =
    let e : length c.args.state.accounts ≡ 32 = search (rules, unmapped) in
    let fit : c.args.state.accountcount ≤ length c.args.state.accounts = omega (arith, (counts_ok _ c.requires.0).accounts_high) in
    rw (contents_tests c.args.state c.args.buys.now c.args.sells.now c.args.trades.now fit) (grind (arith, common_steps))

pub returns-else-replays : goal.returns-else-replays
returns-else-replays c =
    let e : length c.args.state.accounts ≡ 32 = search (rules, unmapped) in
    let fit : c.args.state.accountcount ≤ length c.args.state.accounts = omega (arith, (counts_ok _ c.requires.0).accounts_high) in
    rw (contents_tests c.args.state c.args.buys.now c.args.sells.now c.args.trades.now fit) (grind (arith, common_steps))
