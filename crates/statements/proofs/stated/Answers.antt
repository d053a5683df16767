-- The refusals in their order, then the day told.
use native.Mathlib.Omega.{arith}
use Rattle.std.proofs.Common.{◌≡◌, false, [], ap, sym, ◌∙◌}
use Rattle.std.specs.Prelude.{not}
use Rattle.laws.specs.Tests.{passed, refused}
use Rattle.rules.specs.Memory.{WellFormedState}
use Rattle.rules.specs.Exchange.{is_absent}
use Rattle.engine.proofs.Declared.{declared}
use Rattle.engine.proofs.Formed.{formed}
use Rattle.statements.proofs.Refusing.{by_21, no_such_account, account_low, account_high, too_many, not_adding, postable, adding}
use Rattle.statements.proofs.stated.Goals as goal

pub returns-then-not-well_formed : goal.returns-then-not-well_formed
returns-then-not-well_formed c = by_21 _ _ _ _ (refused c.well_formed-2.ensures (ap not c.if-not-well_formed.true))

pub returns-then-is_absent : goal.returns-then-is_absent
returns-then-is_absent c =
    let well : WellFormedState c.args.state c.args.buys.now c.args.sells.now c.args.trades.now =
    record { declared = declared c.well_formed.0; formed = passed c.well_formed-2.ensures (ap not c.if-not-well_formed.false) } in
    no_such_account _ _ _ _ well _ _ _ _ _ (sym c.is_absent.ensures ∙ c.if-is_absent.true)

pub returns-then-clients-gt-MAX_CLIENTS : goal.returns-then-clients-gt-MAX_CLIENTS
returns-then-clients-gt-MAX_CLIENTS c =
    let well : WellFormedState c.args.state c.args.buys.now c.args.sells.now c.args.trades.now =
    record { declared = declared c.well_formed.0; formed = passed c.well_formed-2.ensures (ap not c.if-not-well_formed.false) } in
    too_many _ _ _ _ well _ _ _ _ _ (sym c.is_absent.ensures ∙ c.if-is_absent.false) c.if-clients-gt-MAX_CLIENTS.true

pub bounds-state-place_of : goal.bounds-state-place_of
bounds-state-place_of c =
    let well : WellFormedState c.args.state c.args.buys.now c.args.sells.now c.args.trades.now =
    record { declared = declared c.well_formed.0; formed = passed c.well_formed-2.ensures (ap not c.if-not-well_formed.false) } in
    let here : is_absent c.args.account c.args.state.accountcount ≡ false = sym c.is_absent.ensures ∙ c.if-is_absent.false in
    omega (arith, c.place_of.ensures, account_low c.args.account c.args.state.accountcount here, account_high c.args.account c.args.state.accountcount here, (formed well).accounts_high)

pub add_up-requires : goal.add_up-requires
add_up-requires c =
    let well : WellFormedState c.args.state c.args.buys.now c.args.sells.now c.args.trades.now =
    record { declared = declared c.well_formed.0; formed = passed c.well_formed-2.ensures (ap not c.if-not-well_formed.false) } in
    (c.if-clients-gt-MAX_CLIENTS.false, (formed well).contracts_high)

pub returns-then-not-add_up : goal.returns-then-not-add_up
returns-then-not-add_up c =
    let well : WellFormedState c.args.state c.args.buys.now c.args.sells.now c.args.trades.now =
    record { declared = declared c.well_formed.0; formed = passed c.well_formed-2.ensures (ap not c.if-not-well_formed.false) } in
    not_adding _ _ _ _ well _ _ _ _ _ (sym c.is_absent.ensures ∙ c.if-is_absent.false) c.if-clients-gt-MAX_CLIENTS.false _ c.place_of.ensures _
    c.add_up.ensures (ap not c.if-not-add_up.true)

pub posted_statement-requires : goal.posted_statement-requires
posted_statement-requires c =
    let well : WellFormedState c.args.state c.args.buys.now c.args.sells.now c.args.trades.now =
    record { declared = declared c.well_formed.0; formed = passed c.well_formed-2.ensures (ap not c.if-not-well_formed.false) } in
    postable _ _ _ _ well _ _ _ [] [] (sym c.is_absent.ensures ∙ c.if-is_absent.false) c.if-clients-gt-MAX_CLIENTS.false _ c.place_of.ensures _
    c.add_up.ensures (ap not c.if-not-add_up.false) c.place_word.ensures

pub returns : goal.returns
returns c =
    let well : WellFormedState c.args.state c.args.buys.now c.args.sells.now c.args.trades.now =
    record { declared = declared c.well_formed.0; formed = passed c.well_formed-2.ensures (ap not c.if-not-well_formed.false) } in
    adding _ _ _ _ well _ _ _ _ _ (sym c.is_absent.ensures ∙ c.if-is_absent.false) c.if-clients-gt-MAX_CLIENTS.false _ c.place_of.ensures _
    c.add_up.ensures (ap not c.if-not-add_up.false) c.place_word.ensures _ _ c.posted_statement.ensures
