-- Each trade is of contracts and accounts in use; a close that is not covered ends the replay, and a trade whose two legs are covered is
-- booked.
use native.Mathlib.Omega.{arith}
use Rattle.std.proofs.Common.{refl, ap}
use Rattle.std.specs.Prelude.{not}
use Rattle.laws.specs.Tests.{passed, refused}
use Rattle.replaying.specs.Parts.{Booked}
use Rattle.replaying.proofs.Turns.{all_covered, buyer_booked, buyer_fits, buyer_short, seller_booked, seller_fits, seller_short, trade_read}
use Rattle.replaying.proofs.replay.Goals as goal

pub bounds-held-buyer : goal.bounds-held-buyer
bounds-held-buyer c =
    let trade : Booked c.args.contracts c.args.accountcount c.trade_at-t.result = trade_read _ _ _ c.loop-i-test.true c.trade_at-t.ensures (c.requires.each _ c.loop-i-test.true) in
    omega (arith, trade.buyer, c.requires.fit)

pub is_covered-requires : goal.is_covered-requires
is_covered-requires c =
    let trade : Booked c.args.contracts c.args.accountcount c.trade_at-t.result = trade_read _ _ _ c.loop-i-test.true c.trade_at-t.ensures (c.requires.each _ c.loop-i-test.true) in
    omega (arith, trade.contract, c.requires.few)

pub returns-then-not-is_covered : goal.returns-then-not-is_covered
returns-then-not-is_covered c =
    let trade : Booked c.args.contracts c.args.accountcount c.trade_at-t.result = trade_read _ _ _ c.loop-i-test.true c.trade_at-t.ensures (c.requires.each _ c.loop-i-test.true) in
    buyer_short c.loop-i.invariant c.loop-i-test.true c.trade_at-t.ensures trade refl refl (refused c.is_covered.ensures (ap not c.if-not-is_covered.true))

pub bounds-held-buyer-in-loop-i : goal.bounds-held-buyer-in-loop-i
bounds-held-buyer-in-loop-i c =
    let trade : Booked c.args.contracts c.args.accountcount c.trade_at-t.result = trade_read _ _ _ c.loop-i-test.true c.trade_at-t.ensures (c.requires.each _ c.loop-i-test.true) in
    omega (arith, trade.buyer, c.requires.fit)

pub book_leg-requires : goal.book_leg-requires
book_leg-requires c =
    let trade : Booked c.args.contracts c.args.accountcount c.trade_at-t.result = trade_read _ _ _ c.loop-i-test.true c.trade_at-t.ensures (c.requires.each _ c.loop-i-test.true) in
    (omega (arith, trade.contract, c.requires.few), trade.lots, buyer_fits c.loop-i.invariant c.loop-i-test.true c.trade_at-t.ensures trade refl refl)

pub bounds-held-seller : goal.bounds-held-seller
bounds-held-seller c =
    let trade : Booked c.args.contracts c.args.accountcount c.trade_at-t.result = trade_read _ _ _ c.loop-i-test.true c.trade_at-t.ensures (c.requires.each _ c.loop-i-test.true) in
    omega (arith, trade.seller, c.requires.fit)

pub is_covered-requires-in-loop-i : goal.is_covered-requires-in-loop-i
is_covered-requires-in-loop-i c =
    let trade : Booked c.args.contracts c.args.accountcount c.trade_at-t.result = trade_read _ _ _ c.loop-i-test.true c.trade_at-t.ensures (c.requires.each _ c.loop-i-test.true) in
    omega (arith, trade.contract, c.requires.few)

pub returns-then-not-is_covered-2 : goal.returns-then-not-is_covered-2
returns-then-not-is_covered-2 c =
    let trade : Booked c.args.contracts c.args.accountcount c.trade_at-t.result = trade_read _ _ _ c.loop-i-test.true c.trade_at-t.ensures (c.requires.each _ c.loop-i-test.true) in
    let bought = buyer_booked c.loop-i.invariant c.loop-i-test.true c.trade_at-t.ensures trade refl refl
    (passed c.is_covered.ensures (ap not c.if-not-is_covered.false)) c.book_leg.ensures in
    seller_short bought refl refl (refused c.is_covered-in-loop-i.ensures (ap not c.if-not-is_covered-2.true))

pub bounds-held-seller-in-loop-i : goal.bounds-held-seller-in-loop-i
bounds-held-seller-in-loop-i c =
    let trade : Booked c.args.contracts c.args.accountcount c.trade_at-t.result = trade_read _ _ _ c.loop-i-test.true c.trade_at-t.ensures (c.requires.each _ c.loop-i-test.true) in
    omega (arith, trade.seller, c.requires.fit)

pub book_leg-requires-in-loop-i : goal.book_leg-requires-in-loop-i
book_leg-requires-in-loop-i c =
    let trade : Booked c.args.contracts c.args.accountcount c.trade_at-t.result = trade_read _ _ _ c.loop-i-test.true c.trade_at-t.ensures (c.requires.each _ c.loop-i-test.true) in
    let bought = buyer_booked c.loop-i.invariant c.loop-i-test.true c.trade_at-t.ensures trade refl refl
    (passed c.is_covered.ensures (ap not c.if-not-is_covered.false)) c.book_leg.ensures in
    (omega (arith, trade.contract, c.requires.few), trade.lots, seller_fits bought refl refl)

pub loop-i-preserved : goal.loop-i-preserved
loop-i-preserved c =
    let trade : Booked c.args.contracts c.args.accountcount c.trade_at-t.result = trade_read _ _ _ c.loop-i-test.true c.trade_at-t.ensures (c.requires.each _ c.loop-i-test.true) in
    let bought = buyer_booked c.loop-i.invariant c.loop-i-test.true c.trade_at-t.ensures trade refl refl
    (passed c.is_covered.ensures (ap not c.if-not-is_covered.false)) c.book_leg.ensures in
    seller_booked bought refl refl (passed c.is_covered-in-loop-i.ensures (ap not c.if-not-is_covered-2.false)) c.book_leg-in-loop-i.ensures

pub returns : goal.returns
returns c = all_covered c.loop-i.invariant c.loop-i-test.false
