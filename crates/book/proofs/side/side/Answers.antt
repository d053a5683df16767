-- One law for each test, in the code's order. Assumes nothing.
use Rattle.laws.specs.Logic.{◌≡◌}
use Rattle.laws.specs.Choice.{pick}
use Rattle.book.proofs.Sides.{no_contract_lem, unlisted, no_place, too_many, too_short, whole_queue}
use Rattle.book.proofs.side.side.Goals as goal
use Rattle.book.proofs.side.side.Goals.{then-sell, else-sell}
use Rattle.book.proofs.side.side.Goals.{then-contract-eq0-via-then-contract-eq0, then-contract-eq0-via-else-contract-eq0+then-contract-contracts}
use Rattle.book.proofs.side.side.Goals.{then-contract-eq0-via-else-contract-eq0+else-contract-contracts+then-contract-gt-MAX_CONTRACTS}
use Rattle.book.proofs.side.side.Goals.{then-contract-eq0-via-else-contract-eq0+else-contract-contracts+else-contract-gt-MAX_CONTRACTS+then-count-gt-MAX_RESTING}

pub returns-then-contract-eq0 : goal.returns-then-contract-eq0
returns-then-contract-eq0 c =
    elim c.then-contract-eq0.branch [
      | then-contract-eq0-via-then-contract-eq0 w ↦ no_contract_lem _ _ _ _ _ _ w.if-contract-eq0.true
      | then-contract-eq0-via-else-contract-eq0+then-contract-contracts w ↦ unlisted _ _ _ _ _ _ w.if-contract-eq0.false w.if-contract-contracts.true
      | then-contract-eq0-via-else-contract-eq0+else-contract-contracts+then-contract-gt-MAX_CONTRACTS w ↦
          no_place _ _ _ _ _ _ w.if-contract-eq0.false w.if-contract-contracts.false w.if-contract-gt-MAX_CONTRACTS.true
      | then-contract-eq0-via-else-contract-eq0+else-contract-contracts+else-contract-gt-MAX_CONTRACTS+then-count-gt-MAX_RESTING w ↦
          too_many _ _ _ _ _ _ w.if-contract-eq0.false w.if-contract-contracts.false w.if-contract-gt-MAX_CONTRACTS.false w.if-count-gt-MAX_RESTING.true
    ]

pub returns-then-e-area : goal.returns-then-e-area
returns-then-e-area c =
    let picked : c.if-sell.area.now ≡ pick c.args.sell c.args.sells.now c.args.buys.now =
    elim c.if-sell.branch [ then-sell w ↦ rw (w.if-sell.true, w.area-is) | else-sell w ↦ rw (w.if-sell.false, w.area-is) ] in
    too_short _ _ _ _ _ _ c.if-contract-eq0.false c.if-contract-contracts.false c.if-contract-gt-MAX_CONTRACTS.false c.if-count-gt-MAX_RESTING.false _ picked c.if-e-area.true

pub returns : goal.returns
returns c =
    let picked : c.if-sell.area.now ≡ pick c.args.sell c.args.sells.now c.args.buys.now =
    elim c.if-sell.branch [ then-sell w ↦ rw (w.if-sell.true, w.area-is) | else-sell w ↦ rw (w.if-sell.false, w.area-is) ] in
    whole_queue _ _ _ _ _ _ c.if-contract-eq0.false c.if-contract-contracts.false c.if-contract-gt-MAX_CONTRACTS.false c.if-count-gt-MAX_RESTING.false _ picked c.if-e-area.false
