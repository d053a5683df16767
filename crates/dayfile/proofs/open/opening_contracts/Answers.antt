-- Assumes nothing.
use Rattle.std.proofs.Common.{◌≡◌, rules, sym, arith}
use Rattle.rules.specs.DayFile.{contract_place}
use Rattle.rules.specs.Exchange.{no_contract}
use Rattle.dayfile.specs.Opening.{opening_contract, opening_contracts}
use Rattle.dayfile.proofs.Filled.{filled_none, fill}
use Rattle.dayfile.proofs.Places.{sound_layout}
use Rattle.dayfile.proofs.open.opening_contracts.Goals as goal

pub loop-c-init : goal.loop-c-init
loop-c-init c = let zero : c.default-places.result ≡ no_contract = search rules in rw zero (sym (filled_none _ _ _))

pub loop-c-preserved : goal.loop-c-preserved
unfolding contract_place
loop-c-preserved c =
    let l = sound_layout _ c.args.file.now.sound in
    fill 4 no_contract (opening_contract c.args.file.now.bytes.now) _ (omega arith) c.loop-c.invariant c.contract_at.ensures

pub returns : goal.returns
unfolding opening_contracts
returns c = let e : c.loop-c.c ≡ c.args.contracts = omega arith in rw (c.loop-c.invariant, e, c.requires)
