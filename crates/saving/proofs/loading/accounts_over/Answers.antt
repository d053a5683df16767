-- Assumes nothing.
use Rattle.std.proofs.Common.{arith, refl, get_or}
use Rattle.laws.specs.Written.{writing_none, writing_more, writing_done}
use Rattle.rules.specs.Exchange.{no_account}
use Rattle.saving.proofs.Placed.{account_over, inside}
use Rattle.saving.proofs.loading.accounts_over.Goals as goal

pub loop-a-init : goal.loop-a-init
loop-a-init c = writing_none _ _ _

pub overflow_mul-row_width-in-loop-a : goal.overflow_mul-row_width-in-loop-a
overflow_mul-row_width-in-loop-a c = omega (arith, (inside _ _ _ c.args.file.now.laid _ c.loop-a-test.true).small)

pub overflow_add-rows-in-loop-a : goal.overflow_add-rows-in-loop-a
overflow_add-rows-in-loop-a c =
    omega (arith, c.args.file.now.laid.few_accounts, c.args.file.now.laid.few_contracts, (inside _ _ _ c.args.file.now.laid _ c.loop-a-test.true).small)

pub account_over-requires : goal.account_over-requires
account_over-requires c =
    let i = inside _ _ _ c.args.file.now.laid _ c.loop-a-test.true in
    (c.args.file.now.laid.few_contracts, i.entry, i.row)

pub loop-a-preserved : goal.loop-a-preserved
loop-a-preserved c =
    writing_more _ _ _ (omega (arith, c.args.file.now.laid.few_accounts)) _ _ _ c.loop-a-test.true
    (account_over _ _ _ c.args.file.now.laid _ c.loop-a-test.true _ _ _ refl refl refl _ (get_or c.args.places c.loop-a.a no_account) c.account_over.ensures)
    c.loop-a.invariant

pub returns : goal.returns
returns c = writing_done _ _ _ _ _ c.loop-a-test.false c.loop-a.invariant
