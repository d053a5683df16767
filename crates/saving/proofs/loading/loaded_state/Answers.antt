-- Assumes nothing.
use Rattle.std.proofs.Common.{arith}
use Rattle.saving.proofs.Placed.{state_made}
use Rattle.saving.proofs.loading.loaded_state.Goals as goal

pub returns : goal.returns
returns c =
    state_made c.args.state _ _ _ c.args.file.now.laid (omega (arith, c.args.file.now.laid.few_accounts))
    c.contracts_over.ensures c.accounts_over.ensures c.no_orders.ensures c.no_orders-2.ensures c.u32_at.ensures
