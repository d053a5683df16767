-- A leg of the account is not posted, or the clients' day is told.
use native.Mathlib.Omega.{arith}
use Rattle.std.proofs.Common.{[], ℕ, ◌≡◌, Err}
use Rattle.std.proofs.lemmas.Grind.{common_steps}
use Rattle.rules.specs.declared.codes.Code.TheVariants.{OrderUnposted}
use Rattle.std.proofs.Math.ListN.{length-replicate}
use Rattle.rules.specs.Memory.{trades_words}
use Rattle.clients.proofs.PostedTrades.{all_known, none_posted, posted_content, posted_legs}
use Rattle.statements.proofs.Brokering.{few_trades, trade_room, brokered, posted_told, posted_26}
use Rattle.statements.proofs.broker.posted_statement.Goals as goal

pub post_trades-requires : goal.post_trades-requires
post_trades-requires c = (c.requires.few, few_trades _ _ _ _ _ _ _ c.requires [], trade_room _ _ _ _ _ _ _ c.requires [], omega (arith, few_trades _ _ _ _ _ _ _ c.requires []))

pub returns-in_err-legs : goal.returns-in_err-legs
returns-in_err-legs c =
    let none = rw c.in_err-legs.ensures.ok_part at c.post_trades.ensures in
    let err : c.from_residual.result ≡ Err OrderUnposted = grind (arith, common_steps) in
    rw err (posted_26 _ _ _ _ _ _ _ c.requires _ (none_posted none) _)

pub tell-requires : goal.tell-requires
tell-requires c =
    let posted = rw c.in_ok-legs.ensures.ok_part at c.post_trades.ensures in
    brokered _ _ _ _ _ _ _ c.requires _ _ _ (length-replicate {A = ℕ} trades_words 0) (posted_content posted) _ (posted_legs posted)

pub returns : goal.returns
returns c =
    let posted = rw c.in_ok-legs.ensures.ok_part at c.post_trades.ensures in
    posted_told _ _ _ _ _ _ _ c.requires _ _ _ (length-replicate {A = ℕ} trades_words 0) (posted_content posted) (all_known posted)
    _ _ _ c.tell.ensures
