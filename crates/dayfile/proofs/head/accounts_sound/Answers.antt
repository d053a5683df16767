-- Assumes nothing.
use Rattle.std.proofs.Common.{sym, ◌∙◌}
use Rattle.laws.specs.Choice.{all_none, all_more, all_stop}
use Rattle.dayfile.proofs.Places.{balance_read, account_passes, account_fails}
use Rattle.dayfile.proofs.head.accounts_sound.Goals as goal

pub loop-a-init : goal.loop-a-init
loop-a-init c = all_none _

pub returns-then-balance_at-gt-MAX_BALANCE : goal.returns-then-balance_at-gt-MAX_BALANCE
returns-then-balance_at-gt-MAX_BALANCE c =
    let e = c.balance_at.ensures ∙ sym (balance_read _ _ _ c.requires.1) in
    sym (all_stop _ _ _ c.loop-a-test.true (account_fails _ _ _ e c.if-balance_at-gt-MAX_BALANCE.true))

pub loop-a-preserved : goal.loop-a-preserved
loop-a-preserved c =
    let e = c.balance_at.ensures ∙ sym (balance_read _ _ _ c.requires.1) in
    all_more _ _ c.loop-a.invariant (account_passes _ _ _ e c.if-balance_at-gt-MAX_BALANCE.false)
