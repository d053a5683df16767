-- Assumes nothing.
use Rattle.std.proofs.Common.{◌≡◌, sym, ◌∙◌, ap₂, arith}
use Rattle.dayfile.specs.Opening.{account_with, opening_holder, opening_accounts}
use Rattle.dayfile.proofs.Filled.{filled_none, fill}
use Rattle.dayfile.proofs.Places.{balance_read, balance_most_lem, maker_read, sound_layout}
use Rattle.dayfile.proofs.open.opening_accounts.Goals as goal

pub loop-a-init : goal.loop-a-init
loop-a-init c = rw c.account_with-none.ensures (sym (filled_none _ _ _))

pub account_with-requires : goal.account_with-requires
account_with-requires c =
    let f = c.args.file.now.bytes.now in
    let a = c.loop-a.a in
    omega (arith, c.balance_at.ensures, balance_read f _ a c.requires.0, balance_most_lem f c.args.file.now.sound a (omega arith))

pub loop-a-preserved : goal.loop-a-preserved
loop-a-preserved c =
    let f = c.args.file.now.bytes.now in
    let a = c.loop-a.a in
    let l = sound_layout f c.args.file.now.sound in
    let balance = c.balance_at.ensures ∙ sym (balance_read f _ a c.requires.0) in
    let maker = c.maker_at.ensures ∙ sym (maker_read f _ a c.requires.0) in
    let holder = c.account_with.ensures ∙ ap₂ account_with balance maker in
    fill 32 (account_with 0 0) (opening_holder f) a (omega arith) c.loop-a.invariant holder

pub returns : goal.returns
unfolding opening_accounts
returns c = let e : c.loop-a.a ≡ c.args.accounts = omega arith in rw (c.loop-a.invariant, e, c.requires.1)
