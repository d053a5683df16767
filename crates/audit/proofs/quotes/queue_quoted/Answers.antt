use Rattle.laws.specs.Lists.{unmapped}
use Rattle.std.proofs.Common.{◌≡◌, length, sym, ◌∙◌, arith, rules}
use Rattle.audit.proofs.MarkedOrders.{all_met, few_accounts, maker_read, mark_met, met_again, met_close, met_marked, met_no_maker, met_none, met_unmarked}
use Rattle.audit.proofs.quotes.queue_quoted.Goals as goal
use Rattle.audit.proofs.quotes.queue_quoted.Goals.{then-state-a-ne1-via-then-state-a-ne1, then-state-a-ne1-via-else-state-a-ne1+then-o-ne0}
use Rattle.audit.proofs.quotes.queue_quoted.Goals.{then-state-a-ne1-via-else-state-a-ne1+else-o-ne0+then-seen-a}

pub loop-i-init : goal.loop-i-init
loop-i-init c =
    let room : length c.args.state.accounts ≡ 32 = search (rules, unmapped) in
    met_none _ (few_accounts _ _ room c.requires.0) _

pub loop-i-preserved-then-o-eq0 : goal.loop-i-preserved-then-o-eq0
loop-i-preserved-then-o-eq0 c =
    let room : length c.args.state.accounts ≡ 32 = search (rules, unmapped) in
    met_unmarked _ (few_accounts _ _ room c.requires.0) _ c.loop-i.invariant (omega arith) (sym c.order-o.ensures) c.if-o-eq0.true

pub bounds-state-a : goal.bounds-state-a
bounds-state-a c =
    let room : length c.args.state.accounts ≡ 32 = search (rules, unmapped) in
    let m = mark_met _ _ room c.requires.0 _ c.requires.1 (omega arith) c.order-o.ensures c.loop-i.invariant c.if-o-eq0.false in
    omega (arith, m.may.account, m.few)

pub returns-then-state-a-ne1 : goal.returns-then-state-a-ne1
returns-then-state-a-ne1 c =
    let room : length c.args.state.accounts ≡ 32 = search (rules, unmapped) in
    let m = mark_met _ _ room c.requires.0 _ c.requires.1 (omega arith) c.order-o.ensures c.loop-i.invariant c.if-o-eq0.false in
    elim c.then-state-a-ne1.branch [
      | then-state-a-ne1-via-then-state-a-ne1 w ↦ met_no_maker m (λ e. w.if-state-a-ne1.true (sym (maker_read _ _ room c.requires.0 m.may.account) ∙ e))
      | then-state-a-ne1-via-else-state-a-ne1+then-o-ne0 w ↦ met_close m w.if-o-ne0.true
      | then-state-a-ne1-via-else-state-a-ne1+else-o-ne0+then-seen-a w ↦ met_again m w.if-seen-a.true
    ]

pub loop-i-preserved : goal.loop-i-preserved
loop-i-preserved c =
    let room : length c.args.state.accounts ≡ 32 = search (rules, unmapped) in
    let m = mark_met _ _ room c.requires.0 _ c.requires.1 (omega arith) c.order-o.ensures c.loop-i.invariant c.if-o-eq0.false in
    met_marked m (maker_read _ _ room c.requires.0 m.may.account ∙ c.if-state-a-ne1.false) c.if-o-ne0.false c.if-seen-a.false

pub returns : goal.returns
returns c =
    let room : length c.args.state.accounts ≡ 32 = search (rules, unmapped) in
    all_met _ (few_accounts _ _ room c.requires.0) _ c.loop-i.invariant (omega arith)
