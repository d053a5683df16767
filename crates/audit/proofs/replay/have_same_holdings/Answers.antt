use Rattle.std.proofs.Common.{◌≡◌, sym, ◌∙◌, length, take, arith, rules, tests, length-take-le}
use Rattle.laws.specs.Lists.{unmapped}
use Rattle.audit.proofs.Iterated.{zip_tested}
use Rattle.audit.proofs.UsedAccounts.{holdings_compared}
use Rattle.audit.proofs.replay.have_same_holdings.Goals as goal

pub returns : goal.returns
returns c =
    let l = take c.args.accounts c.args.list in
    let r = take c.args.accounts c.args.others in
    let e : length c.args.list ≡ 32 = search (rules, unmapped) in
    let f : length c.args.others ≡ 32 = search (rules, unmapped) in
    zip_tested _ l r _ c.all.new.self (cc) (cc) c.all.ensures.ran (λ x b q k. search (rules, tests))
    ∙ holdings_compared c.args.contracts l r (length-take-le _ c.args.list (omega arith) ∙ sym (length-take-le _ c.args.others (omega arith)))
