use Rattle.std.proofs.Common.{◌≡◌, sym, ◌∙◌, length, take, arith, rules, tests, length-take-le}
use Rattle.laws.specs.Lists.{unmapped}
use Rattle.audit.proofs.Iterated.{zip_tested}
use Rattle.audit.proofs.UsedAccounts.{lots_compared, same_pair}
use Rattle.audit.proofs.replay.has_same_lots.Goals as goal

pub returns : goal.returns
returns c =
    let hs = take c.args.contracts c.args.a.holdings in
    let gs = take c.args.contracts c.args.b.holdings in
    let e : length c.args.a.holdings ≡ 4 = search (rules, unmapped) in
    let f : length c.args.b.holdings ≡ 4 = search (rules, unmapped) in
    zip_tested same_pair hs gs _ c.all.new.self (cc) (cc) c.all.ensures.ran (λ x b q k. search (rules, tests))
    ∙ lots_compared hs gs (length-take-le _ c.args.a.holdings (omega arith) ∙ sym (length-take-le _ c.args.b.holdings (omega arith)))
