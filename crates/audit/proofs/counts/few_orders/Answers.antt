use Rattle.std.proofs.Common.{ℕ, ◌≤◌, get_or, leb, length, take, sym, ◌∙◌, rules, tests, length-take-le, get_or-take}
use Rattle.audit.proofs.Iterated.{each_read, slice_tested}
use Rattle.audit.proofs.counts.few_orders.Goals as goal

pub returns : goal.returns
returns c =
    let room : c.args.contracts ≤ length c.args.counts = search rules in
    slice_tested (λ (n : ℕ). leb n 64) _ (cc) c.all.ensures.ran (λ x b q k. search (rules, tests))
    ∙ sym (each_read (λ (n : ℕ). leb n 64) (take c.args.contracts c.args.counts) 0 (λ i. get_or c.args.counts i 0) (length-take-le _ _ room) (λ i h. get_or-take _ _ i 0 h))
