-- `changing::lose_place` meets its contract: refused, the order is where it was; accepted, it arrives. Assumes nothing.
use Rattle.std.proofs.Common.{refl}
use Rattle.theory.proofs.Codes.{not_accepted}
use Rattle.changing.proofs.Changing.{can_put_back, enters, gone_formed, gone_lots, gone_owner, gone_present, its_place, less_fits, lost_decided, lost_known, lost_refused, one_there}
use Rattle.changing.proofs.lose_place.Goals as goal

pub one_less-less-requires : goal.one_less-less-requires
one_less-less-requires c =
    let p = c.requires in
    one_there p.formed _ _ _ _ _ p.changeable p.listed

pub with_counts-gone-requires : goal.with_counts-gone-requires
with_counts-gone-requires c =
    let p = c.requires in
    less_fits p.formed _ _ _ _ _ p.changeable p.listed c.one_less-less.ensures

pub take_out-requires : goal.take_out-requires
take_out-requires c =
    let p = c.requires in
    its_place p.formed _ _ _ _ _ p.changeable p.listed

pub invariant_of-market : goal.invariant_of-market
invariant_of-market c =
    let p = c.requires in
    record {
      formed = gone_formed p.formed _ _ _ _ _ p.changeable p.some p.lost p.listed c.one_less-less.ensures c.take_out.ensures.buys_after
          c.take_out.ensures.sells_after c.with_counts-gone.ensures;
    }

pub reentry_code-requires : goal.reentry_code-requires
reentry_code-requires c =
    let p = c.requires in
    let again = c.arriving-o.ensures in (
      gone_present p.formed _ _ _ _ _ p.changeable p.some p.lost p.listed c.one_less-less.ensures c.take_out.ensures.buys_after
          c.take_out.ensures.sells_after c.with_counts-gone.ensures again,
      gone_lots p.formed _ _ _ _ _ p.changeable p.some p.lost p.listed c.one_less-less.ensures c.take_out.ensures.buys_after
          c.take_out.ensures.sells_after c.with_counts-gone.ensures again,
      gone_owner p.formed _ _ _ _ _ p.changeable p.some p.lost p.listed c.one_less-less.ensures c.take_out.ensures.buys_after
          c.take_out.ensures.sells_after c.with_counts-gone.ensures again p.owner,
    )

pub put_back-requires : goal.put_back-requires
put_back-requires c =
    let p = c.requires in
    can_put_back p.formed _ _ _ _ _ p.changeable p.some p.lost p.listed c.one_less-less.ensures c.take_out.ensures.buys_after
    c.take_out.ensures.sells_after c.with_counts-gone.ensures c.arriving-o.ensures
    c.in-Err.ensures (not_accepted _)

pub returns-in-Err : goal.returns-in-Err
returns-in-Err c =
    let p = c.requires in
    lost_refused p.formed _ _ _ _ _ p.changeable p.some p.lost p.listed c.one_less-less.ensures c.take_out.ensures.buys_after
    c.take_out.ensures.sells_after c.with_counts-gone.ensures c.arriving-o.ensures
    c.in-Err.ensures (not_accepted _) c.put_back.ensures.buys_after c.put_back.ensures.sells_after refl

pub arrival_of-a-requires : goal.arrival_of-a-requires
arrival_of-a-requires c =
    let p = c.requires in
    lost_known p.formed _ _ _ _ _ p.changeable p.some p.lost p.listed c.one_less-less.ensures c.take_out.ensures.buys_after
    c.take_out.ensures.sells_after c.with_counts-gone.ensures c.arriving-o.ensures
    c.in_default.ensures refl

pub arrive-requires : goal.arrive-requires
arrive-requires c =
    let p = c.requires in
    (enters p.formed _ _ _ _ _ p.changeable p.some p.lost p.listed c.one_less-less.ensures c.take_out.ensures.buys_after
    c.take_out.ensures.sells_after c.with_counts-gone.ensures c.arriving-o.ensures
    c.in_default.ensures refl c.arrival_of-a.ensures).arrives

pub returns : goal.returns
returns c =
    let p = c.requires in
    lost_decided p.formed _ _ _ _ _ p.changeable p.some p.lost p.listed c.one_less-less.ensures c.take_out.ensures.buys_after
    c.take_out.ensures.sells_after c.with_counts-gone.ensures c.arriving-o.ensures
    c.in_default.ensures refl c.arrival_of-a.ensures c.arrive.ensures
