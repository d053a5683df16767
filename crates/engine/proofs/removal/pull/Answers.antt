-- `removal::pull` meets its contract: each return by its law in Removals.antt. Assumes nothing.
use Rattle.std.proofs.Common.{arith, refl, sym}
use Rattle.theory.proofs.Codes.{not_accepted}
use Rattle.engine.proofs.Decisions.{refusal_passed}
use Rattle.engine.proofs.Formed.{formed}
use Rattle.engine.proofs.Removals.{account_low, contract_low, contract_fits, bids_few, bids_room, offers_few, offers_room, pulled_few, pull_refused, pull_accepted}
use Rattle.engine.proofs.removal.pull.Goals as goal

pub refusal-requires : goal.refusal-requires
refusal-requires c = ((formed c.requires).contracts_high, (formed c.requires).accounts_high)

pub returns-in_err-refusal : goal.returns-in_err-refusal
returns-in_err-refusal c = pull_refused c.requires _ _ _ (c.in_err-refusal.ensures c.requires.declared _ _ _) (not_accepted _) (refusal_passed _ _ c.from_residual.ensures.1)

pub place_of-c-requires : goal.place_of-c-requires
place_of-c-requires c = contract_low c.requires _ _ _ (sym (c.in_ok-refusal.ensures c.requires.declared _ _ _))

pub place_word-a-requires : goal.place_word-a-requires
place_word-a-requires c = account_low c.requires _ _ _ (sym (c.in_ok-refusal.ensures c.requires.declared _ _ _))

pub listed_at-listed-requires : goal.listed_at-listed-requires
listed_at-listed-requires c = contract_fits c.requires _ _ _ (sym (c.in_ok-refusal.ensures c.requires.declared _ _ _)) c.place_of-c.ensures

pub pull-bid-requires : goal.pull-bid-requires
pull-bid-requires c =
    let pre = c.requires in
    let none = sym (c.in_ok-refusal.ensures pre.declared _ _ _) in
    (bids_few pre _ _ _ none c.place_of-c.ensures c.listed_at-listed.ensures, bids_room pre _ _ _ none c.place_of-c.ensures c.listed_at-listed.ensures)

pub pull-offer-requires : goal.pull-offer-requires
pull-offer-requires c =
    let pre = c.requires in
    let none = sym (c.in_ok-refusal.ensures pre.declared _ _ _) in
    (offers_few pre _ _ _ none c.place_of-c.ensures c.listed_at-listed.ensures, offers_room pre _ _ _ none c.place_of-c.ensures c.listed_at-listed.ensures)

pub overflow_add-lots : goal.overflow_add-lots
overflow_add-lots c =
    omega (
      arith,
      pulled_few c.requires _ _ _ (sym (c.in_ok-refusal.ensures c.requires.declared _ _ _)) c.place_of-c.ensures
          c.place_word-a.ensures c.listed_at-listed.ensures c.pull-bid.ensures c.pull-offer.ensures,
    )

pub overflow_cast-lots : goal.overflow_cast-lots
overflow_cast-lots c =
    omega (
      arith,
      pulled_few c.requires _ _ _ (sym (c.in_ok-refusal.ensures c.requires.declared _ _ _)) c.place_of-c.ensures
          c.place_word-a.ensures c.listed_at-listed.ensures c.pull-bid.ensures c.pull-offer.ensures,
    )

pub returns : goal.returns
returns c =
    pull_accepted c.requires _ _ _ (sym (c.in_ok-refusal.ensures c.requires.declared _ _ _)) c.place_of-c.ensures c.place_word-a.ensures
    c.listed_at-listed.ensures c.pull-bid.ensures c.pull-offer.ensures
    c.with_orders-left.ensures refl c.accepted.ensures
