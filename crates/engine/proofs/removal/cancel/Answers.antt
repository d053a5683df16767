-- `removal::cancel` meets its contract: each return by its law in Removals.antt. Assumes nothing.
use Rattle.std.proofs.Common.{sym}
use Rattle.theory.proofs.Codes.{not_accepted}
use Rattle.engine.proofs.Decisions.{refusal_passed}
use Rattle.engine.proofs.Formed.{formed}
use Rattle.engine.proofs.Removals.{account_low, contract_low, contract_fits, bids_room, bids_once, offers_room, offers_once}
use Rattle.engine.proofs.Removals.{cancel_refused, bid_done, bid_another, offer_another, none_there, offer_done}
use Rattle.engine.proofs.removal.cancel.Goals as goal

pub refusal-requires : goal.refusal-requires
refusal-requires c = ((formed c.requires).contracts_high, (formed c.requires).accounts_high)

pub returns-in_err-refusal : goal.returns-in_err-refusal
returns-in_err-refusal c = cancel_refused c.requires _ _ _ _ (c.in_err-refusal.ensures c.requires.declared _ _ _) (not_accepted _) (refusal_passed _ _ c.from_residual.ensures.1)

pub place_of-c-requires : goal.place_of-c-requires
place_of-c-requires c = contract_low c.requires _ _ _ (sym (c.in_ok-refusal.ensures c.requires.declared _ _ _))

pub place_word-a-requires : goal.place_word-a-requires
place_word-a-requires c = account_low c.requires _ _ _ (sym (c.in_ok-refusal.ensures c.requires.declared _ _ _))

pub listed_at-listed-requires : goal.listed_at-listed-requires
listed_at-listed-requires c = contract_fits c.requires _ _ _ (sym (c.in_ok-refusal.ensures c.requires.declared _ _ _)) c.place_of-c.ensures

pub cancel_in-requires : goal.cancel_in-requires
cancel_in-requires c =
    let pre = c.requires in
    let none = sym (c.in_ok-refusal.ensures pre.declared _ _ _) in
    (bids_room pre _ _ _ none c.place_of-c.ensures c.listed_at-listed.ensures, bids_once pre _ _ _ none c.place_of-c.ensures c.listed_at-listed.ensures)

pub returns-in_err-bid : goal.returns-in_err-bid
returns-in_err-bid c =
    rw (refusal_passed _ _ c.from_residual-in_err-bid.ensures.1)
    (bid_another c.requires _ _ _ (sym (c.in_ok-refusal.ensures c.requires.declared _ _ _)) c.place_of-c.ensures _ c.listed_at-listed.ensures c.place_word-a.ensures c.in_err-bid.ensures)

pub returns-in-Some : goal.returns-in-Some
returns-in-Some c =
    bid_done c.requires _ _ _ (sym (c.in_ok-refusal.ensures c.requires.declared _ _ _)) c.place_of-c.ensures _ c.listed_at-listed.ensures c.place_word-a.ensures
    (rw c.in-Some.is at c.in_ok-bid.ensures) c.with_orders-left.ensures c.accepted.ensures

pub cancel_in-requires-2 : goal.cancel_in-requires-2
cancel_in-requires-2 c =
    let pre = c.requires in
    let none = sym (c.in_ok-refusal.ensures pre.declared _ _ _) in
    (offers_room pre _ _ _ none c.place_of-c.ensures c.listed_at-listed.ensures, offers_once pre _ _ _ none c.place_of-c.ensures c.listed_at-listed.ensures)

pub returns-in_err-offer : goal.returns-in_err-offer
returns-in_err-offer c =
    rw (refusal_passed _ _ c.from_residual-in_err-offer.ensures.1)
    (offer_another c.requires _ _ _ (sym (c.in_ok-refusal.ensures c.requires.declared _ _ _)) c.place_of-c.ensures _ c.listed_at-listed.ensures c.place_word-a.ensures
    (rw c.in_default.is at c.in_ok-bid.ensures) c.in_err-offer.ensures)

pub returns-in_default-2 : goal.returns-in_default-2
returns-in_default-2 c =
    none_there c.requires _ _ _ (sym (c.in_ok-refusal.ensures c.requires.declared _ _ _)) c.place_of-c.ensures _ c.listed_at-listed.ensures c.place_word-a.ensures
    (rw c.in_default.is at c.in_ok-bid.ensures) (rw c.in_default-2.is at c.in_ok-offer.ensures)

pub returns : goal.returns
returns c =
    offer_done c.requires _ _ _ (sym (c.in_ok-refusal.ensures c.requires.declared _ _ _)) c.place_of-c.ensures _ c.listed_at-listed.ensures c.place_word-a.ensures
    (rw c.in_default.is at c.in_ok-bid.ensures) (rw c.in-Some-2.is at c.in_ok-offer.ensures) c.with_orders-left-2.ensures c.accepted-2.ensures
