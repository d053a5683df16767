-- By its two legs.
use Rattle.clients.proofs.Postings.{as_clients}
use Rattle.clients.proofs.posting.client_trade.Goals as goal

pub returns : goal.returns
returns c = as_clients _ _ _ _ _ _ _ _ c.client_leg-buyer.ensures.place c.client_leg-seller.ensures.place c.client_leg-buyer.ensures.mark c.client_leg-seller.ensures.mark
