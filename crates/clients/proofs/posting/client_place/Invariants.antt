-- How many of the postings so far are the order's, and whose.
use Rattle.clients.proofs.Postings.{Met}
use Rattle.clients.proofs.posting.client_place.Given as goal

abbrev pub invariant-loop-i : goal.invariant-loop-i
invariant-loop-i l = Met l.postings l.number l.i l.times l.client
