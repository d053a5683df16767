-- A posting of the order is one more, any other is passed over; one posting alone gives the client.
use Rattle.std.proofs.Common.{◌∙◌}
use Rattle.clients.proofs.Postings.{met_none, met_other, met_more, place_times, place_zero, place_past, place_known}
use Rattle.clients.proofs.posting.client_place.Goals as goal
use Rattle.clients.proofs.posting.client_place.Goals.{then-postings-i, else-postings-i, then-client-lt1-via-then-client-lt1, then-client-lt1-via-else-client-lt1+then-clients-client}

pub loop-i-init : goal.loop-i-init
loop-i-init c = met_none _ _

pub loop-i-preserved : goal.loop-i-preserved
loop-i-preserved c =
    elim c.if-postings-i.branch [
      | then-postings-i w ↦ rw (w.times-is, w.client-is) (met_more _ _ _ _ _ c.loop-i-test.true c.loop-i.invariant w.if-postings-i.true)
      | else-postings-i w ↦ rw (w.times-is, w.client-is) (met_other _ _ _ _ _ c.loop-i-test.true c.loop-i.invariant w.if-postings-i.false)
    ]

pub returns-then-times-ne1 : goal.returns-then-times-ne1
returns-then-times-ne1 c = place_times _ _ _ _ _ _ c.loop-i-test.false c.loop-i.invariant c.if-times-ne1.true

pub returns-then-client-lt1 : goal.returns-then-client-lt1
returns-then-client-lt1 c =
    elim c.then-client-lt1.branch [
      | then-client-lt1-via-then-client-lt1 w ↦ place_zero _ _ _ _ _ _ c.loop-i-test.false c.loop-i.invariant c.if-times-ne1.false w.if-client-lt1.true
      | then-client-lt1-via-else-client-lt1+then-clients-client w ↦
          place_past _ _ _ _ _ _ c.loop-i-test.false c.loop-i.invariant c.if-times-ne1.false w.if-client-lt1.false w.if-clients-client.true
    ]

pub returns : goal.returns
returns c =
    c.place_word.ensures ∙ place_known _ _ _ _ _ _ c.loop-i-test.false c.loop-i.invariant
    c.if-times-ne1.false c.if-client-lt1.false c.if-clients-client.false
