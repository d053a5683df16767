-- What a match leaves of its contract. Assumes nothing.
use Rattle.std.specs.Prelude.{ℕ}
use Rattle.rules.specs.Bounds.{continuous}
use Rattle.rules.specs.Step.{answer_of, with_last, with_phase}
use Rattle.rules.specs.declared.State.{State}
use Rattle.auction.specs.declared.matched.Match.{Match}
use Rattle.engine.specs.Decision.{listed_in}
use Rattle.engine.specs.declared.updates.Carried.{Carried}
use Rattle.engine.specs.declared.updates.Listed.{Listed}

-- the contract continuous, with its last price, its counts of orders and the trades of the day
abbrev pub matched_as : Listed → Match → Listed
matched_as l m =
    record {
      place = l.place;
      terms = with_phase (with_last l.terms m.last) continuous;
      bought = m.bought;
      sold = m.sold;
      recorded = m.made;
      next = l.next;
      nextstamp = l.nextstamp;
    }

-- nothing has happened: the accounts, and the contract at a place as it stands
abbrev pub refused_at : State → ℕ → ℕ → Carried
refused_at s c code = record { accounts = s.accounts; listed = listed_in s c; answer = answer_of code 0 0 0 }
