-- What `codes::book_code` leaves: the tests in the order of the list. Assumes nothing.
use Rattle.std.proofs.Common.{◌≡◌, refl, sym, ◌∙◌}
use Rattle.rules.specs.Answers.{kill_refused, full_refused}
use Rattle.rules.specs.Bounds.{in_auction}
use Rattle.rules.specs.declared.NewOrder.{NewOrder}
use Rattle.refusals.proofs.Inserting.{book_tests}
use Rattle.refusals.proofs.codes.book_code.Goals as goal

pub returns-then-used_up : goal.returns-then-used_up
returns-then-used_up c = λ x m. sym (book_tests m ∙ rw (← c.used_up.ensures, c.if-used_up.true) refl)

pub returns-then-kill_refused : goal.returns-then-kill_refused
returns-then-kill_refused c = λ x m.
    let o : NewOrder = c.args.o in
    let e : c.kill_refused.result ≡ kill_refused _ o.lots o.time = c.kill_refused.ensures in
    sym (book_tests m ∙ rw (← c.used_up.ensures, c.if-used_up.false, ← e, c.if-kill_refused.true) refl)

pub returns-then-trades_refused : goal.returns-then-trades_refused
returns-then-trades_refused c =
    λ x m. sym (book_tests m ∙ rw (
      ← c.used_up.ensures,
      c.if-used_up.false,
      ← c.kill_refused.ensures,
      c.if-kill_refused.false,
      ← c.trades_refused.ensures,
      c.if-trades_refused.true,
    ) refl)

pub returns-then-full_refused : goal.returns-then-full_refused
returns-then-full_refused c =
    λ x m.
    let o : NewOrder = c.args.o in
    let e : c.full_refused.result ≡ full_refused (in_auction c.args.terms) c.args.own _ o.lots o.time = c.full_refused.ensures in
    sym (book_tests m ∙ rw (
      ← c.used_up.ensures,
      c.if-used_up.false,
      ← c.kill_refused.ensures,
      c.if-kill_refused.false,
      ← c.trades_refused.ensures,
      c.if-trades_refused.false,
      ← e,
      c.if-full_refused.true,
    ) refl)

pub returns : goal.returns
returns c =
    λ x m. sym (book_tests m ∙ rw (
      ← c.used_up.ensures,
      c.if-used_up.false,
      ← c.kill_refused.ensures,
      c.if-kill_refused.false,
      ← c.trades_refused.ensures,
      c.if-trades_refused.false,
      ← c.full_refused.ensures,
      c.if-full_refused.false,
    ) refl)
