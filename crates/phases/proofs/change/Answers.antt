-- `phases::change` meets its contract: each return by its law in Changes.antt. Assumes nothing.
use Rattle.std.proofs.Common.{refl, sym, ◌∙◌}
use Rattle.phases.proofs.Changes.{phase_unknown, phase_absent, phase_unlisted, phase_accepted}
use Rattle.engine.proofs.Decisions.{match_decided}
use Rattle.engine.proofs.Formed.{contract_fits, formed}
use Rattle.engine.proofs.Tests.{place_below}
use Rattle.phases.proofs.change.Goals as goal

pub is_match-requires : goal.is_match-requires
is_match-requires c = (formed c.args.market.now.formed).contracts_high

pub returns-then-is_match : goal.returns-then-is_match
returns-then-is_match c = match_decided c.args.market.now.formed _ _ (sym c.is_match.ensures ∙ c.if-is_match.true) c.left.ensures

pub returns-then-not-is_known : goal.returns-then-not-is_known
returns-then-not-is_known c =
    phase_unknown c.args.market.now.formed _ _ (sym c.is_known.ensures ∙ c.if-not-is_known.true) refl

pub returns-then-is_absent : goal.returns-then-is_absent
returns-then-is_absent c =
    phase_absent c.args.market.now.formed _ _ (sym c.is_known.ensures ∙ c.if-not-is_known.false) (sym c.is_absent.ensures ∙ c.if-is_absent.true) refl

pub place_of-requires : goal.place_of-requires
place_of-requires c = (place_below _ _ (sym c.is_absent.ensures ∙ c.if-is_absent.false)).0

pub listed_at-listed-requires : goal.listed_at-listed-requires
listed_at-listed-requires c = contract_fits c.args.market.now.formed _ c.place_of.ensures (sym c.is_absent.ensures ∙ c.if-is_absent.false)

pub returns-then-not-is_listed : goal.returns-then-not-is_listed
returns-then-not-is_listed c =
    phase_unlisted c.args.market.now.formed _ _ (sym c.is_known.ensures ∙ c.if-not-is_known.false) (sym c.is_absent.ensures ∙ c.if-is_absent.false)
    c.place_of.ensures c.listed_at-listed.ensures c.is_listed.ensures c.if-not-is_listed.true refl

pub returns : goal.returns
returns c =
    phase_accepted c.args.market.now.formed _ _ (sym c.is_known.ensures ∙ c.if-not-is_known.false) (sym c.is_absent.ensures ∙ c.if-is_absent.false)
    c.place_of.ensures c.listed_at-listed.ensures c.is_listed.ensures c.if-not-is_listed.false
    (sym c.is_match.ensures ∙ c.if-is_match.false) c.accepted.ensures
