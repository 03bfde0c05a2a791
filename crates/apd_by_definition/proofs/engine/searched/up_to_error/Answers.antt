use Rattle.std.proofs.Common.{sym, ◌∙◌}
use Rattle.apd_by_definition.proofs.PlainRuns.{keeps_last, keeps_more}
use Rattle.apd_by_definition.proofs.engine.searched.up_to_error.Goals as goal

pub returns-then-last : goal.returns-then-last
returns-then-last c =
    keeps_last c.args.items.items c.items.kept.items c.push_back.new.self.items c.items.items.items c.pop_front.new.self.items c.in-Some.item c.items.invariant c.in-Some.ensures.items c.in_ok-push_back.ensures.items
    (sym c.is_error-last.ensures ∙ c.if-last.true)

pub items-preserved : goal.items-preserved
items-preserved c =
    keeps_more c.args.items.items c.items.kept.items c.push_back.new.self.items c.items.items.items c.pop_front.new.self.items c.in-Some.item c.items.invariant c.in-Some.ensures.items c.in_ok-push_back.ensures.items
    (sym c.is_error-last.ensures ∙ c.if-last.false)
